use Rattle.ref_rewrite.proofs.Words.{Renames}
use Rattle.ref_rewrite.proofs.renaming.rename_word.Given as goal

abbrev pub invariant-loop-piece : goal.invariant-loop-piece
invariant-loop-piece l = Renames l.old l.new l.fn.formula.pieces l.piece-items l.words.items l.piece-index
