use Rattle.std.proofs.Common.{◌≡◌, take, replicate}
use Rattle.std.specs.List.{count_by}
use Rattle.ref_rewrite.specs.Renaming.{is_word}
use Rattle.ref_rewrite.proofs.renaming.new_words.Given as goal

-- so far there is a new word for each that stands before this place
abbrev pub invariant-loop-piece : goal.invariant-loop-piece
invariant-loop-piece l =
    l.words.items ≡ replicate (count_by (is_word l.old) (take l.piece-index l.pieces)) l.new
