use Rattle.std.proofs.Common.{◌∷◌, drop}
use Rattle.ref_rewrite.specs.declared.pieces.Piece.TheVariants.{Text}
use Rattle.formula_reader.specs.Symbols.{AreOfPieces}
use Rattle.formula_reader.proofs.FormulaSymbols.{Same, AreBehind}
use Rattle.formula_reader.proofs.symbols.pieces.symbols_from.Given as goal

-- the symbols so far and those of the pieces that are left are all of them
abbrev pub invariant-loop-piece : goal.invariant-loop-piece
invariant-loop-piece l =
    Same (AreOfPieces (Text l.text ∷ l.pieces)) (AreBehind l.symbols.items (drop l.piece-index l.pieces))
