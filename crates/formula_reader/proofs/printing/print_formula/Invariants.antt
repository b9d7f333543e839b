use Rattle.std.proofs.Common.{◌≡◌, ◌++◌, string_bytes, drop}
use Rattle.formula_reader.specs.Printed.{printed}
use Rattle.formula_reader.proofs.printing.print_formula.Given as goal

-- what is printed and what the pieces from this one on print is the whole
abbrev pub invariant-loop-piece : goal.invariant-loop-piece
invariant-loop-piece g l =
    string_bytes l.text ++ printed (g.S.SheetNames.sheets l.names) (drop l.piece-index l.piece-items)
    ≡ printed (g.S.SheetNames.sheets l.names) l.piece-items
