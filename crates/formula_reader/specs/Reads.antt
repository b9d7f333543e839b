-- Laws of what texts are read as.
use Rattle.std.specs.Prelude.{ℕ, List, Option}
use Rattle.std.specs.List.{All}
use Rattle.ref_rewrite.specs.declared.pieces.Formula.{Formula}
use Rattle.formula_reader.specs.declared.fault.FormulaFault.{FormulaFault}
use Rattle.formula_reader.specs.Pieces.{IsRead}
use Rattle.formula_reader.specs.Printed.{ArePrintable}
use Rattle.formula_reader.specs.ReadBack.{AreKnown, IsPresent}
use Rattle.formula_reader.specs.Sheets.{Sheets}

-- no text is without a formula that is read of it: it can't be that none is there
abbrev pub HasReading : Type 0
HasReading = (sheets : Sheets) (here : ℕ) (text : List ℕ)
    → ¬ ((formula : Formula) (limit : Option FormulaFault) → ¬ (IsRead sheets here text formula limit))

-- where each sheet has a title that names it, what is read can be printed, and its references are to cells that are
-- there
abbrev pub ReadsAreThere : Type 0
ReadsAreThere = (sheets : Sheets) (here : ℕ) (text : List ℕ) (formula : Formula) (limit : Option FormulaFault)
    → IsRead sheets here text formula limit → AreKnown sheets here
    → ArePrintable sheets formula.pieces × All (IsPresent sheets here) formula.pieces
