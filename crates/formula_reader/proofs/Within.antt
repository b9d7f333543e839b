-- What is read within the limits has the pieces of its tokens.
use Rattle.std.proofs.Common.{◌≡◌, ℕ, List, Option, Some, None, Result, Err, refl, inl, inr}
use Rattle.std.specs.Prelude.{◌⊎◌, IfOk}
use Rattle.ref_rewrite.specs.declared.pieces.Formula.{Formula}
use Rattle.formula_reader.specs.declared.tokens.token.Placed.{Placed}
use Rattle.formula_reader.specs.declared.fault.FormulaFault.{FormulaFault}
use Rattle.formula_reader.specs.declared.fault.FormulaFault.TheVariants as fault
use Rattle.formula_reader.specs.Sheets.{Sheets}
use Rattle.formula_reader.specs.Limits.{passed}
use Rattle.formula_reader.specs.Pieces.{pieces_from, within_limits, formula_of}

-- what holds of a formula of these pieces holds of what is read, unless memory runs out
pub read_has : (P : Formula → Type 0) (sheets : Sheets) (here : ℕ) (text : List ℕ) (tokens : List Placed)
    (result : Result Formula FormulaFault) → (passed tokens ≡ None
    → P (record { pieces = pieces_from sheets here text 0 tokens }))
    → (result ≡ formula_of sheets here text tokens) ⊎ (result ≡ Err fault.NoMemory) → IfOk result P
read_has P sheets here text tokens result holds (inl is) = rw is (within (passed tokens) refl)
  where
    within : (found : Option FormulaFault) → passed tokens ≡ found
        → IfOk (within_limits found (pieces_from sheets here text 0 tokens)) P
    within (Some fault) is = tt
    within None is = holds is
read_has P sheets here text tokens result holds (inr is) = rw is tt
