-- The tree of a formula that passes no limit of reading.
use Rattle.std.proofs.Common.{◌≡◌, ◌≢◌, ◌⊎◌, inl, inr, Option, Some, None, Ok, Err, refl}
use Rattle.ref_rewrite.specs.declared.pieces.Formula.{Formula}
use Rattle.formula_reader.specs.declared.fault.FormulaFault.{FormulaFault}
use Rattle.formula_reader.specs.declared.fault.FormulaFault.TheVariants.{NoMemory}
use Rattle.formula_reader.specs.Limits.{passed_by_symbols}
use Rattle.formula_reader.specs.Only.{IsOnly}
use Rattle.formula_reader.specs.Symbols.{AreSymbolsOf, IsTreeOf, KeepsLimits}
use Rattle.formula_reader.specs.Tree.{Expression}
use Rattle.cell_calc.specs.Contents.{IsTreeWithin}

pub never_both : {A B : Type 0} (x : A) (one other : B) → (Ok x ≡ Err one) ⊎ (Ok x ≡ Err other) → ⊥
never_both x one other (inl is) = let no : ⊥ = cc in no
never_both x one other (inr is) = let no : ⊥ = cc in no

module _ (text : Formula) where
  pub within : (tree : Option Expression) → KeepsLimits text → IsOnly (IsTreeOf text) tree
      → IsOnly (IsTreeWithin text) tree
  within None keeps only = λ other is. only other is.1
  within (Some tree) keeps only = ((keeps, only.0), λ other is. only.1 other is.1)

  -- what passes no limit keeps them
  pub keeps : ((symbols : _) (fault : FormulaFault) → AreSymbolsOf text.pieces symbols
      → passed_by_symbols symbols ≡ Some fault → ⊥) → KeepsLimits text
  keeps none symbols are = unpassed (passed_by_symbols symbols) refl
    where
      unpassed : (passed : Option FormulaFault) → passed_by_symbols symbols ≡ passed → passed_by_symbols symbols ≡ None
      unpassed None is = is
      unpassed (Some fault) is = absurd (none symbols fault are is)

  -- what passes one has no tree
  pub past : (fault : FormulaFault) → (fault ≡ NoMemory)
      ⊎ ((symbols : _) × AreSymbolsOf text.pieces symbols × (passed_by_symbols symbols ≡ Some fault))
      → fault ≢ NoMemory → IsOnly (IsTreeWithin text) None
  past fault (inl is) other = absurd (other is)
  past fault (inr (symbols, are, passes)) other = λ tree is.
      let none = is.0 symbols are in
      let no : ⊥ = cc in no
