-- Formulas pass a first limit, or none: it can't be that neither is so.
use Rattle.std.proofs.Common.{◌≡◌, ℕ, zero, suc, ◌<◌, ◌≤◌, inl, inr, refl, subst, arith}
use Rattle.std.specs.Prelude.{Option, Some, None, IfSome}
use Rattle.std.proofs.lemmas.Bool.{cases_lt}
use Rattle.formula_reader.specs.declared.fault.FormulaFault.{FormulaFault}
use Rattle.formula_reader.specs.declared.fault.FormulaFault.TheVariants as fault
use Rattle.values_api.specs.Blocks.{Entry, IsFirstPassed, passes, rank}

few_ranks : (limit : FormulaFault) → rank limit < 4
few_ranks fault.Tokens = omega arith
few_ranks fault.References = omega arith
few_ranks fault.Depth = omega arith
few_ranks fault.NoMemory = omega arith

module _ (entries : ℕ → ℕ → Option Entry) (none : (limit : Option FormulaFault) → ¬ (IsFirstPassed entries limit)) where
  -- each limit that is passed has no lower rank
  abbrev NoneBelow : ℕ → Type 0
  NoneBelow least = (row col : ℕ) → IfSome (passes (entries row col)) (λ limit. least ≤ rank limit)

  one_above : (least row col : ℕ) → NoneBelow least → (passed : Option FormulaFault)
      → passes (entries row col) ≡ passed → IfSome passed (λ limit. least ≤ rank limit)
      → IfSome passed (λ limit. suc least ≤ rank limit)
  one_above least row col below None is from = tt
  one_above least row col below (Some limit) is from = elim (cases_lt least (rank limit)) [
    | inl above ↦ omega (arith, above)
    | inr least_is ↦
        let same : least ≡ rank limit = omega (arith, from, least_is) in
        absurd (none (Some limit) (record {
          row = row;
          col = col;
          is = is;
          least = subst NoneBelow same below;
        }))
  ]

  none_below : (least : ℕ) → NoneBelow least
  none_below zero = λ row col. all (passes (entries row col))
    where
      all : (passed : Option FormulaFault) → IfSome passed (λ limit. 0 ≤ rank limit)
      all None = tt
      all (Some limit) = omega arith
  none_below (suc least) = λ row col.
      one_above least row col (none_below least) (passes (entries row col)) refl (none_below least row col)

  none_passed : (row col : ℕ) → passes (entries row col) ≡ None
  none_passed row col = by_limit (passes (entries row col)) (none_below 4 row col)
    where
      by_limit : (passed : Option FormulaFault) → IfSome passed (λ limit. 4 ≤ rank limit) → passed ≡ None
      by_limit None above = refl
      by_limit (Some limit) above = let few = few_ranks limit in absurd (let no : ⊥ = omega (arith, few, above) in no)

  first_or_none : ⊥
  first_or_none = none None none_passed

pub some_first : (entries : ℕ → ℕ → Option Entry) → ¬ ((limit : Option FormulaFault) → ¬ (IsFirstPassed entries limit))
some_first entries none = first_or_none entries none
