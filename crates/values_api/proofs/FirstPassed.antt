-- The first limit that formulas pass, with one formula more.
use Rattle.std.proofs.Common.{◌≡◌, ℕ, ◌≤◌, refl, sym, subst, ap, ◌∙◌, cond, Bool, true, false, arith, inl, inr}
use Rattle.std.specs.Prelude.{Option, Some, None, ◌==◌, ◌&&◌, ◌⊎◌, IfSome, nat_le}
use Rattle.std.proofs.lemmas.Bool.{and_parts, eqb-true, eq-eqb, leb-true, leb-false}
use Rattle.formula_reader.specs.declared.fault.FormulaFault.{FormulaFault}
use Rattle.formula_reader.specs.declared.fault.FormulaFault.TheVariants as fault
use Rattle.values_api.specs.Blocks.{Entry, IsFirst, IsFirstPassed, passes, rank}
use Rattle.values_api.specs.Given.{first_of}
use Rattle.values_api.proofs.Listed.{both_true, with_one}

none_some : {A : Type 0} (x : A) → None ≡ Some x → ⊥
none_some x e = cc

-- one place more has an entry, which is the one that it had, if it had one
module _ (entries : ℕ → ℕ → Option Entry) (row col : ℕ) (entry : Entry)
    (before : (entries row col ≡ None) ⊎ (entries row col ≡ Some entry)) where
  abbrev after : ℕ → ℕ → Option Entry
  after = with_one row col entry entries

  abbrev is_place : ℕ → ℕ → Bool
  is_place r c = r == row && c == col

  pushed : (b : Bool) (found : Option Entry) → passes (cond b (Some entry) found) ≡ cond b entry.limit (passes found)
  pushed true found = refl
  pushed false found = refl

  at_place : passes (after row col) ≡ entry.limit
  at_place =
      pushed (is_place row col) (entries row col)
      ∙ ap (λ b. cond b entry.limit (passes (entries row col)))
      (both_true (row == row) (col == col) (eq-eqb row row refl) (eq-eqb col col refl))

  -- what a place passed it passes still
  still : (r c : ℕ) (limit : FormulaFault) → passes (entries r c) ≡ Some limit → passes (after r c) ≡ Some limit
  still r c limit is = by_place (is_place r c) refl
    where
      at : (found : Option Entry) → (found ≡ None) ⊎ (found ≡ Some entry) → passes found ≡ Some limit
          → entry.limit ≡ Some limit
      at found (inl none) is = absurd (none_some limit (ap passes (sym none) ∙ is))
      at found (inr some) is = ap passes (sym some) ∙ is

      by_place : (b : Bool) → is_place r c ≡ b → passes (after r c) ≡ Some limit
      by_place true here =
          let parts = and_parts (r == row) (c == col) here in
          let same : entries r c ≡ entries row col =
          ap (λ n. entries n c) (eqb-true r row parts.0) ∙ ap (λ n. entries row n) (eqb-true c col parts.1) in
          pushed (is_place r c) (entries r c)
          ∙ ap (λ b. cond b entry.limit (passes (entries r c))) here
          ∙ at (entries row col) before (ap passes (sym same) ∙ is)
      by_place false elsewhere =
          pushed (is_place r c) (entries r c)
          ∙ ap (λ b. cond b entry.limit (passes (entries r c))) elsewhere
          ∙ is

  -- what holds of the limits that were passed, and of that one, holds of all
  all_after : (P : FormulaFault → Type 0) → IfSome entry.limit P → ((r c : ℕ) → IfSome (passes (entries r c)) P)
      → (r c : ℕ) → IfSome (passes (after r c)) P
  all_after P own others r c =
      subst (λ found. IfSome found P) (sym (pushed (is_place r c) (entries r c))) (by_place (is_place r c))
    where
      by_place : (b : Bool) → IfSome (cond b entry.limit (passes (entries r c))) P
      by_place true = own
      by_place false = others r c

  none_after : entry.limit ≡ None → ((r c : ℕ) → passes (entries r c) ≡ None) → (r c : ℕ) → passes (after r c) ≡ None
  none_after own others r c = pushed (is_place r c) (entries r c) ∙ by_place (is_place r c)
    where
      by_place : (b : Bool) → cond b entry.limit (passes (entries r c)) ≡ None
      by_place true = own
      by_place false = others r c

  none_holds : (P : FormulaFault → Type 0) (found : Option FormulaFault) → found ≡ None → IfSome found P
  none_holds P found is = subst (λ one. IfSome one P) (sym is) tt

  own_holds : (P : FormulaFault → Type 0) (limit : FormulaFault) → entry.limit ≡ Some limit → P limit
      → IfSome entry.limit P
  own_holds P limit is holds = subst (λ one. IfSome one P) (sym is) holds

  weaker : (P Q : FormulaFault → Type 0) → ((limit : FormulaFault) → P limit → Q limit) → (found : Option FormulaFault)
      → IfSome found P → IfSome found Q
  weaker P Q so None holds = tt
  weaker P Q so (Some limit) holds = so limit holds

  keeps : (limit : FormulaFault) → IsFirst entries limit → IfSome entry.limit (λ other. rank limit ≤ rank other)
      → IsFirst after limit
  keeps limit first own = record {
    row = first.row;
    col = first.col;
    is = still first.row first.col limit first.is;
    least = all_after (λ other. rank limit ≤ rank other) own first.least;
  }

  becomes : (limit : FormulaFault) → entry.limit ≡ Some limit
      → ((r c : ℕ) → IfSome (passes (entries r c)) (λ other. rank limit ≤ rank other)) → IsFirst after limit
  becomes limit own others = record {
    row = row;
    col = col;
    is = at_place ∙ own;
    least = all_after (λ other. rank limit ≤ rank other)
        (own_holds (λ other. rank limit ≤ rank other) limit own (omega arith))
        others;
  }

  by_rank : (one other : FormulaFault) (b : Bool) → nat_le (rank one) (rank other) ≡ b → IsFirst entries one
      → entry.limit ≡ Some other → IsFirst after (cond b one other)
  by_rank one other true is first own =
      keeps one first (own_holds (λ limit. rank one ≤ rank limit) other own (leb-true (rank one) (rank other) is))
  by_rank one other false is first own =
      let less = leb-false (rank one) (rank other) is in
      becomes other own (λ r c. weaker (λ limit. rank one ≤ rank limit) (λ limit. rank other ≤ rank limit)
      (λ limit more. omega (arith, less, more)) (passes (entries r c)) (first.least r c))

  pub first_after : (limit own : Option FormulaFault) → entry.limit ≡ own → IsFirstPassed entries limit
      → IsFirstPassed after (first_of limit own)
  first_after None None own first = none_after own first
  first_after None (Some other) own first =
      becomes other own (λ r c. none_holds (λ limit. rank other ≤ rank limit) (passes (entries r c)) (first r c))
  first_after (Some limit) None own first =
      keeps limit first (none_holds (λ other. rank limit ≤ rank other) entry.limit own)
  first_after (Some limit) (Some other) own first =
      by_rank limit other (nat_le (rank limit) (rank other)) refl first own

-- ---- only one limit is the first

same_rank : (one other : FormulaFault) → rank one ≡ rank other → one ≡ other
same_rank fault.Tokens fault.Tokens is = refl
same_rank fault.References fault.References is = refl
same_rank fault.Depth fault.Depth is = refl
same_rank fault.NoMemory fault.NoMemory is = refl
same_rank fault.Tokens fault.References is = absurd (omega (arith, is))
same_rank fault.Tokens fault.Depth is = absurd (omega (arith, is))
same_rank fault.Tokens fault.NoMemory is = absurd (omega (arith, is))
same_rank fault.References fault.Tokens is = absurd (omega (arith, is))
same_rank fault.References fault.Depth is = absurd (omega (arith, is))
same_rank fault.References fault.NoMemory is = absurd (omega (arith, is))
same_rank fault.Depth fault.Tokens is = absurd (omega (arith, is))
same_rank fault.Depth fault.References is = absurd (omega (arith, is))
same_rank fault.Depth fault.NoMemory is = absurd (omega (arith, is))
same_rank fault.NoMemory fault.Tokens is = absurd (omega (arith, is))
same_rank fault.NoMemory fault.References is = absurd (omega (arith, is))
same_rank fault.NoMemory fault.Depth is = absurd (omega (arith, is))

holds_at : (P : FormulaFault → Type 0) (found : Option FormulaFault) (limit : FormulaFault) → found ≡ Some limit
    → IfSome found P → P limit
holds_at P found limit is holds = subst (λ one. IfSome one P) is holds

pub first_once : (entries : ℕ → ℕ → Option Entry) (one other : Option FormulaFault) → IsFirstPassed entries one
    → IsFirstPassed entries other → one ≡ other
first_once entries None None first first' = refl
first_once entries None (Some other) first first' =
    absurd (none_some other (sym (first first'.row first'.col) ∙ first'.is))
first_once entries (Some one) None first first' =
    absurd (none_some one (sym (first' first.row first.col) ∙ first.is))
first_once entries (Some one) (Some other) first first' =
    let low = holds_at (λ limit. rank one ≤ rank limit) (passes (entries first'.row first'.col)) other first'.is
    (first.least first'.row first'.col) in
    let high = holds_at (λ limit. rank other ≤ rank limit) (passes (entries first.row first.col)) one first.is
    (first'.least first.row first.col) in
    ap (λ limit. Some limit) (same_rank one other (omega (arith, low, high)))
