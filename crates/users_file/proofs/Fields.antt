-- The fields of a row that has two.
use Rattle.std.proofs.Common.{◌≡◌, ◌≢◌, ◌∷◌, [], ℕ, List, Option, Some, None, IfNone, arith, length}
use Rattle.csv.specs.Records.{field_at}

-- the first is there
pub first_there : (fields : List (List ℕ)) → field_at fields 0 ≡ None → length fields ≢ 2
unfolding field_at
first_there [] none two = cc
first_there (first ∷ fields) none two = absurd (cc none)

-- the second is there
pub second_there : (fields : List (List ℕ)) → field_at fields 1 ≡ None → length fields ≢ 2
unfolding field_at
second_there [] none two = cc
second_there (first ∷ []) none two = cc
second_there (first ∷ second ∷ fields) none two = absurd (cc none)

-- and no other
pub two_are : (fields : List (List ℕ)) (first second : List ℕ) → length fields ≡ 2 → field_at fields 0 ≡ Some first
    → field_at fields 1 ≡ Some second → fields ≡ first ∷ second ∷ []
unfolding field_at
two_are [] first second two one other = absurd (cc two)
two_are (a ∷ []) first second two one other = absurd (cc other)
two_are (a ∷ b ∷ []) first second two one other = cc
two_are (a ∷ b ∷ c ∷ more) first second two one other = absurd (omega arith)

-- what holds anyway holds where there is none
pub if_none : {A : Type 0} (found : Option A) (P : Type 0) → P → IfNone found P
if_none None P holds = holds
if_none (Some value) P holds = tt
