-- Laws of the named range that has an id: it is the only one, and what an update makes of it.
use Rattle.std.proofs.Common.{◌≡◌, ℕ, zero, suc, refl, sym, ap, subst, ◌∙◌, List, [], ◌∷◌, get_or, cond, Bool, true, false, arith}
use Rattle.std.specs.Prelude.{Option, None, Some, IfSome}
use Rattle.std.specs.List.{All}
use Rattle.std.specs.Str.{bytes_eq}
use Rattle.std.proofs.lemmas.Bool.{false_from_ne_true, false≢true}
use Rattle.std.proofs.lemmas.Option.{none-some, same_Some}
use Rattle.std.proofs.lemmas.Slice.Eq.{bytes_eq-Decides}
use Rattle.grid_range.specs.declared.area.Area.{Area}
use Rattle.named_ranges.specs.Given.{given_range}
use Rattle.named_ranges.specs.Listed.{AreNames, with_changed, with_id}
use Rattle.named_ranges.specs.declared.range.NamedRange.{NamedRange}
use Rattle.world_model.specs.Sheet.{PlaceSheet}
use Rattle.world_model.specs.Sound.{IsOnSheet}

-- ---- the range with the id is the only one

module _ (id : List ℕ) where
  abbrev has_this : NamedRange → Bool
  has_this range = bytes_eq id range.id

  this_id : (range : NamedRange) → has_this range ≡ true → id ≡ range.id
  this_id range is = (bytes_eq-Decides id range.id).0 is

  found_has : (b : Bool) (one : NamedRange) (rest : Option NamedRange) (range : NamedRange) → has_this one ≡ b
      → (rest ≡ Some range → has_this range ≡ true) → cond b (Some one) rest ≡ Some range → has_this range ≡ true
  found_has true one rest range is behind found = ap has_this (sym (same_Some one range found)) ∙ is
  found_has false one rest range is behind found = behind found

  -- the one that is found has it
  pub has_its_id : (ranges : List NamedRange) (range : NamedRange) → with_id id ranges ≡ Some range
      → has_this range ≡ true
  has_its_id [] range found = absurd (none-some range found)
  has_its_id (r ∷ rs) range found =
      found_has (has_this r) r (with_id id rs) range refl (has_its_id rs range) found

  first_is : (b : Bool) (one : NamedRange) (rest : Option NamedRange) (range : NamedRange) → has_this one ≡ b
      → cond b (Some one) rest ≡ Some range → has_this one ≡ true → one ≡ range
  first_is true one rest range is found has = same_Some one range found
  first_is false one rest range is found has = absurd (false≢true (sym is ∙ has))

  rest_has : (b : Bool) (one : NamedRange) (rest : Option NamedRange) (range : NamedRange) → b ≡ false
      → cond b (Some one) rest ≡ Some range → rest ≡ Some range
  rest_has true one rest range is found = absurd (false≢true (sym is))
  rest_has false one rest range is found = found

  -- and no other has
  pub only_one : (ranges : List NamedRange) (range : NamedRange) → AreNames ranges → with_id id ranges ≡ Some range
      → All (λ other. has_this other ≡ true → other ≡ range) ranges
  only_one [] range apart found k d there = absurd (omega (arith, there))
  only_one (r ∷ rs) range apart found zero d there =
      first_is (has_this r) r (with_id id rs) range refl found
  only_one (r ∷ rs) range apart found (suc k) d there = λ has.
      let other = get_or rs k d in
      let differ : has_this r ≡ false = false_from_ne_true (has_this r) (λ is.
      (apart 0 (suc k) d (omega arith) there).ids (sym (this_id r is) ∙ this_id other has)) in
      only_one rs range (λ i j e less inside. apart (suc i) (suc j) e (omega (arith, less)) (omega (arith, inside)))
      (rest_has (has_this r) r (with_id id rs) range differ found) k d (omega (arith, there)) has

  first_on : (P : NamedRange → Type 0) (b : Bool) (one : NamedRange) (rest : Option NamedRange) (range : NamedRange)
      → P one → (rest ≡ Some range → P range) → cond b (Some one) rest ≡ Some range → P range
  first_on P true one rest range holds behind found = subst P (same_Some one range found) holds
  first_on P false one rest range holds behind found = behind found

  -- what holds of each range holds of it
  pub found_on : (P : NamedRange → Type 0) (ranges : List NamedRange) (range : NamedRange)
      → with_id id ranges ≡ Some range → All P ranges → P range
  found_on P [] range found all = absurd (none-some range found)
  found_on P (r ∷ rs) range found all =
      first_on P (bytes_eq id r.id) r (with_id id rs) range (all 0 r (omega arith))
      (λ is. found_on P rs range is (λ k d there. all (suc k) d (omega (arith, there)))) found

-- ---- what an update makes of it

module _ (id : List ℕ) (name : Option (List ℕ)) (area : Option Area) (range : NamedRange)
    (is : bytes_eq id range.id ≡ true) where
  abbrev given : NamedRange
  given = given_range name area range

  one_given : (b b' : Bool) (other : NamedRange) → b ≡ b' → (b ≡ true → other ≡ range)
      → cond b (given_range name area other) other ≡ cond b' given other
  one_given true true other same only = ap (given_range name area) (only refl)
  one_given true false other same only = absurd (false≢true (sym same))
  one_given false true other same only = absurd (false≢true same)
  one_given false false other same only = refl

  -- an update changes it alone, into what it becomes
  pub changed_as : (ranges : List NamedRange) → All (λ other. bytes_eq id other.id ≡ true → other ≡ range) ranges
      → with_changed id (given_range name area) ranges ≡ with_changed given.id (λ other. given) ranges
  changed_as [] only = refl
  changed_as (r ∷ rs) only =
      ap (λ first. first ∷ with_changed id (given_range name area) rs)
      (one_given (bytes_eq id r.id) (bytes_eq range.id r.id) r
      (ap (λ own. bytes_eq own r.id) ((bytes_eq-Decides id range.id).0 is)) (only 0 r (omega arith)))
      ∙ ap (λ rest. cond (bytes_eq range.id r.id) given r ∷ rest)
      (changed_as rs (λ k d there. only (suc k) d (omega (arith, there))))

-- it stays on its sheet
pub given_on : (sheets : List PlaceSheet) (name : Option (List ℕ)) (area : Option Area) (range : NamedRange)
    → IfSome area (IsOnSheet sheets) → IsOnSheet sheets range.area → IsOnSheet sheets (given_range name area range).area
given_on sheets name None range on own = own
given_on sheets name (Some area) range on own = on
