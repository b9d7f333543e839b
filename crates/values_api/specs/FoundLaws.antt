-- Laws for the proofs of this crate and of those above it: what is found among things passes the test, and is one of
-- them.
use Rattle.std.proofs.Common.{◌≡◌, ℕ, suc, List, [], ◌∷◌, refl, sym, subst, ap, ◌∙◌, cond, Bool, true, false, arith}
use Rattle.std.specs.Prelude.{Option, Some, None, IsSomeAnd, ◌==◌}
use Rattle.std.specs.List.{All, find}
use Rattle.std.proofs.lemmas.Bool.{eqb-true}
use Rattle.std.proofs.lemmas.Option.{none-some, same_Some}
use Rattle.named_ranges.specs.Listed.{is_same_name, with_name}
use Rattle.named_ranges.specs.declared.range.NamedRange.{NamedRange}
use Rattle.world_model.specs.Book.{PlaceBook}
use Rattle.world_model.specs.Sheet.{PlaceSheet}
use Rattle.world_model.specs.Sound.{IsSheetSound, IsSound, place_sheet_with}
use Rattle.values_api.specs.Ranges.{IsThere}

-- what holds of all holds of the one that is found
module _ {A : Type 0} (P : A → Type 0) (test : A → Bool) where
  first_holds : (b : Bool) (x y : A) (rest : Option A) → P x → (rest ≡ Some y → P y) → cond b (Some x) rest
      ≡ Some y → P y
  first_holds true x y rest holds behind is = subst P (same_Some x y is) holds
  first_holds false x y rest holds behind is = behind is

  pub holds_of_found : (xs : List A) (y : A) → All P xs → find test xs ≡ Some y → P y
  holds_of_found [] y all is = absurd (none-some y is)
  holds_of_found (x ∷ xs) y all is =
      first_holds (test x) x y (find test xs) (all 0 x (omega arith))
      (holds_of_found xs y (λ k d there. all (suc k) d (omega arith))) is

-- what is found passes the test
module _ {A : Type 0} (test : A → Bool) where
  first_passes : (first x : A) (rest : Option A) → (rest ≡ Some x → test x ≡ true) → (b : Bool) → test first ≡ b
      → cond b (Some first) rest ≡ Some x → test x ≡ true
  first_passes first x rest behind true passes is = ap test (sym (same_Some first x is)) ∙ passes
  first_passes first x rest behind false passes is = behind is

  pub found_passes : (xs : List A) (x : A) → find test xs ≡ Some x → test x ≡ true
  found_passes [] x is = absurd (none-some x is)
  found_passes (first ∷ rest) x is =
      first_passes first x (find test rest) (found_passes rest x) (test first) refl is

-- the thing that is there
pub some_and : {A : Type 0} (P : A → Type 0) (found : Option A) → IsSomeAnd found P → (x : A) × (found ≡ Some x) × P x
some_and P None holds = absurd holds
some_and P (Some x) holds = (x, refl, holds)

-- a sheet that is found has the id
pub sheet_has_id : (id : ℕ) (sheets : List PlaceSheet) (sheet : PlaceSheet) → place_sheet_with id sheets ≡ Some sheet
    → sheet.id ≡ id
sheet_has_id id sheets sheet is =
    eqb-true sheet.id id (found_passes (λ (one : PlaceSheet). one.id == id) sheets sheet is)

-- a sheet of a sound spreadsheet is sound
pub sound_sheet : (book : PlaceBook) → IsSound book → (id : ℕ) (sheet : PlaceSheet)
    → place_sheet_with id book.sheets ≡ Some sheet → IsSheetSound book.sheets sheet
sound_sheet book sound id sheet is =
    holds_of_found (IsSheetSound book.sheets) (λ (one : PlaceSheet). one.id == id) book.sheets sheet sound.sheets is

-- a named range of a sound spreadsheet is on a sheet that is there
pub range_there : (book : PlaceBook) → IsSound book → (name : List ℕ) (range : NamedRange)
    → with_name name book.ranges ≡ Some range → IsThere book.sheets range.area
range_there book sound name range is =
    holds_of_found (λ (one : NamedRange). IsThere book.sheets one.area)
    (λ (one : NamedRange). is_same_name name one.name) book.ranges range sound.ranges is
