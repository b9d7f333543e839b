-- What is known of a request for a protected range that breaks no rule.
use Rattle.std.proofs.Common.{◌≡◌, ◌+◌, ◌<◌, ℕ, Bool, true, false, cond, ◌||◌, refl, sym, List, length, arith}
use Rattle.std.specs.Prelude.{Option, None, Some, nat_lt}
use Rattle.std.specs.Option.{is_none, option_map_or}
use Rattle.std.proofs.lemmas.Bool.{ltb-false}
use Rattle.std.proofs.lemmas.Option.{none-some}
use Rattle.cell_value.specs.Ids.{is_taken}
use Rattle.grid_range.specs.declared.area.Area.{Area}
use Rattle.protection.specs.Listed.{has_id, with_id}
use Rattle.protection.specs.Patch.{is_bad}
use Rattle.protection.specs.declared.range.ProtectionPatch.{ProtectionPatch}
use Rattle.world_model.specs.Book.{PlaceBook}
use Rattle.world_model.specs.Sheet.{PlaceSheet}
use Rattle.dimension_ops.specs.Broken.{first_broken}
use Rattle.dimension_ops.specs.ProtectionRequests.{IsPatchWithin}
use Rattle.dimension_ops.specs.declared.rule.Limit.TheVariants as limit
use Rattle.dimension_ops.specs.declared.rule.Rule.{Rule}
use Rattle.dimension_ops.specs.declared.rule.Rule.TheVariants as rule
use Rattle.request_kinds.specs.AddProtectedRange.{protection_added_broken}
use Rattle.request_kinds.specs.AreasWithin.{AreUnbroken, patch_within}
use Rattle.request_kinds.specs.Protections.{areas_given, broken_by_areas, most_protections, patch_cut}
use Rattle.request_kinds.specs.UpdateProtectedRange.{keeps_off, protection_updated_broken}

pub none_broken : (found : Option Rule) → ((broken : Rule) → found ≡ Some broken → ⊥) → found ≡ None
none_broken None none = refl
none_broken (Some broken) none = absurd (none broken refl)

-- the rules of a bad shape and of areas come first
abbrev pub first_of : Bool → Bool → Bool → Bool → Option Rule → Option Rule
first_of bad_shape no_sheet bad_range outside behind =
    cond bad_shape (Some rule.BadShape)
    (cond no_sheet (Some rule.NoSheet)
    (cond bad_range (Some rule.BadRange) (cond outside (Some rule.OutsideGrid) behind)))

none_first : (bad_shape no_sheet bad_range outside : Bool) (behind : Option Rule)
    → first_of bad_shape no_sheet bad_range outside behind ≡ None
    → (no_sheet ≡ false) × (bad_range ≡ false) × (outside ≡ false) × (behind ≡ None)
none_first true no_sheet bad_range outside behind none = absurd (none-some rule.BadShape (sym none))
none_first false true bad_range outside behind none = absurd (none-some rule.NoSheet (sym none))
none_first false false true outside behind none = absurd (none-some rule.BadRange (sym none))
none_first false false false true behind none = absurd (none-some rule.OutsideGrid (sym none))
none_first false false false false behind none = (refl, refl, refl, none)

module _ (sheets : List PlaceSheet) (areas : List Area) (bad_shape : Bool) (behind : Option Rule) where
  abbrev first_with : Option Rule
  first_with =
      first_of bad_shape (broken_by_areas sheets areas).no_sheet (broken_by_areas sheets areas).bad_range
      (broken_by_areas sheets areas).outside_grid behind

  unbroken_areas : first_with ≡ None → AreUnbroken sheets areas × (behind ≡ None)
  unbroken_areas none =
      let all = none_first bad_shape (broken_by_areas sheets areas).no_sheet (broken_by_areas sheets areas).bad_range
      (broken_by_areas sheets areas).outside_grid behind none in
      (record { no_sheet = all.0; bad_range = all.1; outside_grid = all.2 }, all.3)

-- ---- addProtectedRange

abbrev behind_added : Bool → Bool → Option Rule
behind_added taken past =
    cond taken (Some rule.IdTaken)
    (option_map_or (λ passed. Some (rule.PastLimit passed)) (cond past (Some limit.Protections) None) None)

none_past : (taken past : Bool) → behind_added taken past ≡ None → past ≡ false
none_past true past none = absurd (none-some rule.IdTaken (sym none))
none_past false true none = absurd (none-some (rule.PastLimit limit.Protections) (sym none))
none_past false false none = refl

-- its areas are within their sheets, and there is room for one more
pub record CanBeAdded (patch : ProtectionPatch) (book : PlaceBook) : Type 0 where
  pub within : IsPatchWithin book.sheets (patch_cut book.sheets patch)
  pub room : length book.protections < 4294967295

pub can_be_added : (id : Option ℕ) (patch : ProtectionPatch) (book : PlaceBook)
    → first_broken (protection_added_broken id patch book) ≡ None → CanBeAdded patch book
can_be_added id patch book none =
    let taken = is_taken (has_id book.protections) id in
    let past = nat_lt most_protections (length book.protections + 1) in
    let all = unbroken_areas book.sheets (areas_given patch) (is_none patch.area || is_bad patch None)
    (behind_added taken past) none in
    let few = ltb-false most_protections (length book.protections + 1) (none_past taken past all.1) in
    record { within = patch_within book.sheets patch all.0; room = omega arith }

-- ---- updateProtectedRange

pub can_be_updated : (user : List ℕ) (id : ℕ) (patch : ProtectionPatch) (book : PlaceBook)
    → first_broken (protection_updated_broken user id patch book) ≡ None
    → IsPatchWithin book.sheets (patch_cut book.sheets patch)
can_be_updated user id patch book none =
    let found = with_id id book.protections in
    let all = unbroken_areas book.sheets (areas_given patch) (is_bad patch found)
    (cond (is_none found) (Some rule.NoId) (cond (keeps_off user book.owner found) (Some rule.NotEditor) None)) none in
    patch_within book.sheets patch all.0
