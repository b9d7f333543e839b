-- Which rule a request or a call on developer metadata breaks first: those of locations stand before the others.
use Rattle.std.proofs.Common.{◌≡◌, Bool, true, false, cond, ◌||◌, refl, sym, ◌∙◌, List, [], ◌∷◌}
use Rattle.std.specs.Prelude.{Option, None, Some}
use Rattle.std.specs.Option.{option_map_or}
use Rattle.std.proofs.lemmas.Option.{none-some}
use Rattle.world_model.specs.Sheet.{PlaceSheet}
use Rattle.dimension_ops.specs.Broken.{Broken, first_broken}
use Rattle.dimension_ops.specs.declared.rule.Limit.{Limit}
use Rattle.dimension_ops.specs.declared.rule.Rule.{Rule}
use Rattle.dimension_ops.specs.declared.rule.Rule.TheVariants as rule
use Rattle.json_requests.specs.declared.request.Location.{Location}
use Rattle.json_requests.specs.declared.request.Location.TheVariants as location
use Rattle.request_kinds.specs.Metadata.{broken_by_location, broken_by_locations}
use Rattle.request_kinds.proofs.ProtectionsJudged.{first_of}

-- ---- what stands behind the rules of locations

first_stays : (no_sheet bad_range outside : Bool) (behind : Option Rule) (broken : Rule)
    → first_of false no_sheet bad_range outside None ≡ Some broken
    → first_of false no_sheet bad_range outside behind ≡ Some broken
first_stays true bad_range outside behind broken is = is
first_stays false true outside behind broken is = is
first_stays false false true behind broken is = is
first_stays false false false behind broken is = absurd (none-some broken is)

none_before : (no_sheet bad_range outside : Bool) (behind : Option Rule)
    → first_of false no_sheet bad_range outside None ≡ None
    → first_of false no_sheet bad_range outside behind ≡ behind
none_before true bad_range outside behind none = absurd (none-some rule.NoSheet (sym none))
none_before false true outside behind none = absurd (none-some rule.BadRange (sym none))
none_before false false true behind none = absurd (none-some rule.OutsideGrid (sym none))
none_before false false false behind none = refl

-- ---- look-ups

module _ (sheets : List PlaceSheet) (locations : List Location) (bad : Bool) where
  abbrev looked_up : Broken
  looked_up = record (broken_by_locations sheets locations) { bad_lookup = bad }

  abbrev judged : Broken
  judged = broken_by_locations sheets locations

  pub location_first : (broken : Rule) → first_broken judged ≡ Some broken → first_broken looked_up ≡ Some broken
  location_first broken is =
      first_stays judged.no_sheet judged.bad_range judged.outside_grid (cond bad (Some rule.BadLookup) None) broken is

  pub lookup_behind : first_broken judged ≡ None → first_broken looked_up ≡ cond bad (Some rule.BadLookup) None
  lookup_behind none =
      none_before judged.no_sheet judged.bad_range judged.outside_grid (cond bad (Some rule.BadLookup) None) none

-- ---- an item that is created

only_first : (no_sheet bad_range outside : Bool)
    → first_of false (no_sheet || false) (bad_range || false) (outside || false) None
    ≡ first_of false no_sheet bad_range outside None
only_first true bad_range outside = refl
only_first false true outside = refl
only_first false false true = refl
only_first false false false = refl

module _ (sheets : List PlaceSheet) (taken : Bool) (passed : Option Limit) where
  abbrev created : Location → Broken
  created one = record (broken_by_location sheets one) { id_taken = taken; past_limit = passed }

  abbrev behind_created : Option Rule
  behind_created =
      cond taken (Some rule.IdTaken) (option_map_or (λ limit. Some (rule.PastLimit limit)) passed None)

  abbrev first_with : Location → Option Rule → Option Rule
  first_with one behind =
      first_of false (broken_by_location sheets one).no_sheet (broken_by_location sheets one).bad_range
      (broken_by_location sheets one).outside_grid behind

  created_is : (one : Location) → first_broken (created one) ≡ first_with one behind_created
  created_is location.Spreadsheet = refl
  created_is (location.Sheet sheet) = refl
  created_is (location.DimensionRange range) = refl

  abbrev judged_alone : Location → Option Rule
  judged_alone one = first_broken (broken_by_locations sheets (one ∷ []))

  alone_is : (one : Location) → judged_alone one ≡ first_with one None
  alone_is one =
      only_first (broken_by_location sheets one).no_sheet (broken_by_location sheets one).bad_range
      (broken_by_location sheets one).outside_grid

  pub created_first : (one : Location) (broken : Rule) → judged_alone one ≡ Some broken
      → first_broken (created one) ≡ Some broken
  created_first one broken is =
      created_is one
      ∙ first_stays (broken_by_location sheets one).no_sheet (broken_by_location sheets one).bad_range
      (broken_by_location sheets one).outside_grid behind_created broken (sym (alone_is one) ∙ is)

  pub created_behind : (one : Location) → judged_alone one ≡ None → first_broken (created one) ≡ behind_created
  created_behind one none =
      created_is one
      ∙ none_before (broken_by_location sheets one).no_sheet (broken_by_location sheets one).bad_range
      (broken_by_location sheets one).outside_grid behind_created (sym (alone_is one) ∙ none)
