-- What a look-up of items finds, or the rule that it breaks.
use Rattle.std.proofs.Common.{◌≡◌, ℕ, Bool, true, false, cond, refl, ap, subst, ◌∙◌, List, [], ◌∷◌}
use Rattle.std.specs.Prelude.{◌&&◌, ◌||◌, Option, None, Some, Ok, Err}
use Rattle.std.proofs.lemmas.List.Elements.{filter_agree}
use Rattle.dev_metadata.specs.Listed.{AreIdsInOrder, found, found_by_some}
use Rattle.dev_metadata.specs.Lookup.{finds, finds_some, has_bad, meets, sees}
use Rattle.dev_metadata.specs.declared.types.Item.{Item}
use Rattle.dev_metadata.specs.declared.types.Lookup.{Lookup}
use Rattle.world_model.specs.Book.{PlaceBook}
use Rattle.dimension_ops.specs.Broken.{first_broken}
use Rattle.dimension_ops.specs.declared.rule.Rule.{Rule}
use Rattle.dimension_ops.specs.declared.rule.Rule.TheVariants as rule
use Rattle.json_requests.specs.declared.request.MetadataLookup.{MetadataLookup}
use Rattle.request_kinds.specs.Metadata.{AreIdsFound, broken_by_locations, locations_of, lookup_of}
use Rattle.request_kinds.proofs.MetadataJudged.{location_first, lookup_behind}

or_no : (b : Bool) → (b || false) ≡ b
or_no true = refl
or_no false = refl

-- the only look-up finds what one of the look-ups finds
found_alone : (lookup : Lookup) (project : List ℕ) (items : List Item)
    → found_by_some (lookup ∷ []) project items ≡ found lookup project items
found_alone lookup project items =
    filter_agree (finds_some (lookup ∷ []) project) (finds lookup project)
    (λ item. ap (λ met. sees project item && met) (or_no (meets lookup item))) items

module _ (project : List ℕ) (asked : MetadataLookup) (book : PlaceBook) where
  abbrev pub judged_place : Option Rule
  judged_place = first_broken (broken_by_locations book.sheets (locations_of (asked ∷ [])))

  abbrev bad : Bool
  bad = has_bad (lookup_of asked ∷ [])

  pub place_refused : (broken : Rule) → judged_place ≡ Some broken → AreIdsFound project asked book (Err broken)
  place_refused broken is =
      record {
        broken = location_first book.sheets (locations_of (asked ∷ [])) bad broken is;
        unbroken = tt;
        in_order = tt;
      }

  module _ (none : judged_place ≡ None) where
    pub ids_are : (ids : List ℕ) → bad ≡ false
        → AreIdsInOrder (found_by_some (lookup_of asked ∷ []) project book.metadata) ids
        → AreIdsFound project asked book (Ok ids)
    ids_are ids good in_order = record {
      broken = tt;
      unbroken = lookup_behind book.sheets (locations_of (asked ∷ [])) bad none
          ∙ ap (λ bad. cond bad (Some rule.BadLookup) None) good;
      in_order =
          subst (λ items. AreIdsInOrder items ids) (found_alone (lookup_of asked) project book.metadata) in_order;
    }
