-- Laws of metadata that is set: its items are within the sheets, and a spreadsheet whose list of them is changed, or
-- isn't, is sound, and has the changes that are meant.
use Rattle.std.proofs.Common.{◌≡◌, ℕ, ◌∷◌, [], sym, ap, subst, List, get_or, cond, Bool, true, false, not}
use Rattle.std.specs.Prelude.{Option, None, Some, Result, Ok, Err, IfOk, IfSome, OnErr, unwrap_or}
use Rattle.std.specs.List.{All}
use Rattle.std.proofs.lemmas.List.Elements.{All-filter, All-map, All-push}
use Rattle.dev_metadata.specs.Listed.{not_found, with_one_more}
use Rattle.dev_metadata.specs.Lookup.{finds, finds_some}
use Rattle.dev_metadata.specs.Patch.{patched, with_patched}
use Rattle.dev_metadata.specs.declared.types.Item.{Item}
use Rattle.dev_metadata.specs.declared.types.ItemPatch.{ItemPatch}
use Rattle.dev_metadata.specs.declared.types.Lookup.{Lookup}
use Rattle.dev_metadata.specs.declared.types.MetaFault.{MetaFault}
use Rattle.dev_metadata.specs.declared.types.Visibility.{Visibility}
use Rattle.dev_metadata.specs.declared.types.Spot.{Spot}
use Rattle.world_model.specs.Book.{PlaceBook}
use Rattle.world_model.specs.BookChange.{AreChanges, BookChange}
use Rattle.world_model.specs.MetadataLaws.{MetadataIsSet, place_metadata_set}
use Rattle.world_model.specs.Sheet.{PlaceSheet}
use Rattle.world_model.specs.Sound.{IsItemWithin, IsSound, IsSpotWithin}
use Rattle.dimension_ops.specs.MetadataRequests.{IsItemPatchWithin, MetadataBecomes}

-- ---- the items are within the sheets

module _ (sheets : List PlaceSheet) (old : List Item) (within : All (IsItemWithin sheets) old) where
  -- so it is with one more
  pub more_within : (id : ℕ) (key value : List ℕ) (place : Spot) (visibility : Visibility) → IsSpotWithin sheets place
      → All (IsItemWithin sheets) (with_one_more id key value place visibility old)
  more_within id key value place visibility there =
      All-push (IsItemWithin sheets) old
      (record { id = id; key = key; value = value; spot = place; visibility = visibility }) within there

  -- what is given is within, and so is what was there
  spot_given : (given : Option Spot) (own : Spot) → IfSome given (IsSpotWithin sheets) → IsSpotWithin sheets own
      → IsSpotWithin sheets (unwrap_or given own)
  spot_given None own there kept = kept
  spot_given (Some given) own there kept = there

  module _ (lookups : List Lookup) (project : List ℕ) (patch : ItemPatch) (given : IsItemPatchWithin sheets patch) where
    one_within : (b : Bool) (item : Item) → IsItemWithin sheets item
        → IsItemWithin sheets (cond b (patched project patch item) item)
    one_within true item own = spot_given patch.spot item.spot given own
    one_within false item own = own

    -- with some that are changed
    pub patched_within : All (IsItemWithin sheets) (with_patched lookups project patch old)
    patched_within =
        All-map (IsItemWithin sheets)
        (λ item. cond (finds_some lookups project item) (patched project patch item) item) old
        (λ k d there. one_within (finds_some lookups project (get_or old k d)) (get_or old k d) (within k d there))

  -- and with fewer
  pub fewer_within : (lookup : Lookup) (project : List ℕ) → All (IsItemWithin sheets) (not_found lookup project old)
  fewer_within lookup project =
      All-filter (λ item. not (finds lookup project item)) (IsItemWithin sheets) old within

-- ---- the spreadsheet is sound, and has them

module _ (book : PlaceBook) (now : List Item) (law : MetadataIsSet) where
  -- after an answer that tells what was made of them
  pub metadata_sound : {T : Type 0} → IsSound book → (made : T → List Item)
      → ((told : T) → All (IsItemWithin book.sheets) (made told)) → (answer : Result T MetaFault)
      → IfOk answer (λ told. now ≡ made told) → OnErr answer (now ≡ book.metadata)
      → IsSound (place_metadata_set now book)
  metadata_sound sound made within (Ok told) is kept =
      subst (λ items. IsSound (place_metadata_set items book)) (sym is) (law.stays book (made told) sound (within told))
  metadata_sound sound made within (Err fault) is kept =
      subst (λ items. IsSound (place_metadata_set items book)) (sym kept) sound

  -- what is made of those that there were
  pub metadata_becomes : (before : PlaceBook) → book ≡ before → (make : List Item → List Item)
      → All (IsItemWithin book.sheets) (make book.metadata) → now ≡ make book.metadata
      → MetadataBecomes (make before.metadata) before (place_metadata_set now book)
  metadata_becomes before seen make within is =
      let set : place_metadata_set now book ≡ place_metadata_set (make book.metadata) book =
      ap (λ items. place_metadata_set items book) is in
      subst (λ (one : PlaceBook). MetadataBecomes (make one.metadata) one (place_metadata_set now book)) seen
      (record {
        set = set;
        names = subst (AreChanges (BookChange.MetadataSet (make book.metadata) ∷ []) book) (sym set)
            (law.changes book (make book.metadata) within);
      })
