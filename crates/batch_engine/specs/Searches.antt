-- Looks at developer metadata (Google Sheets API v4 reference, spreadsheets.developerMetadata.get and
-- spreadsheets.developerMetadata.search): a project sees its own items, and those of the document.
use Rattle.std.specs.Prelude.{◌≡◌, ◌==◌, ℕ, List, [], ◌∷◌, filter, map, Result, Ok, Err, IfOk}
use Rattle.std.specs.List.{list_any}
use Rattle.std.specs.Option.{option_map_or}
use Rattle.dev_metadata.specs.Listed.{AreIdsInOrder, found, found_by_some, seen_with_id}
use Rattle.dev_metadata.specs.Lookup.{meets}
use Rattle.dev_metadata.specs.declared.types.Item.{Item}
use Rattle.world_model.specs.Book.{PlaceBook}
use Rattle.world_model.specs.Sheet.{PlaceSheet}
use Rattle.dimension_ops.specs.Broken.{judged_by}
use Rattle.dimension_ops.specs.declared.rule.Rule.{Rule}
use Rattle.dimension_ops.specs.declared.rule.Rule.TheVariants as rule
use Rattle.json_requests.specs.declared.request.DataFilter.{DataFilter}
use Rattle.json_requests.specs.declared.request.DataFilter.TheVariants.{DeveloperMetadataLookup}
use Rattle.json_requests.specs.declared.request.MetadataLookup.{MetadataLookup}
use Rattle.json_shapes.specs.Reading.{Reading}
use Rattle.sheets_json.specs.declared.answer.Answer.{Answer}
use Rattle.sheets_json.specs.declared.answer.Answer.TheVariants as answer
use Rattle.sheets_json.specs.declared.answer.MatchedMetadata.{MatchedMetadata}
use Rattle.request_kinds.specs.Metadata.{broken_by_lookups, items_seen, lookup_of, lookups_of}
use Rattle.batch_engine.specs.Members.{InOrder, ToldOfAll}
use Rattle.batch_engine.specs.Values.{rule_of, unless_empty}
use Rattle.batch_engine.specs.declared.searches.Searched.{Searched}

-- the item with the id, if the project sees it
abbrev pub item_told : List ℕ → ℕ → PlaceBook → Result Answer Rule
item_told project id book =
    option_map_or (λ item. Ok (answer.Item item)) (seen_with_id id project book.metadata) (Err rule.NoId)

-- ---- searches

-- what a filter of a search asks for, or the first rule that it breaks
abbrev pub asked_or_broken : List PlaceSheet → Reading MetadataLookup → Result MetadataLookup Rule
asked_or_broken sheets (Ok asked) = judged_by (broken_by_lookups sheets (asked ∷ [])) asked
asked_or_broken sheets (Err shape) = Err (rule_of shape)

-- an item with those of the look-ups that it meets, in their order
abbrev pub matched : List MetadataLookup → Item → MatchedMetadata
matched asked item = record {
  data_filters = map DeveloperMetadataLookup (filter (λ one. meets (lookup_of one) item) asked);
  developer_metadata = item;
}

-- the items with those ids, each with the look-ups that it meets
abbrev pub search_answer : List ℕ → List ℕ → PlaceBook → List MetadataLookup → Answer
search_answer project ids book asked =
    answer.Search (unless_empty (map (matched asked) (items_seen project ids book.metadata)))

-- filters are judged one after another; told are the items that the project sees and that one of them finds, in order
-- of id
pub record AreSearched (project : List ℕ) (filters : List (Reading MetadataLookup)) (book : PlaceBook)
    (asked : ToldOfAll MetadataLookup) (ids : List ℕ) : Type 0 where
  pub each : InOrder (λ given one. one ≡ asked_or_broken book.sheets given) 0 filters asked
  pub in_order : IfOk asked (λ all. AreIdsInOrder (found_by_some (lookups_of all) project book.metadata) ids)

-- ---- what the private functions hand to one another

abbrev pub asked_of : List Searched → List MetadataLookup
asked_of searched = map (λ one. one.asked) searched

-- the ids are those that the look-up finds
abbrev pub IsSearchDone : List ℕ → List Item → Searched → Type 0
IsSearchDone project items one = AreIdsInOrder (found (lookup_of one.asked) project items) one.ids

-- what a filter finds, or the first rule that it breaks
abbrev pub IsSearched : List ℕ → PlaceBook → Reading MetadataLookup → Result Searched Rule → Type 0
IsSearched project book given (Ok one) =
    (asked_or_broken book.sheets given ≡ Ok one.asked) × IsSearchDone project book.metadata one
IsSearched project book given (Err broken) = asked_or_broken book.sheets given ≡ Err broken

-- the look-ups that found the id
abbrev pub filters_met : ℕ → List Searched → List DataFilter
filters_met id searched =
    map (λ one. DeveloperMetadataLookup one.asked) (filter (λ one. list_any (λ n. n == id) one.ids) searched)

-- an item with the look-ups that found it
abbrev pub with_filters : List Searched → Item → MatchedMetadata
with_filters searched item = record { data_filters = filters_met item.id searched; developer_metadata = item }

-- the items that one of them found, each with those that it meets
pub record AreMatched (project : List ℕ) (items : List Item) (searched : List Searched) (all : List MatchedMetadata)
    : Type 0 where
  pub ids : List ℕ
  pub in_order : AreIdsInOrder (found_by_some (lookups_of (asked_of searched)) project items) ids
  pub all_are : all ≡ map (matched (asked_of searched)) (items_seen project ids items)
