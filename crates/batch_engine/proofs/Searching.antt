-- What a search for items finds, from what each of its filters finds.
use Rattle.std.proofs.Common.{◌≡◌, ◌+◌, ◌<◌, ◌≤◌, ◌++◌, ℕ, Bool, true, false, cond, refl, sym, ap, subst, ◌∙◌, List, [], ◌∷◌, All, length, get_or, take, inl, inr, arith}
use Rattle.std.specs.Prelude.{◌==◌, ◌&&◌, filter, map, Option, None, Some, Result, Ok, Err, IfOk, MatchResult}
use Rattle.std.specs.List.{Contains, cons_option, list_any}
use Rattle.std.specs.Option.{option_map_or}
use Rattle.std.specs.Result.{is_ok}
use Rattle.std.proofs.lemmas.Bool.{and_from, and_parts, both_ways, cases_lt, eq-eqb, eqb-true, false_from_ne_true, ne_eqb}
use Rattle.std.proofs.lemmas.List.{map-append, take_more}
use Rattle.std.proofs.lemmas.List.Elements.{All-cons, All-contains_itself, All-filter, All-from_get_or, All-head, All-map, All-nil, All-tail, filter-append, filter_passes}
use Rattle.std.proofs.lemmas.List.Folds.{list_any-from_Any, list_any_at, list_any_none}
use Rattle.std.proofs.lemmas.List.Sorted.{list_any-IsPermutation}
use Rattle.std.proofs.lemmas.Option.{same_Some}
use Rattle.cell_value.specs.Elements.{Contains-filter, Contains-map}
use Rattle.dev_metadata.specs.Listed.{AreIdsInOrder, HaveOwnIds, found, ids_of, seen_with_id}
use Rattle.dev_metadata.specs.Lookup.{finds, meets, sees}
use Rattle.dev_metadata.specs.declared.types.Item.{Item}
use Rattle.dev_metadata.specs.declared.types.Lookup.{Lookup}
use Rattle.world_model.specs.Book.{PlaceBook}
use Rattle.dimension_ops.specs.Rules.{IsUnlessNoMemory}
use Rattle.dimension_ops.specs.declared.rule.Rule.{Rule}
use Rattle.dimension_ops.specs.declared.rule.RuleOr.{RuleOr}
use Rattle.dimension_ops.specs.declared.rule.RuleOr.TheVariants as refusal
use Rattle.json_requests.specs.declared.request.DataFilter.{DataFilter}
use Rattle.json_requests.specs.declared.request.DataFilter.TheVariants.{DeveloperMetadataLookup}
use Rattle.json_requests.specs.declared.request.MetadataLookup.{MetadataLookup}
use Rattle.json_shapes.specs.Reading.{Reading}
use Rattle.sheets_json.specs.declared.answer.Answer.{Answer}
use Rattle.sheets_json.specs.declared.answer.Answer.TheVariants as answer
use Rattle.sheets_json.specs.declared.answer.MatchedMetadata.{MatchedMetadata}
use Rattle.sheets_json.specs.declared.place.Place.TheVariants as place
use Rattle.request_kinds.specs.Metadata.{AreIdsFound, items_seen, lookup_of, lookups_of}
use Rattle.values_api.specs.FoundLaws.{found_passes, holds_of_found}
use Rattle.request_kinds.specs.ItemLaws.{IsSeenIn, seen_again}
use Rattle.batch_engine.specs.Calls.{IsSearchOf, Refusal}
use Rattle.batch_engine.specs.Effects.Effect.{Nothing}
use Rattle.batch_engine.specs.Members.{InOrder, Then, ToldOfAll, with_first}
use Rattle.batch_engine.specs.Searches.{AreMatched, IsSearchDone, IsSearched, asked_of, asked_or_broken, filters_met, matched, with_filters}
use Rattle.batch_engine.specs.Values.{unless_empty}
use Rattle.batch_engine.specs.declared.searches.Searched.{Searched}

-- ---- one filter

module _ (project : List ℕ) (book : PlaceBook) (asked : MetadataLookup) where
  abbrev judged_as : Option Rule → Result MetadataLookup Rule
  judged_as first = option_map_or Err first (Ok asked)

  pub search_refused : (fault : RuleOr) → IsUnlessNoMemory (AreIdsFound project asked book) (Err fault)
      → IsUnlessNoMemory (IsSearched project book (Ok asked)) (Err fault)
  search_refused (refusal.Rule broken) is = ap judged_as is.broken
  search_refused refusal.NoMemory is = tt

  pub search_done : (ids : List ℕ) (copy : MetadataLookup) → copy ≡ asked → AreIdsFound project asked book (Ok ids)
      → IsSearched project book (Ok asked) (Ok (record { asked = copy; ids = ids }))
  search_done ids copy same is = (
    ap judged_as is.unbroken ∙ ap (λ one. Ok one) (sym same),
    subst (λ one. AreIdsInOrder (found (lookup_of one) project book.metadata) ids) (sym same) is.in_order,
  )

-- ---- filters, one after another

module _ (project : List ℕ) (book : PlaceBook) where
  abbrev pub Asked : Reading MetadataLookup → Result MetadataLookup Rule → Type 0
  Asked given one = one ≡ asked_or_broken book.sheets given

  abbrev one_asked : Result Searched Rule → Result MetadataLookup Rule
  one_asked (Ok one) = Ok one.asked
  one_asked (Err broken) = Err broken

  abbrev pub all_asked : ToldOfAll Searched → ToldOfAll MetadataLookup
  all_asked (Ok all) = Ok (asked_of all)
  all_asked (Err broken) = Err broken

  is_asked : (given : Reading MetadataLookup) (one : Result Searched Rule) → IsSearched project book given one
      → Asked given (one_asked one)
  is_asked given (Ok one) is = sym is.0
  is_asked given (Err broken) is = sym is

  first_asked : (first : Searched) (rest : ToldOfAll Searched)
      → all_asked (with_first first rest) ≡ with_first first.asked (all_asked rest)
  first_asked first (Ok all) = refl
  first_asked first (Err broken) = refl

  abbrev Done : ToldOfAll Searched → Type 0
  Done told = IfOk told (All (IsSearchDone project book.metadata))

  first_done : (first : Searched) (rest : ToldOfAll Searched) → IsSearchDone project book.metadata first → Done rest
      → Done (with_first first rest)
  first_done first (Ok all) is done = All-cons (IsSearchDone project book.metadata) first all is done
  first_done first (Err broken) is done = tt

  -- what is known of filters from a place on
  abbrev Known : ℕ → List (Reading MetadataLookup) → ToldOfAll Searched → Type 0
  Known at filters told = InOrder Asked at filters (all_asked told) × Done told

  then_known : (at : ℕ) (given : Reading MetadataLookup) (filters : List (Reading MetadataLookup))
      (one : Result Searched Rule)
      (told : ToldOfAll Searched)
      → ((rest : ToldOfAll Searched) → InOrder (IsSearched project book) (at + 1) filters rest
      → Known (at + 1) filters rest)
      → IsSearched project book given one
      → Then at one (InOrder (IsSearched project book) (at + 1) filters) told → Known at (given ∷ filters) told
  then_known at given filters (Ok first) told known is (rest, others, told_is) =
      let (asked, done) = known rest others in (
        (
          Ok first.asked,
          is_asked given (Ok first) is,
          (all_asked rest, asked, ap all_asked told_is ∙ first_asked first rest),
        ),
        subst Done (sym told_is) (first_done first rest is.1 done),
      )
  then_known at given filters (Err broken) told known is told_is = (
    (Err broken, is_asked given (Err broken) is, ap all_asked told_is),
    subst Done (sym told_is) tt,
  )

  pub all_known : (at : ℕ) (filters : List (Reading MetadataLookup)) (told : ToldOfAll Searched)
      → InOrder (IsSearched project book) at filters told → Known at filters told
  all_known at [] told is = (ap all_asked is, subst Done (sym is) (All-nil (IsSearchDone project book.metadata)))
  all_known at (given ∷ filters) told (one, is, then) =
      then_known at given filters one told (all_known (at + 1) filters) is then

-- ---- the filters that found an item

module _ (project : List ℕ) (items : List Item) (own : HaveOwnIds items) (item : Item)
    (seen : seen_with_id item.id project items ≡ Some item) where
  abbrev Has : ℕ → Bool
  Has id = id == item.id

  is_seen : sees project item ≡ true
  is_seen =
      (and_parts (item.id == item.id) (sees project item)
      (found_passes (λ (one : Item). item.id == one.id && sees project one) items item seen)).1

  module _ (lookup : Lookup) where
    -- no other item has the id
    others_apart : meets lookup item ≡ false
        → All (λ (one : Item). (one.id == item.id) ≡ false) (found lookup project items)
    others_apart misses at d there =
        let one = get_or (found lookup project items) at d in
        let passes =
        and_parts (sees project one) (meets lookup one) (filter_passes (finds lookup project) items at d there) in
        let again =
        All-filter (finds lookup project) (IsSeenIn project items) items (seen_again project items own) at d there
        passes.0 in
        false_from_ne_true (one.id == item.id)
        (λ same.
        let is : one ≡ item = same_Some one item
        (sym again ∙ ap (λ id. seen_with_id id project items) (eqb-true one.id item.id same) ∙ seen) in
        both_ways (meets lookup item) misses (subst (λ (other : Item). meets lookup other ≡ true) is passes.1))

    is_among : meets lookup item ≡ true → list_any Has (ids_of (found lookup project items)) ≡ true
    is_among met =
        let there = holds_of_found (Contains items) (λ (one : Item). item.id == one.id && sees project one) items item
        (All-contains_itself items) seen in
        let among = Contains-filter (finds lookup project) items item there
        (and_from (sees project item) (meets lookup item) is_seen met) in
        let (at, within, is) = Contains-map (λ (one : Item). one.id) (found lookup project items) item among in
        list_any-from_Any Has (ids_of (found lookup project items))
        (at, item.id, within, is, eq-eqb item.id item.id refl)

    found_where_met : (met : Bool) → meets lookup item ≡ met → list_any Has (ids_of (found lookup project items)) ≡ met
    found_where_met true met = is_among met
    found_where_met false misses =
        list_any_none Has (ids_of (found lookup project items))
        (All-map (λ id. Has id ≡ false) (λ (one : Item). one.id) (found lookup project items) (others_apart misses))

  abbrev as_filter : Searched → DataFilter
  as_filter one = DeveloperMetadataLookup one.asked

  one_met : (one : Searched) (others : List Searched) (asked : List MetadataLookup) (met : Bool)
      → map as_filter others ≡ map DeveloperMetadataLookup asked
      → map as_filter (cond met (one ∷ others) others)
      ≡ map DeveloperMetadataLookup (cond met (one.asked ∷ asked) asked)
  one_met one others asked true same = ap (λ rest. as_filter one ∷ rest) same
  one_met one others asked false same = same

  found_are_met : (searched : List Searched) → All (IsSearchDone project items) searched
      → filters_met item.id searched ≡ (matched (asked_of searched) item).data_filters
  found_are_met [] done = refl
  found_are_met (one ∷ rest) done =
      let now : IsSearchDone project items one = All-head (IsSearchDone project items) one rest done in
      let lookup = lookup_of one.asked in
      let others = filter (λ (other : Searched). list_any Has other.ids) rest in
      let same : list_any Has one.ids ≡ meets lookup item =
      sym (list_any-IsPermutation Has (ids_of (found lookup project items)) one.ids now.same)
      ∙ found_where_met lookup (meets lookup item) refl in
      ap (λ met. map as_filter (cond met (one ∷ others) others)) same
      ∙ one_met one others (filter (λ other. meets (lookup_of other) item) (asked_of rest)) (meets lookup item)
      (found_are_met rest (All-tail (IsSearchDone project items) one rest done))

module _ (project : List ℕ) (items : List Item) (own : HaveOwnIds items) (searched : List Searched)
    (done : All (IsSearchDone project items) searched) where
  abbrev with_met : Item → MatchedMetadata
  with_met = matched (asked_of searched)

  abbrev with_found : Item → MatchedMetadata
  with_found = with_filters searched

  abbrev with_ones : Item → List DataFilter → MatchedMetadata
  with_ones item filters = record { data_filters = filters; developer_metadata = item }

  one_matched : (id : ℕ) (found : Option Item) → seen_with_id id project items ≡ found → (rest : List Item)
      → map with_found rest ≡ map with_met rest
      → map with_found (cons_option found rest) ≡ map with_met (cons_option found rest)
  one_matched id None is rest same = same
  one_matched id (Some item) is rest same =
      let passes = and_parts (id == item.id) (sees project item)
      (found_passes (λ (one : Item). id == one.id && sees project one) items item is) in
      let seen = sym (ap (λ id. seen_with_id id project items) (eqb-true id item.id passes.0)) ∙ is in
      ap (λ filters. with_ones item filters ∷ map with_found rest)
      (found_are_met project items own item seen searched done)
      ∙ ap (λ others. with_met item ∷ others) same

  pub all_matched : (ids : List ℕ) → map with_found (items_seen project ids items)
      ≡ map with_met (items_seen project ids items)
  all_matched [] = refl
  all_matched (id ∷ rest) =
      one_matched id (seen_with_id id project items) refl (items_seen project rest items) (all_matched rest)

-- ---- what the loops list

pub more_asked : (searched : List Searched) (at : ℕ) (one : Searched) → at < length searched → one
    ≡ get_or searched at one
    → lookups_of (asked_of (take at searched)) ++ lookup_of one.asked ∷ []
    ≡ lookups_of (asked_of (take (at + 1) searched))
more_asked searched at one there is =
    sym (map-append lookup_of (asked_of (take at searched)) (one.asked ∷ []))
    ∙ ap lookups_of (sym (map-append (λ (other : Searched). other.asked) (take at searched) (one ∷ [])))
    ∙ ap (λ other. lookups_of (asked_of (take at searched ++ other ∷ []))) is
    ∙ ap (λ all. lookups_of (asked_of all)) (sym (take_more searched at one there))

pub more_met : (id : ℕ) (searched : List Searched) (at : ℕ) (one : Searched) → at < length searched
    → one ≡ get_or searched at one
    → filters_met id (take at searched) ++ filters_met id (one ∷ []) ≡ filters_met id (take (at + 1) searched)
more_met id searched at one there is =
    let finds_it : Searched → Bool = λ other. list_any (λ n. n == id) other.ids in
    let as_filter : Searched → DataFilter = λ other. DeveloperMetadataLookup other.asked in
    sym (map-append as_filter (filter finds_it (take at searched)) (filter finds_it (one ∷ [])))
    ∙ ap (map as_filter) (sym (filter-append finds_it (take at searched) (one ∷ [])))
    ∙ ap (λ other. filters_met id (take at searched ++ other ∷ [])) is
    ∙ ap (filters_met id) (sym (take_more searched at one there))

-- an id that a search of ids in order finds is one of them
abbrev pub IsPlaceOf : List ℕ → ℕ → Result ℕ ℕ → Type 0
IsPlaceOf ids id place = MatchResult place (λ i. (i < length ids) × (get_or ids i 0 ≡ id))
    (λ i. (i ≤ length ids) × ((k : ℕ) → k < i → get_or ids k 0 < id)
    × ((k : ℕ) → i ≤ k → k < length ids → id < get_or ids k 0))

not_there : (ids : List ℕ) (id i : ℕ) → ((k : ℕ) → k < i → get_or ids k 0 < id)
    → ((k : ℕ) → i ≤ k → k < length ids → id < get_or ids k 0) → (k : ℕ) → k < length ids → get_or ids k 0 ≡ id → ⊥
not_there ids id i below above k there same = elim (cases_lt k i) [
  | inl before ↦ let less : get_or ids k 0 < id = below k before in omega (arith, less, same)
  | inr behind ↦ let more : id < get_or ids k 0 = above k behind there in omega (arith, more, same)
]

pub id_found : (ids : List ℕ) (id : ℕ) (place : Result ℕ ℕ) → IsPlaceOf ids id place
    → list_any (λ one. one == id) ids ≡ is_ok place
id_found ids id (Ok i) is = list_any_at (λ one. one == id) ids i 0 is.0 (eq-eqb (get_or ids i 0) id is.1)
id_found ids id (Err i) (bound, below, above) =
    list_any_none (λ one. one == id) ids
    (All-from_get_or (λ one. (one == id) ≡ false) ids 0
    (λ k there. ne_eqb (get_or ids k 0) id (not_there ids id i below above k there)))

-- ---- what a search is told

module _ (project : List ℕ) (book : PlaceBook) (filters : List (Reading MetadataLookup)) (told : ToldOfAll Searched)
    (in_order : InOrder (IsSearched project book) 0 filters told) where
  abbrev as_search : Option (List MatchedMetadata) → Result Answer Refusal
  as_search all = Ok (answer.Search all)

  abbrev AreAsked : ToldOfAll Searched → Type 0
  AreAsked told = InOrder (Asked project book) 0 filters (all_asked project book told)

  are_asked : (other : ToldOfAll Searched) → told ≡ other → AreAsked other
  are_asked other is = subst AreAsked is (all_known project book 0 filters told in_order).0

  pub all_done : (searched : List Searched) → told ≡ Ok searched → All (IsSearchDone project book.metadata) searched
  all_done searched is =
      subst (λ told. IfOk told (All (IsSearchDone project book.metadata))) is
      (all_known project book 0 filters told in_order).1

  pub search_told : (searched : List Searched) → told ≡ Ok searched → (all : List MatchedMetadata)
      → AreMatched project book.metadata searched all → (listed : Option (List MatchedMetadata))
      → listed ≡ unless_empty all → IsSearchOf project filters book (Ok (answer.Search listed)) Nothing
  search_told searched is all are listed listed_is = record {
    asked = Ok (asked_of searched);
    ids = are.ids;
    searched = record { each = are_asked (Ok searched) is; in_order = are.in_order };
    told_is = ap as_search (listed_is ∙ ap unless_empty are.all_are);
    nothing = refl;
  }

  pub search_broken : (at : ℕ) (broken : Rule) → told ≡ Err (at, broken)
      → IsSearchOf project filters book (Err (place.Filters at, broken)) Nothing
  search_broken at broken is = record {
    asked = Err (at, broken);
    ids = [];
    searched = record { each = are_asked (Err (at, broken)) is; in_order = tt };
    told_is = refl;
    nothing = refl;
  }
