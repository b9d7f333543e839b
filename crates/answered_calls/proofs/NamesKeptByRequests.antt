-- No two named ranges have one id or one name after a request is done, if no two had before.
use Rattle.std.proofs.Common.{◌≡◌, ℕ, ◌+◌, refl, sym, ap, subst, List, [], ◌∷◌, ◌++◌, get_or, length, false, arith}
use Rattle.std.specs.Prelude.{None, Option, Some, Result, Ok, Err, is_some}
use Rattle.std.specs.Option.{IsSome, option_map_or}
use Rattle.std.specs.Str.{bytes_eq, str_to_ascii_lowercase}
use Rattle.std.proofs.lemmas.Bool.{both_ways, false_from_ne_true}
use Rattle.std.proofs.lemmas.List.Quantifiers.{all_pairs_push}
use Rattle.std.proofs.lemmas.Slice.Eq.{bytes_eq-Decides}
use Rattle.cell_value.specs.Ids.{IsNewId, is_taken}
use Rattle.grid_range.specs.declared.area.Area.{Area}
use Rattle.named_ranges.specs.Given.{given_range}
use Rattle.named_ranges.specs.Listed.{AreApart, AreNames, IsBadName, IsFirstUnused, IsTakenName, has_id, is_same_name, with_changed, with_id, with_name}
use Rattle.named_ranges.specs.declared.range.NamedRange.{NamedRange}
use Rattle.world_model.specs.Book.{PlaceBook}
use Rattle.world_model.specs.BookChange.{AreChanges, BookChange}
use Rattle.world_model.specs.ChangingLaws.{ChangesApart}
use Rattle.world_model.specs.Laws.{StandsForSome}
use Rattle.world_model.specs.Sound.{IsSound}
use Rattle.dimension_ops.specs.Broken.{first_broken, judged_by}
use Rattle.dimension_ops.specs.NewSheetLaws.{find_none, is_none_of}
use Rattle.dimension_ops.specs.RangeRequests.{IsRangeAdded, IsRangeUpdated, range_of, range_updates}
use Rattle.dimension_ops.specs.declared.rule.Rule.{Rule}
use Rattle.json_requests.specs.declared.request.NewNamedRange.{NewNamedRange}
use Rattle.json_requests.specs.declared.request.Request.{Request}
use Rattle.json_requests.specs.declared.request.Request.TheVariants as request
use Rattle.sheets_json.specs.declared.spreadsheet.Reply.{Reply}
use Rattle.sheets_json.specs.declared.spreadsheet.Reply.TheVariants as reply
use Rattle.request_kinds.specs.AddNamedRange.{IsRangePut, names_broken, put_behind}
use Rattle.request_kinds.specs.Requests.{IsDoneAsAsked, IsDoneByKind}
use Rattle.request_kinds.specs.Rows.{OnArea, area_or_broken}
use Rattle.request_kinds.specs.TellingLaws.{as_told, done_of, match_told, told_apart, told_same}
use Rattle.request_kinds.specs.UpdateNamedRange.{IsRangeSet}
use Rattle.answered_calls.proofs.NamesStay.{names_stay}
use Rattle.answered_calls.proofs.RequestsFew.{most_of, of_kind_few}

abbrev Done : Type 0
Done = Reply × List BookChange

-- what is told of an area is told of one that breaks no rule
on_area_told : (area : Result Area Rule) (Is : Area → Result Done Rule → Type 0) (done : Done)
    → OnArea area Is (Ok done) → (cut : Area) × Is cut (Ok done)
on_area_told (Ok cut) Is done is = (cut, is)
on_area_told (Err broken) Is done is = absurd (told_apart done broken is)

judged_told : (first : Option Rule) (one other : Done) → as_told one ≡ option_map_or Err first (Ok other) → one ≡ other
judged_told None one other is = told_same one other is
judged_told (Some broken) one other is = absurd (told_apart one broken is)

-- ---- a named range that is added

-- an id that is given is free, and so is one that is chosen
new_id_free : (ranges : List NamedRange) (given : Option (List ℕ)) (id : List ℕ)
    → is_taken (has_id ranges) given ≡ false
    → IsNewId (IsFirstUnused ranges) given id → has_id ranges id ≡ false
new_id_free ranges None id free (number, is, least) = subst (λ id. has_id ranges id ≡ false) (sym is) least.unused
new_id_free ranges (Some asked) id free is = subst (λ id. has_id ranges id ≡ false) (sym is) free

one_more_apart : (ranges : List NamedRange) (range : NamedRange) → AreNames ranges → has_id ranges range.id ≡ false
    → is_some (with_name range.name ranges) ≡ false → AreNames (ranges ++ range ∷ [])
one_more_apart ranges range apart new other =
    let ids =
    find_none (λ (one : NamedRange). bytes_eq range.id one.id) ranges (is_none_of (with_id range.id ranges) new) in
    let names = find_none (λ (one : NamedRange). is_same_name range.name one.name) ranges
    (is_none_of (with_name range.name ranges) other) in
    all_pairs_push AreApart ranges range apart (λ k d there.
    let one = get_or ranges k d in
    record {
      ids = λ same. both_ways (bytes_eq range.id one.id) (ids k d there)
          ((bytes_eq-Decides range.id one.id).1 (sym same));
      names = λ same. both_ways (is_same_name range.name one.name) (names k d there)
          ((bytes_eq-Decides (str_to_ascii_lowercase range.name) (str_to_ascii_lowercase one.name)).1 (sym same));
    })

ok_apart : (id : List ℕ) (broken : Rule) → Ok id ≡ Err broken → ⊥
ok_apart id broken is = cc

module _ (given : Option (List ℕ)) (name : List ℕ) (area : Area) (book after : PlaceBook) (id : List ℕ)
    (adds : IsRangeAdded given name area book after (Ok id)) where
  id_free : is_taken (has_id book.ranges) given ≡ false
  id_free = false_from_ne_true (is_taken (has_id book.ranges) given) (λ is. ok_apart id _ (adds.id_taken.1 is))

  name_free : is_some (with_name name book.ranges) ≡ false
  name_free = false_from_ne_true (is_some (with_name name book.ranges)) (λ is.
      ok_apart id _ (adds.bad_name.1 (id_free, λ good. ok_apart id _ (adds.name_taken.1 (id_free, good, is)))))

  names_added : AreNames book.ranges → AreNames after.ranges
  names_added apart =
      subst (λ (one : PlaceBook). AreNames one.ranges) (sym adds.added)
      (one_more_apart book.ranges (range_of id name area) apart
      (new_id_free book.ranges given id id_free adds.new_id) name_free)

-- ---- a named range that is updated

-- a named range that is given a name which no other one has leaves names apart
abbrev pub NamesChange : Type 0
NamesChange = (id : List ℕ) (name : Option (List ℕ)) (area : Option Area) (ranges : List NamedRange)
    → ¬ (IsBadName name) → ¬ (IsTakenName id name ranges) → AreNames ranges
    → AreNames (with_changed id (given_range name area) ranges)

abbrev as_done : Result (Unit {0}) Rule
as_done = Ok tt

unit_apart : (broken : Rule) → as_done ≡ Err broken → ⊥
unit_apart broken is = cc

module _ (change : NamesChange) (id : List ℕ) (name : Option (List ℕ)) (area : Option Area) (book after : PlaceBook)
    (updates : IsRangeUpdated id name area book after (Ok tt)) where
  is_there : (found : Option NamedRange) → with_id id book.ranges ≡ found → IsSome found
  is_there None is = absurd (unit_apart _ (updates.no_id.1 is))
  is_there (Some range) is = refl

  names_updated : AreNames book.ranges → AreNames after.ranges
  names_updated apart =
      let there = is_there (with_id id book.ranges) refl in
      subst AreNames (sym updates.ranges) (change id name area book.ranges
      (λ bad. unit_apart _ (updates.bad_name.1 (there, bad)))
      (λ taken. unit_apart _ (updates.name_taken.1 (there, taken))) apart)

-- ---- requests

module _ (once : ChangesApart) (some : StandsForSome) (change : NamesChange) (user project : List ℕ)
    (book : PlaceBook) (sound : IsSound book) (done : Done) (after : PlaceBook) (are : AreChanges done.1 book after)
    (apart : AreNames book.ranges) where
  added_kept : (asked : NewNamedRange) → IsDoneByKind user project book (request.AddNamedRange asked) (Ok done)
      → AreNames after.ranges
  added_kept asked is =
      let (area, put) = on_area_told (area_or_broken book.sheets asked.range) (IsRangePut asked book) done is in
      let broken = names_broken (length book.ranges + 1) in
      let (id, is_added, told) = match_told put.added
      (λ id. as_told done ≡ judged_by broken (put_behind (range_of id asked.name area))) done put.tells in
      let range = range_of id asked.name area in
      let same = judged_told (first_broken broken) done (put_behind range) told in
      let adds = subst (IsRangeAdded asked.named_range_id asked.name area book put.after) (sym is_added) put.adds in
      let after_is = once.same (BookChange.RangeAdded range ∷ []) book after put.after sound
      (subst (λ changes. AreChanges changes book after) (ap (λ (d : Done). d.1) same) are) adds.names in
      subst (λ (one : PlaceBook). AreNames one.ranges) (sym after_is)
      (names_added asked.named_range_id asked.name area book put.after id adds apart)

  set_kept : (id : List ℕ) (name : Option (List ℕ)) (area : Option Area) → IsRangeSet id name book area (Ok done)
      → AreNames after.ranges
  set_kept id name area set =
      let changes = range_updates id name area book.ranges in
      let (one, is_updated, told) = match_told set.updated (λ one. as_told done ≡ as_told (reply.Empty, changes)) done
      set.tells in
      let same = told_same done (reply.Empty, changes) told in
      let updates = subst (IsRangeUpdated id name area book set.after) (sym is_updated) set.updates in
      let after_is = once.same changes book after set.after sound
      (subst (λ changes. AreChanges changes book after) (ap (λ (d : Done). d.1) same) are) updates.names in
      subst (λ (one : PlaceBook). AreNames one.ranges) (sym after_is)
      (names_updated change id name area book set.after updates apart)

  updated_kept : (id : List ℕ) (name : Option (List ℕ)) (given : Option Area)
      → IsDoneByKind user project book (request.UpdateNamedRange id name given) (Ok done) → AreNames after.ranges
  updated_kept id name None is = set_kept id name None is
  updated_kept id name (Some given) is =
      let (area, set) =
      on_area_told (area_or_broken book.sheets given) (λ area. IsRangeSet id name book (Some area)) done
      is in
      set_kept id name (Some area) set

  none_kept : (asked : Request) → most_of asked ≡ 0 → IsDoneByKind user project book asked (Ok done)
      → AreNames after.ranges
  none_kept asked none is =
      let few = of_kind_few user project book asked (Ok done) is in
      names_stay some done.1 (omega (arith, few, none)) book after sound are apart

  kind_kept : (asked : Request) → IsDoneByKind user project book asked (Ok done) → AreNames after.ranges
  kind_kept (request.AddNamedRange asked) is = added_kept asked is
  kind_kept (request.UpdateNamedRange id name area) is = updated_kept id name area is
  kind_kept (request.UpdateCells rows area) is = none_kept (request.UpdateCells rows area) refl is
  kind_kept (request.AppendCells sheet rows) is = none_kept (request.AppendCells sheet rows) refl is
  kind_kept (request.AddSheet properties) is = none_kept (request.AddSheet properties) refl is
  kind_kept (request.DeleteSheet sheet) is = none_kept (request.DeleteSheet sheet) refl is
  kind_kept (request.UpdateSheetProperties sheet properties) is =
      none_kept (request.UpdateSheetProperties sheet properties) refl is
  kind_kept (request.InsertDimension range inherits) is = none_kept (request.InsertDimension range inherits) refl is
  kind_kept (request.DeleteDimension range) is = none_kept (request.DeleteDimension range) refl is
  kind_kept (request.AppendDimension sheet axis length) is =
      none_kept (request.AppendDimension sheet axis length) refl is
  kind_kept (request.MoveDimension range to) is = none_kept (request.MoveDimension range to) refl is
  kind_kept (request.MergeCells range type) is = none_kept (request.MergeCells range type) refl is
  kind_kept (request.UnmergeCells range) is = none_kept (request.UnmergeCells range) refl is
  kind_kept (request.DeleteNamedRange id) is = none_kept (request.DeleteNamedRange id) refl is
  kind_kept (request.AddProtectedRange id patch) is = none_kept (request.AddProtectedRange id patch) refl is
  kind_kept (request.UpdateProtectedRange id patch) is = none_kept (request.UpdateProtectedRange id patch) refl is
  kind_kept (request.DeleteProtectedRange id) is = none_kept (request.DeleteProtectedRange id) refl is
  kind_kept (request.CreateDeveloperMetadata asked) is = none_kept (request.CreateDeveloperMetadata asked) refl is
  kind_kept (request.UpdateDeveloperMetadata asked patch) is =
      none_kept (request.UpdateDeveloperMetadata asked patch) refl is
  kind_kept (request.DeleteDeveloperMetadata asked) is = none_kept (request.DeleteDeveloperMetadata asked) refl is
  kind_kept (request.SetBasicFilter filter) is = none_kept (request.SetBasicFilter filter) refl is
  kind_kept (request.ClearBasicFilter sheet) is = none_kept (request.ClearBasicFilter sheet) refl is

  pub request_keeps_names : (asked : Request) → IsDoneAsAsked user project book asked (Ok done) → AreNames after.ranges
  request_keeps_names asked is =
      kind_kept asked
      (subst (IsDoneByKind user project book asked) (done_of is.denied is.done done is.told_is) is.is)
