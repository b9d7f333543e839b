-- A request on named ranges has one reply and makes one list of changes.
use Rattle.std.proofs.Common.{◌≡◌, ◌+◌, ℕ, Bool, true, false, sym, ap, subst, ◌∙◌, refl, List, length, inl, inr}
use Rattle.std.specs.Prelude.{Option, None, Some, Result, Ok, Err, MatchResult}
use Rattle.std.proofs.lemmas.Bool.{cases_order, false≢true}
use Rattle.cell_value.specs.Ids.{IsLeastUnused, IsNewId}
use Rattle.grid_range.specs.declared.area.Area.{Area}
use Rattle.named_ranges.specs.Listed.{IsFirstUnused, has_id, numbered_id}
use Rattle.named_ranges.specs.declared.range.NamedRange.{NamedRange}
use Rattle.world_model.specs.Book.{PlaceBook}
use Rattle.world_model.specs.BookChange.{BookChange}
use Rattle.dimension_ops.specs.Broken.{judged_by}
use Rattle.dimension_ops.specs.RangeRequests.{IsRangeAdded, IsRangeUpdated, range_of, range_updates}
use Rattle.dimension_ops.specs.declared.rule.Rule.{Rule}
use Rattle.json_requests.specs.declared.request.NewNamedRange.{NewNamedRange}
use Rattle.sheets_json.specs.declared.spreadsheet.Reply.{Reply}
use Rattle.sheets_json.specs.declared.spreadsheet.Reply.TheVariants as reply
use Rattle.request_kinds.specs.AddNamedRange.{IsAddNamedRange, IsRangePut, names_broken, put_behind}
use Rattle.request_kinds.specs.Rows.{area_or_broken}
use Rattle.request_kinds.specs.UpdateNamedRange.{IsRangeSet, IsUpdateNamedRange}
use Rattle.request_kinds.proofs.RowsOnce.{on_area_once}

-- ---- the id of a new one

-- no number is used and isn't
not_both : (b : Bool) → b ≡ true → b ≡ false → ⊥
not_both b is fails = false≢true (sym fails ∙ is)

pub least_unused_once : (is_used : ℕ → Bool) (one other : ℕ) → IsLeastUnused is_used one → IsLeastUnused is_used other
    → one ≡ other
least_unused_once is_used one other is is' = elim (cases_order one other) [
  | inl same ↦ same
  | inr which ↦ elim which [
    | inl below ↦ absurd (not_both (is_used one) (is'.least one is.positive below) is.unused)
    | inr above ↦ absurd (not_both (is_used other) (is.least other is'.positive above) is'.unused)
  ]
]

new_id_once : (ranges : List NamedRange) (asked : Option (List ℕ)) (one other : List ℕ)
    → IsNewId (IsFirstUnused ranges) asked one → IsNewId (IsFirstUnused ranges) asked other → one ≡ other
new_id_once ranges (Some asked) one other is is' = is ∙ sym is'
new_id_once ranges None one other (number, is, first) (number', is', first') =
    is
    ∙ ap numbered_id (least_unused_once (λ number. has_id ranges (numbered_id number)) number number' first first')
    ∙ sym is'

-- ---- addNamedRange

abbrev as_id : List ℕ → Result (List ℕ) Rule
as_id id = Ok id

abbrev as_broken : {A : Type 0} → Rule → Result A Rule
as_broken broken = Err broken

module _ (asked : Option (List ℕ)) (name : List ℕ) (area : Area) (book after after' : PlaceBook) where
  added_refused : (broken : Rule) (other : Result (List ℕ) Rule)
      → IsRangeAdded asked name area book after (Err broken) → IsRangeAdded asked name area book after' other
      → other ≡ as_broken broken
  added_refused broken other is is' = elim is.no_other [
    | inl taken ↦ is'.id_taken.1 (is.id_taken.0 (ap as_broken taken)) ∙ sym (ap as_broken taken)
    | inr behind ↦ elim behind [
      | inl bad ↦ is'.bad_name.1 (is.bad_name.0 (ap as_broken bad)) ∙ sym (ap as_broken bad)
      | inr taken ↦ is'.name_taken.1 (is.name_taken.0 (ap as_broken taken)) ∙ sym (ap as_broken taken)
    ]
  ]

added_once : (asked : Option (List ℕ)) (name : List ℕ) (area : Area) (book after after' : PlaceBook)
    (one other : Result (List ℕ) Rule) → IsRangeAdded asked name area book after one
    → IsRangeAdded asked name area book after' other → one ≡ other
added_once asked name area book after after' (Ok id) (Ok id') is is' =
    ap as_id (new_id_once book.ranges asked id id' is.new_id is'.new_id)
added_once asked name area book after after' (Ok id) (Err broken) is is' =
    added_refused asked name area book after' after broken (Ok id) is' is
added_once asked name area book after after' (Err broken) other is is' =
    sym (added_refused asked name area book after after' broken other is is')

module _ (book : PlaceBook) (asked : NewNamedRange) (area : Area) where
  abbrev Tells : Result (Reply × List BookChange) Rule → Result (List ℕ) Rule → Type 0
  Tells told added = MatchResult added
      (λ id. told ≡ judged_by (names_broken (length book.ranges + 1)) (put_behind (range_of id asked.name area)))
      (λ broken. told ≡ Err broken)

  tells_once : (added : Result (List ℕ) Rule) (told told' : Result (Reply × List BookChange) Rule) → Tells told added
      → Tells told' added → told ≡ told'
  tells_once (Ok id) told told' is is' = is ∙ sym is'
  tells_once (Err broken) told told' is is' = is ∙ sym is'

  put_once : (told told' : Result (Reply × List BookChange) Rule) → IsRangePut asked book area told
      → IsRangePut asked book area told' → told ≡ told'
  put_once told told' one other =
      let same =
      added_once asked.named_range_id asked.name area book one.after other.after one.added other.added one.adds
      other.adds in
      tells_once other.added told told' (subst (Tells told) same one.tells) other.tells

pub add_named_range_once : (book : PlaceBook) (asked : NewNamedRange)
    (told told' : Result (Reply × List BookChange) Rule) → IsAddNamedRange asked book told
    → IsAddNamedRange asked book told' → told ≡ told'
add_named_range_once book asked =
    on_area_once (IsRangePut asked book) (put_once book asked) (area_or_broken book.sheets asked.range)

-- ---- updateNamedRange

module _ (id : List ℕ) (name : Option (List ℕ)) (area : Option Area) (book after after' : PlaceBook) where
  updated_refused : (broken : Rule) (other : Result (Unit {0}) Rule)
      → IsRangeUpdated id name area book after (Err broken) → IsRangeUpdated id name area book after' other
      → other ≡ as_broken broken
  updated_refused broken other is is' = elim is.no_other [
    | inl none ↦ is'.no_id.1 (is.no_id.0 (ap as_broken none)) ∙ sym (ap as_broken none)
    | inr behind ↦ elim behind [
      | inl bad ↦ is'.bad_name.1 (is.bad_name.0 (ap as_broken bad)) ∙ sym (ap as_broken bad)
      | inr taken ↦ is'.name_taken.1 (is.name_taken.0 (ap as_broken taken)) ∙ sym (ap as_broken taken)
    ]
  ]

updated_once : (id : List ℕ) (name : Option (List ℕ)) (area : Option Area) (book after after' : PlaceBook)
    (one other : Result (Unit {0}) Rule) → IsRangeUpdated id name area book after one
    → IsRangeUpdated id name area book after' other → one ≡ other
updated_once id name area book after after' (Ok done) (Ok done') is is' = refl
updated_once id name area book after after' (Ok done) (Err broken) is is' =
    updated_refused id name area book after' after broken (Ok done) is' is
updated_once id name area book after after' (Err broken) other is is' =
    sym (updated_refused id name area book after after' broken other is is')

module _ (book : PlaceBook) (id : List ℕ) (name : Option (List ℕ)) (area : Option Area) where
  abbrev TellsSet : Result (Reply × List BookChange) Rule → Result (Unit {0}) Rule → Type 0
  TellsSet told updated = MatchResult updated
      (λ done. told ≡ Ok (reply.Empty, range_updates id name area book.ranges))
      (λ broken. told ≡ Err broken)

  tells_set_once : (updated : Result (Unit {0}) Rule) (told told' : Result (Reply × List BookChange) Rule)
      → TellsSet told updated → TellsSet told' updated → told ≡ told'
  tells_set_once (Ok done) told told' is is' = is ∙ sym is'
  tells_set_once (Err broken) told told' is is' = is ∙ sym is'

  set_once : (told told' : Result (Reply × List BookChange) Rule) → IsRangeSet id name book area told
      → IsRangeSet id name book area told' → told ≡ told'
  set_once told told' one other =
      let same =
      updated_once id name area book one.after other.after one.updated other.updated one.updates other.updates in
      tells_set_once other.updated told told' (subst (TellsSet told) same one.tells) other.tells

pub update_named_range_once : (book : PlaceBook) (id : List ℕ) (name : Option (List ℕ)) (area : Option Area)
    (told told' : Result (Reply × List BookChange) Rule) → IsUpdateNamedRange id name area book told
    → IsUpdateNamedRange id name area book told' → told ≡ told'
update_named_range_once book id name None = set_once book id name None
update_named_range_once book id name (Some area) =
    on_area_once (λ area. IsRangeSet id name book (Some area)) (λ area. set_once book id name (Some area))
    (area_or_broken book.sheets area)
