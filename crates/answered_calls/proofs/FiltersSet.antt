-- setBasicFilter and clearBasicFilter: a filter that breaks no rule is one that its sheet can have.
use Rattle.std.proofs.Common.{◌≡◌, ℕ, refl, sym, List, [], ◌∷◌, false}
use Rattle.std.specs.Prelude.{◌||◌, not, Option, None, Some, IfSome, IsSomeAnd}
use Rattle.std.specs.Option.{is_none}
use Rattle.std.proofs.lemmas.Bool.{or_parts, true≢false}
use Rattle.basic_filter.specs.declared.types.Filter.{Filter}
use Rattle.world_model.specs.Book.{PlaceBook}
use Rattle.world_model.specs.BookChange.{BookChange}
use Rattle.world_model.specs.FilterLaws.{FilterIsSet}
use Rattle.world_model.specs.Sheet.{PlaceSheet}
use Rattle.world_model.specs.SheetChange.{place_filter_set}
use Rattle.world_model.specs.Sound.{IsFilterOf, place_sheet_with}
use Rattle.dimension_ops.specs.Broken.{first_broken}
use Rattle.dimension_ops.specs.JudgingLaws.{breaks_none}
use Rattle.sheets_json.specs.declared.spreadsheet.Reply.TheVariants as reply
use Rattle.request_kinds.specs.AreasWithin.{area_within}
use Rattle.request_kinds.specs.ClearBasicFilter.{basic_filter_cleared, filter_cleared_broken}
use Rattle.request_kinds.specs.FilterLaws.{none_past}
use Rattle.values_api.specs.FoundLaws.{sheet_has_id}
use Rattle.request_kinds.specs.Rows.{begins_on, cut_on, is_reversed}
use Rattle.request_kinds.specs.SetBasicFilter.{asks_outside, asks_past, basic_filter_set, broken_by_filter, put_on}
use Rattle.answered_calls.proofs.Telling.{IsMadeSome, judged_made_some}

abbrev filter_cut : (filter : Filter) (found : Option PlaceSheet) → Filter
filter_cut filter found = record filter { area = cut_on found filter.area }

can_be_set : (filter : Filter) (sheets : List PlaceSheet) (found : Option PlaceSheet)
    → place_sheet_with filter.area.sheet sheets ≡ found → first_broken (broken_by_filter found filter) ≡ None
    → IsSomeAnd found (λ sheet. IfSome (Some (filter_cut filter found)) (IsFilterOf sheet))
can_be_set filter sheets None at none =
    absurd (true≢false (breaks_none (broken_by_filter None filter) none).no_sheet)
can_be_set filter sheets (Some sheet) at none =
    let unbroken = breaks_none (broken_by_filter (Some sheet) filter) none in
    let rows = is_reversed filter.area.rows in
    let cols = is_reversed filter.area.cols in
    let ranges = or_parts (rows || cols) (asks_outside filter) unbroken.bad_range in
    let grid = or_parts (asks_past filter sheet) (not (begins_on filter.area sheet)) unbroken.outside_grid in
    record {
      own = sym (sheet_has_id filter.area.sheet sheets sheet at);
      within = area_within sheet filter.area ranges.0 grid.1;
      columns = none_past filter sheet grid.0;
    }

is_there : (found : Option PlaceSheet) (given : Option Filter) → given ≡ None → is_none found ≡ false
    → IsSomeAnd found (λ sheet. IfSome given (IsFilterOf sheet))
is_there None given is there = absurd (true≢false there)
is_there (Some sheet) None is there = tt
is_there (Some sheet) (Some filter) is there = absurd (some_apart is)
  where
    some_apart : Some filter ≡ None → ⊥
    some_apart is = cc

module _ (set : FilterIsSet) (book : PlaceBook) where
  pub set_filter_made : (filter : Filter) → IsMadeSome book (λ told. told ≡ basic_filter_set filter book.sheets)
  set_filter_made filter =
      let found = place_sheet_with filter.area.sheet book.sheets in
      let given = Some (filter_cut filter found) in
      judged_made_some book (broken_by_filter found filter) (put_on filter (cut_on found filter.area)) (λ none. (
        place_filter_set filter.area.sheet given book,
        set.changes book filter.area.sheet given (can_be_set filter book.sheets found refl none),
      ))

  pub clear_filter_made : (sheet : ℕ) → IsMadeSome book (λ told. told ≡ basic_filter_cleared sheet book.sheets)
  clear_filter_made sheet =
      judged_made_some book (filter_cleared_broken sheet book.sheets)
      (reply.Empty, BookChange.FilterSet sheet None ∷ []) (λ none. (
        place_filter_set sheet None book,
        set.changes book sheet None (is_there (place_sheet_with sheet book.sheets) None refl
            (breaks_none (filter_cleared_broken sheet book.sheets) none).no_sheet),
      ))
