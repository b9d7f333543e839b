-- What is done on the cells of a range, or refused, from what each step says.
use Rattle.std.proofs.Common.{◌≡◌, ℕ, Bool, refl, sym, ap, subst, ◌∙◌, List, length}
use Rattle.std.specs.Prelude.{Option, Some, None, IsSomeAnd, IfSome, Result, Ok, Err}
use Rattle.a1_notation.specs.Canonical.{canonical}
use Rattle.cell_value.specs.declared.cell.Block.{Block}
use Rattle.cell_value.specs.declared.cell.Cell.{Cell}
use Rattle.cell_value.specs.declared.cell.Render.{Render}
use Rattle.grid_range.specs.Band.{first_line, end_line}
use Rattle.grid_range.specs.declared.area.Area.{Area}
use Rattle.grid_range.specs.declared.axis.Axis.{Axis}
use Rattle.world_model.specs.Book.{PlaceBook}
use Rattle.world_model.specs.BookChange.{BookChange}
use Rattle.world_model.specs.ChangingLaws.{UpdatesAreChanges}
use Rattle.world_model.specs.Sheet.{PlaceSheet}
use Rattle.world_model.specs.Sound.{place_sheet_with}
use Rattle.world_model.specs.Updating.{SheetUpdated, Updates}
use Rattle.dimension_ops.specs.Rules.{IsUnlessNoMemory}
use Rattle.dimension_ops.specs.declared.rule.Rule.{Rule}
use Rattle.dimension_ops.specs.declared.rule.RuleOr.{RuleOr}
use Rattle.dimension_ops.specs.declared.rule.RuleOr.TheVariants as refusal
use Rattle.values_api.specs.Blocks.{IsWrite, contents_of}
use Rattle.values_api.specs.Denials.{AreaCells, IsUnlessDenied, IsWriteBy, unless_denied}
use Rattle.values_api.specs.Laws.{UpdatesOnce}
use Rattle.values_api.specs.Ranges.{FoundArea, Resolves, area_text}
use Rattle.values_api.specs.Shown.{IsAreaShown}
use Rattle.values_api.specs.Updates.{cleared, AreUpdated}
use Rattle.values_api.specs.declared.writing.WrittenCells.{WrittenCells}
use Rattle.sheets_json.specs.declared.answer.Answer.{Answer}
use Rattle.sheets_json.specs.declared.answer.ShownRange.{ShownRange}
use Rattle.sheets_json.specs.declared.answer.Update.{Update as UpdateAnswer}
use Rattle.request_kinds.specs.Telling.{IsDoneTo, cells_updated}
use Rattle.values_api.specs.FoundLaws.{some_and}
use Rattle.request_kinds.specs.TellingLaws.{denied_same, done_of, none_denied, update_made}
use Rattle.batch_engine.specs.Effects.Effect.{Nothing}
use Rattle.batch_engine.specs.Filtered.{IsShownAs, Showing}
use Rattle.batch_engine.specs.Values.{OnRange, done, refused, is_columns, axis_or_rows, render_or_formatted, shown_range, unless_empty}
use Rattle.batch_engine.specs.Values.{IsCleared, IsShown, IsUpdate, Wrote, clear, update_of}
use Rattle.batch_engine.specs.Calls.{IsChange, IsMade, IsReadOf}

abbrev as_shown : ShownRange → Result ShownRange Rule
as_shown shown = Ok shown

abbrev as_cleared : List ℕ → Area → Result (List ℕ × List BookChange) Rule
as_cleared text area = Ok (text, cells_updated area.sheet (cleared area))

abbrev as_written : UpdateAnswer → WrittenCells → ℕ → Updates → Result (Wrote × List BookChange) Rule
as_written update counts sheet updates = Ok ((update, counts), cells_updated sheet updates)

abbrev told_so : List ℕ → List ℕ → ℕ → ℕ → WrittenCells → UpdateAnswer
told_so id title rows cols counts = record {
  spreadsheet_id = id;
  updated_cells = counts.cells;
  updated_columns = length counts.cols;
  updated_range = canonical title (first_line counts.area.rows, end_line counts.area.rows rows)
      (first_line counts.area.cols, end_line counts.area.cols cols);
  updated_rows = length counts.rows;
}

none_is_some : (sheet : PlaceSheet) → None ≡ Some sheet → ⊥
none_is_some sheet e = cc

first_some : (one other : PlaceSheet) → Some one ≡ Some other → one ≡ other
first_some one other e = cc

-- ---- a range that breaks a rule

module _ {A : Type 0} (Found : Result FoundArea Rule → Type 0) (sheets : List PlaceSheet)
    (IsDone : FoundArea → PlaceSheet → Result A Rule → Type 0) where
  pub range_refused : (fault : RuleOr) → IsUnlessNoMemory Found (Err fault)
      → IsUnlessNoMemory (OnRange Found sheets IsDone) (Err fault)
  range_refused (refusal.Rule broken) is = refused broken is refl
  range_refused refusal.NoMemory is = tt

module _ {A : Type 0} (Found : Result FoundArea Rule → Type 0) (sheets : List PlaceSheet)
    (IsDone : FoundArea → PlaceSheet → Result (A × List BookChange) Rule → Type 0) (before after : PlaceBook) where
  pub change_refused : (fault : RuleOr) → IsUnlessNoMemory Found (Err fault)
      → IsUnlessNoMemory (IsDoneTo (OnRange Found sheets IsDone) before after) (Err fault)
  change_refused (refusal.Rule broken) is = refused broken is refl
  change_refused refusal.NoMemory is = tt

-- what is done on the sheet of a range that is there
module _ {A : Type 0} (Found : Result FoundArea Rule → Type 0) (sheets : List PlaceSheet)
    (IsDone : FoundArea → PlaceSheet → Result (A × List BookChange) Rule → Type 0) (before after : PlaceBook)
    (found : FoundArea)
    (is_found : Found (Ok found)) where
  on_sheet : (sheet : PlaceSheet) → place_sheet_with found.0.sheet sheets ≡ Some sheet → (told : Result A RuleOr)
      → IsUnlessNoMemory (IsDoneTo (IsDone found sheet) before after) told
      → IsUnlessNoMemory (IsDoneTo (OnRange Found sheets IsDone) before after) told
  on_sheet sheet is (Ok one) holds =
      let (changes, holds_so, made) = holds in
      (changes, done found sheet is_found is holds_so, made)
  on_sheet sheet is (Err (refusal.Rule broken)) holds = done found sheet is_found is holds
  on_sheet sheet is (Err refusal.NoMemory) holds = tt

  pub done_there : (told : Result A RuleOr)
      → IsSomeAnd (place_sheet_with found.0.sheet sheets)
      (λ sheet. IsUnlessNoMemory (IsDoneTo (IsDone found sheet) before after) told)
      → IsUnlessNoMemory (IsDoneTo (OnRange Found sheets IsDone) before after) told
  done_there told there =
      let (sheet, is, holds) =
      some_and (λ (sheet : PlaceSheet). IsUnlessNoMemory (IsDoneTo (IsDone found sheet) before after)
      told) (place_sheet_with found.0.sheet sheets) there in
      on_sheet sheet is told holds

-- ---- a call on one range

module _ {A : Type 0} (Is : Result (A × List BookChange) Rule → Type 0) (answer_of : A → Answer)
    (before after : PlaceBook) where
  pub made_alone : (one : A) → IsDoneTo Is before after (Ok one)
      → IsChange (IsMade Is answer_of before) before (Ok (answer_of one, after))
  made_alone one (changes, is, made) =
      (changes, record { one = Ok (one, changes); is = is; told_is = refl; effect_is = refl }, made)

  pub refused_alone : (fault : RuleOr) → IsUnlessNoMemory (IsDoneTo Is before after) (Err fault)
      → IsUnlessNoMemory (IsChange (IsMade Is answer_of before) before) (Err fault)
  refused_alone (refusal.Rule broken) is = record { one = Err broken; is = is; told_is = refl; effect_is = refl }
  refused_alone refusal.NoMemory is = tt

-- what a range shows is answered
pub seen_so : (range : List ℕ) (dimension : Option Axis) (render : Option Render) (book : PlaceBook)
    (fault : RuleOr) → IsUnlessNoMemory (IsShown dimension render book range) (Err fault)
    → IsUnlessNoMemory (λ told. IsReadOf range dimension render book told Nothing) (Err fault)
seen_so range dimension render book (refusal.Rule broken) is =
    record { one = Err broken; is = is; told_is = refl; nothing = refl }
seen_so range dimension render book refusal.NoMemory is = tt

-- ---- reads

module _ (dimension : Option Axis) (render : Option Render) (book : PlaceBook) where
  abbrev how : Showing
  how = record { dimension = dimension; render = render }

  module _ (area : Area) (text : List ℕ) (lines : List (List Cell)) where
    abbrev as_read : List ℕ → ShownRange
    as_read text = record { range = text; major_dimension = axis_or_rows dimension; values = unless_empty lines }

    abbrev AreLines : PlaceSheet → Type 0
    AreLines sheet =
        IsAreaShown book area (is_columns (axis_or_rows dimension)) (render_or_formatted render) sheet lines

    on_found : (found : Option PlaceSheet) → IsSomeAnd found (λ sheet. text ≡ area_text sheet area)
        → IfSome found AreLines
        → IsSomeAnd found (λ sheet. (lines : List (List Cell))
        × IsAreaShown book area (is_columns (axis_or_rows dimension)) (render_or_formatted render) sheet lines
        × (as_read text ≡ shown_range (axis_or_rows dimension) area sheet lines))
    on_found None text_is shown = absurd text_is
    on_found (Some sheet) text_is shown = (lines, shown, ap as_read text_is)

    pub area_read : IsSomeAnd (place_sheet_with area.sheet book.sheets) (λ sheet. text ≡ area_text sheet area)
        → IfSome (place_sheet_with area.sheet book.sheets) AreLines → IsShownAs how book area (as_read text)
    area_read = on_found (place_sheet_with area.sheet book.sheets)

  pub read_done : (range : List ℕ) (found : FoundArea) (shown : ShownRange) → Resolves range book (Ok found)
      → IsShownAs how book found.0 shown → IsShown dimension render book range (Ok shown)
  read_done range found shown resolves is_shown =
      let (sheet, is, (lines, are, shown_is)) = some_and (λ (sheet : PlaceSheet). (lines : List (List Cell))
      × IsAreaShown book found.0 (is_columns (axis_or_rows dimension)) (render_or_formatted render) sheet lines
      × (shown ≡ shown_range (axis_or_rows dimension) found.0 sheet lines))
      (place_sheet_with found.0.sheet book.sheets) is_shown in
      done found sheet resolves is (record { lines = lines; shown = are; told_is = ap as_shown shown_is })

-- ---- clears

module _ (user range : List ℕ) (book after : PlaceBook) (found : FoundArea) (text : List ℕ)
    (resolves : Resolves range book (Ok found))
    (text_of : IsSomeAnd (place_sheet_with found.0.sheet book.sheets) (λ sheet. text ≡ area_text sheet found.0)) where
  abbrev IsAllowed : Result (Unit {0}) Rule → Type 0
  IsAllowed = IsUnlessDenied user book (AreaCells book.sheets found.0) (λ done. done ≡ Ok tt)

  -- what is cleared is told unless a cell is denied
  cleared_so : (sheet : PlaceSheet) → place_sheet_with found.0.sheet book.sheets ≡ Some sheet
      → (told : Result (List ℕ × List BookChange) Rule) (allowed : Result (Unit {0}) Rule) → IsAllowed allowed
      → ((denied : Option ℕ) → allowed ≡ unless_denied denied (Ok tt)
      → told ≡ unless_denied denied (Ok (clear found sheet))) → IsCleared user book (Ok range) told
  cleared_so sheet is told allowed so tells = done found sheet resolves is (record {
    denied = so.denied;
    is_denied = so.is_denied;
    done = Ok (clear found sheet);
    is = refl;
    told_is = tells so.denied (so.told_is ∙ ap (λ done. unless_denied so.denied done) so.is);
  })

  pub emptied_done : UpdatesAreChanges → IsAllowed (Ok tt) → AreUpdated found.0.sheet (cleared found.0) book after
      → IsDoneTo (IsCleared user book (Ok range)) book after (Ok text)
  emptied_done are allowed updated =
      let (sheet, is, text_is) = some_and (λ (sheet : PlaceSheet). text ≡ area_text sheet found.0)
      (place_sheet_with found.0.sheet book.sheets) text_of in (
        cells_updated found.0.sheet (cleared found.0),
        cleared_so sheet is (as_cleared text found.0) (Ok tt) allowed (λ denied so.
            ap (λ told. as_cleared told found.0) text_is
            ∙ ap (λ d. unless_denied d (Ok (clear found sheet))) (sym (none_denied denied (Ok tt) tt so))),
        update_made are found.0.sheet (cleared found.0) book after updated,
      )

  pub emptied_refused : (fault : RuleOr) → IsUnlessNoMemory IsAllowed (Err fault)
      → IsUnlessNoMemory (IsDoneTo (IsCleared user book (Ok range)) book after) (Err fault)
  emptied_refused (refusal.Rule broken) allowed =
      let (sheet, is, text_is) = some_and (λ (sheet : PlaceSheet). text ≡ area_text sheet found.0)
      (place_sheet_with found.0.sheet book.sheets) text_of in
      cleared_so sheet is (Err broken) (Err broken) allowed
      (λ denied so. denied_same denied tt (clear found sheet) broken so)
  emptied_refused refusal.NoMemory allowed = tt

-- ---- writes

-- what is told of a write doesn't tell the spreadsheet after it from the one before
told_same : (number : ℕ) (updates : Updates) (book after : PlaceBook) (sheet now : PlaceSheet) (wrote : WrittenCells)
    → after.id ≡ book.id → SheetUpdated number updates sheet now → update_of after now wrote
    ≡ update_of book sheet wrote
told_same number updates book after sheet now wrote same_id same =
    ap (λ id. told_so id now.title now.table.rows now.table.cols wrote) same_id
    ∙ ap (λ title. told_so book.id title now.table.rows now.table.cols wrote) same.title
    ∙ ap (λ rows. told_so book.id sheet.title rows now.table.cols wrote) same.rows
    ∙ ap (λ cols. told_so book.id sheet.title sheet.table.rows cols wrote) same.cols

module _ (user : List ℕ) (book after : PlaceBook) (block : Block) (area : Area) (one_cell : Bool) where
  abbrev Writes : Result WrittenCells Rule → PlaceSheet → Type 0
  Writes wrote sheet = IsWriteBy user one_cell area block sheet book after wrote

  pub put_done : UpdatesAreChanges → UpdatesOnce → (wrote : WrittenCells) (update : UpdateAnswer)
      → IsSomeAnd (place_sheet_with area.sheet book.sheets)
      (λ sheet. IsUnlessNoMemory (IsWriteBy user one_cell area block sheet book after) (Ok wrote))
      → IsSomeAnd (place_sheet_with wrote.area.sheet after.sheets) (λ sheet. update ≡ update_of after sheet wrote)
      → IsSomeAnd (place_sheet_with area.sheet book.sheets)
      (λ sheet. IsUnlessNoMemory (IsDoneTo (IsUpdate user book block (area, one_cell) sheet) book after)
      (Ok (update, wrote)))
  put_done are updates_once wrote update writes_it told =
      let (sheet, is, writes) = some_and (Writes (Ok wrote)) (place_sheet_with area.sheet book.sheets) writes_it in
      let updates = contents_of writes.is.entries in
      let so : IsWrite one_cell area block sheet book after (Ok wrote) =
      subst (IsWrite one_cell area block sheet book after) (done_of writes.denied writes.done wrote writes.told_is)
      writes.is in
      let (now, is_now, same) =
      some_and (SheetUpdated area.sheet updates sheet) (place_sheet_with area.sheet after.sheets)
      (updates_once.kept area.sheet updates book after area.sheet sheet writes.is.updated is) in
      let same_area = ap (λ (area : Area). place_sheet_with area.sheet after.sheets) so.answered.1.area_is in
      let told_now : update ≡ update_of after now wrote =
      subst (λ one. IsSomeAnd one (λ (sheet : PlaceSheet). update ≡ update_of after sheet wrote))
      (same_area ∙ is_now) told in
      let told_is = told_now
      ∙ told_same area.sheet updates book after sheet now wrote writes.is.updated.places.id same in
      subst (λ one. IsSomeAnd one (λ (sheet : PlaceSheet). IsUnlessNoMemory
      (IsDoneTo (IsUpdate user book block (area, one_cell) sheet) book after) (Ok (update, wrote)))) (sym is) (
        cells_updated area.sheet updates,
        record {
          after = after;
          wrote = Ok wrote;
          writes = writes;
          tells = ap (λ one. as_written one wrote area.sheet updates) told_is;
        },
        update_made are area.sheet updates book after writes.is.updated,
      )
