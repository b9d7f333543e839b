-- What an append is judged by before anything is changed, and what becomes of it.
use Rattle.std.proofs.Common.{◌≡◌, ℕ, ◌+◌, ◌<◌, ◌≤◌, List, refl, sym, subst, ap, ◌∙◌, Bool, true, false, arith}
use Rattle.std.specs.Prelude.{Option, Some, None, Result, Ok, Err, IfSome, IsSomeAnd, OnOk}
use Rattle.std.specs.List.{AllZip}
use Rattle.std.specs.Option.{option_map}
use Rattle.cell_value.specs.declared.cell.Block.{Block}
use Rattle.grid_range.specs.Area.{AreaWithin}
use Rattle.grid_range.specs.Band.{Within, first_line}
use Rattle.grid_range.specs.declared.area.Area.{Area}
use Rattle.grid_range.specs.declared.axis.Axis.TheVariants.{Rows, Columns}
use Rattle.grid_range.specs.declared.band.Band.{Band}
use Rattle.grid_range.specs.declared.band.Band.TheVariants.{Whole, From, Span}
use Rattle.cell_store.specs.Table.{HasItemsInside, most_lines}
use Rattle.world_model.specs.Book.{PlaceBook}
use Rattle.world_model.specs.BookChange.{AreChanges, BookChange}
use Rattle.world_model.specs.ChangingLaws.{ChangesInTurn, UpdatesAreChanges}
use Rattle.world_model.specs.Laws.{size_of}
use Rattle.world_model.specs.Sheet.{PlaceSheet}
use Rattle.world_model.specs.Sound.{IsSheetSound, IsSound, most_on, most_places, place_sheet_with}
use Rattle.world_model.specs.Updating.{SheetUpdated, Updates}
use Rattle.dimension_ops.specs.Rules.{IsUnlessNoMemory}
use Rattle.dimension_ops.specs.declared.rule.Limit.{Limit}
use Rattle.dimension_ops.specs.declared.rule.Rule.{Rule}
use Rattle.dimension_ops.specs.declared.rule.Rule.TheVariants.{PastLimit}
use Rattle.dimension_ops.specs.declared.rule.RuleOr.{RuleOr}
use Rattle.dimension_ops.specs.declared.rule.RuleOr.TheVariants as refusal
use Rattle.values_api.specs.declared.appending.Added.{Added}
use Rattle.values_api.specs.declared.appending.Plan.{Plan}
use Rattle.values_api.specs.declared.table.Rectangle.{Rectangle}
use Rattle.values_api.specs.declared.writing.WrittenCells.{WrittenCells}
use Rattle.values_api.specs.AppendLaws.{changes_with, lead_on, refused, written as wrote}
use Rattle.values_api.specs.Appending.{AreAdded, CanAdd, IsPlan, IsPlanOf, StartsInside}
use Rattle.values_api.specs.Appends.{IsAppend, IsAppendUnless, IsAppended, answer_with, cell_area, limit_passed, lines_added, places_added, size_added, start_of, table_area}
use Rattle.values_api.specs.Blocks.{contents_of}
use Rattle.values_api.specs.Denials.{IsWriteBy}
use Rattle.values_api.specs.FoundLaws.{some_and, sound_sheet}
use Rattle.values_api.specs.Ranges.{IsThere}
use Rattle.values_api.specs.Tables.{IsLastOf, IsStored, IsTable, IsTableIn, LiesWithin}
use Rattle.values_api.proofs.Kept.{stays_there}
use Rattle.values_api.proofs.Sizes.{all_within, found_id}

-- ---- where the values begin

first_within : (band : Band) (count : ℕ) → 0 < count → Within band count → first_line band < count
first_within Whole count some within = some
first_within (From start) count some within = within
first_within (Span start end) count some within = omega arith

abbrev whole_of : PlaceSheet → Rectangle
whole_of sheet = record { top = 0; bottom = sheet.table.rows; left = 0; right = sheet.table.cols }

-- a table lies in its sheet
least_inside : (area : Area) (sheet : PlaceSheet) → HasItemsInside sheet.table → (row col : ℕ)
    → IsLastOf area sheet.table row col → (table : Rectangle) → IsTable (IsStored sheet.table) row col table
    → LiesWithin table (whole_of sheet)
least_inside area sheet inside row col last table is =
    let its = inside row col last.stored in
    is.least (whole_of sheet) (record { top = omega arith; bottom = its.0; left = omega arith; right = its.1 })
    (λ r c stored near. record {
      top = omega arith;
      bottom = (inside r c stored).0;
      left = omega arith;
      right = (inside r c stored).1;
    })

-- the table of a sheet that isn't greater lies in the one with the id
table_within : (id : ℕ) (sheets : List PlaceSheet) (own : PlaceSheet) → place_sheet_with id sheets ≡ Some own
    → (table : Option Rectangle) (area : Area) (sheet : PlaceSheet) → HasItemsInside sheet.table
    → IsTableIn area sheet.table table → sheet.table.rows ≤ own.table.rows → sheet.table.cols ≤ own.table.cols
    → IfSome (option_map (table_area id) table) (IsThere sheets)
table_within id sheets own there None area sheet inside found rows cols = tt
table_within id sheets own there (Some table) area sheet inside (row, col, last, is) rows cols =
    let least = least_inside area sheet inside row col last table is in
    let has = is.has_cell in
    subst (λ o. IsSomeAnd o (λ (one : PlaceSheet). AreaWithin (table_area id table) one.table.rows one.table.cols))
    (sym there) (
      (omega (arith, has.top, has.bottom), omega (arith, least.bottom, rows)),
      (omega (arith, has.left, has.right), omega (arith, least.right, cols)),
    )

starts_inside : (table : Option Rectangle) (area : Area) (sheet : PlaceSheet) → 0 < sheet.table.rows → 0
    < sheet.table.cols
    → HasItemsInside sheet.table → AreaWithin area sheet.table.rows sheet.table.cols → IsTableIn area sheet.table table
    → StartsInside (start_of table area) sheet
starts_inside None area sheet rows cols inside within found =
    let row = first_within area.rows sheet.table.rows rows within.0 in
    record { row = omega (arith, row); col = first_within area.cols sheet.table.cols cols within.1 }
starts_inside (Some table) area sheet rows cols inside within (row, col, last, is) =
    let its = inside row col last.stored in
    let least = least_inside area sheet inside row col last table is in
    let has = is.has_cell in
    record { row = least.bottom; col = omega (arith, has.left, its.1) }

module _ (book : PlaceBook) (sound : IsSound book) (area : Area) (sheet : PlaceSheet)
    (there : Some sheet ≡ place_sheet_with area.sheet book.sheets) where
  its_sound : IsSheetSound book.sheets sheet
  its_sound = sound_sheet book sound area.sheet sheet (sym there)

  pub few_lines : sheet.table.rows + sheet.table.cols ≤ most_lines
  few_lines = let its = its_sound in omega (arith, its.rows.1, its.cols.1)

  pub items_inside : HasItemsInside sheet.table
  items_inside = its_sound.inside

  pub starts : (table : Option Rectangle) → IsThere book.sheets area → IsTableIn area sheet.table table
      → StartsInside (start_of table area) sheet
  starts table within found =
      let its = its_sound in
      starts_inside table area sheet its.rows.0 its.cols.0 its.inside
      (subst (λ o. IsSomeAnd o (λ one. AreaWithin area one.table.rows one.table.cols)) (sym there) within) found

  pub found_by_own : place_sheet_with sheet.id book.sheets ≡ Some sheet
  found_by_own =
      subst (λ n. place_sheet_with n book.sheets ≡ Some sheet) (sym (found_id area.sheet book.sheets sheet (sym there)))
      (sym there)

  -- ---- the plan

  module _ (insert : Bool) (block : Block) (within : IsThere book.sheets area) (plan : Plan)
      (found : IsTableIn area sheet.table plan.table) (start : plan.start ≡ start_of plan.table area)
      (added : plan.added ≡ lines_added insert plan.start block sheet) where
    is_plan_of : IsPlanOf insert area block sheet plan
    is_plan_of = record {
      found = found;
      start = start;
      inside = subst (λ (s : ℕ × ℕ). StartsInside s sheet) (sym start) (starts plan.table within found);
      added = added;
    }

    pub plan_made : None ≡ limit_passed plan.added sheet book.sheets
        → IsSomeAnd (place_sheet_with area.sheet book.sheets)
        (λ one. IsPlan insert area block one book.sheets (Ok plan))
    plan_made none = subst (λ o. IsSomeAnd o (λ one. IsPlan insert area block one book.sheets (Ok plan))) there
        (record { plan = plan; is = is_plan_of; judged = (refl, sym none) })

    pub plan_refused : (limit : Limit) → Some limit ≡ limit_passed plan.added sheet book.sheets
        → IsSomeAnd (place_sheet_with area.sheet book.sheets)
        (λ one. IsPlan insert area block one book.sheets (Err (PastLimit limit)))
    plan_refused limit is =
        subst (λ o. IsSomeAnd o (λ one. IsPlan insert area block one book.sheets (Err (PastLimit limit)))) there
        (record { plan = plan; is = is_plan_of; judged = (limit, sym is, refl) })

-- ---- after the plan

row_before_end : (insert : Bool) (start : ℕ × ℕ) (block : Block) (sheet : PlaceSheet) → StartsInside start sheet
    → (lines_added insert start block sheet).row ≤ sheet.table.rows
row_before_end true start block sheet inside = inside.row
row_before_end false start block sheet inside = omega arith

-- with the lines the first cell is there
row_there : (insert : Bool) (start : ℕ × ℕ) (block : Block) (sheet : PlaceSheet) → StartsInside start sheet
    → start.0 + 1 ≤ sheet.table.rows + (lines_added insert start block sheet).rows
row_there true start block sheet inside = let row = inside.row in omega arith
row_there false start block sheet inside = let row = inside.row in omega arith

module _ (insert : Bool) (area : Area) (block : Block) (sheets : List PlaceSheet) (plan : Plan) (sheet : PlaceSheet)
    (there : place_sheet_with area.sheet sheets ≡ Some sheet)
    (made : IsPlan insert area block sheet sheets (Ok plan)) where
  pub is_of : IsPlanOf insert area block sheet plan
  is_of = subst (λ p. IsPlanOf insert area block sheet p) (sym made.judged.0) made.is

  pub no_limit : limit_passed plan.added sheet sheets ≡ None
  no_limit = subst (λ (p : Plan). limit_passed p.added sheet sheets ≡ None) (sym made.judged.0) made.judged.1

  pub can_add : CanAdd area.sheet plan.added sheet sheets
  can_add =
      let within = all_within (size_added plan.added sheet) (places_added sheet.id plan.added sheets) no_limit in
      let is = is_of in
      record {
        row = subst (λ (a : Added). a.row ≤ sheet.table.rows) (sym is.added)
            (row_before_end insert plan.start block sheet is.inside);
        col = subst (λ (a : Added). a.col ≤ sheet.table.cols) (sym is.added) (omega arith);
        rows = within.rows;
        cols = within.cols;
        places = subst (λ n. places_added n plan.added sheets ≤ most_places) (found_id area.sheet sheets sheet there)
            within.cells;
      }

  pub cell_row : plan.start.0 + 1 ≤ sheet.table.rows + plan.added.rows
  cell_row =
      let is = is_of in
      subst (λ (a : Added). plan.start.0 + 1 ≤ sheet.table.rows + a.rows) (sym is.added)
      (row_there insert plan.start block sheet is.inside)

  pub cell_there : (before between : PlaceBook) → AreAdded area.sheet plan.added sheet before between
      → IsThere between.sheets (cell_area area.sheet plan.start)
  cell_there before between added =
      let (own, found, size) = some_and (λ (one : PlaceSheet). size_of one ≡ size_added plan.added sheet)
      (place_sheet_with area.sheet between.sheets) added.size in
      let rows : own.table.rows ≡ sheet.table.rows + plan.added.rows = ap (λ (s : ℕ × ℕ). s.0) size in
      let cols : own.table.cols ≡ sheet.table.cols + plan.added.cols = ap (λ (s : ℕ × ℕ). s.1) size in
      let col = is_of.inside.col in
      let row = cell_row in
      subst (λ o. IsSomeAnd o
      (λ (one : PlaceSheet). AreaWithin (cell_area area.sheet plan.start) one.table.rows one.table.cols))
      (sym found) ((omega arith, omega (arith, rows, row)), (omega arith, omega (arith, cols, col)))

  pub few_rows : plan.start.0 < most_on Rows
  few_rows = let can = can_add in let row = cell_row in omega (arith, row, can.rows)

  pub few_cols : plan.start.1 < most_on Columns
  few_cols = let can = can_add in let col = is_of.inside.col in omega (arith, col, can.cols)

  -- so is the table
  pub table_there : (before between : PlaceBook) → IsSheetSound sheets sheet
      → AreAdded area.sheet plan.added sheet before between
      → IfSome (option_map (table_area area.sheet) plan.table) (IsThere between.sheets)
  table_there before between sound added =
      let (own, found, size) = some_and (λ (one : PlaceSheet). size_of one ≡ size_added plan.added sheet)
      (place_sheet_with area.sheet between.sheets) added.size in
      let rows : own.table.rows ≡ sheet.table.rows + plan.added.rows = ap (λ (s : ℕ × ℕ). s.0) size in
      let cols : own.table.cols ≡ sheet.table.cols + plan.added.cols = ap (λ (s : ℕ × ℕ). s.1) size in
      table_within area.sheet between.sheets own found plan.table area sheet sound.inside is_of.found
      (omega (arith, rows)) (omega (arith, cols))

  -- ---- the append

  module _ (user : List ℕ) (turn : ChangesInTurn) (updates : UpdatesAreChanges) (before between after : PlaceBook)
      (same : before.sheets ≡ sheets) (added : AreAdded area.sheet plan.added sheet before between) where
    planned_with : (changes : List BookChange) (answer : Result (Option Area × WrittenCells) Rule)
        → IsAppended user area.sheet plan.added plan.start block plan.table changes before after answer
        → OnOk answer (AreChanges changes before after) → IsAppend user insert area block sheet before after answer
    planned_with changes answer done made =
        let is = is_of in
        let start : plan.start ≡ start_of plan.table area = is.start in
        let lines : plan.added ≡ lines_added insert (start_of plan.table area) block sheet =
        is.added ∙ ap (λ (s : ℕ × ℕ). lines_added insert s block sheet) start in
        record {
          table = plan.table;
          found = is.found;
          changes = changes;
          appended =
              subst (λ (a : Added). IsAppendUnless (limit_passed a sheet before.sheets)
              (IsAppended user area.sheet a (start_of plan.table area) block plan.table changes before after answer)
              changes answer) lines
              (subst (λ limit. IsAppendUnless limit
              (IsAppended user area.sheet plan.added (start_of plan.table area) block plan.table changes before after
              answer) changes answer)
              (sym (ap (λ (list : List PlaceSheet). limit_passed plan.added sheet list) same ∙ no_limit))
              (subst (λ (s : ℕ × ℕ). IsAppended user area.sheet plan.added s block plan.table changes before after
              answer) start done));
          made = made;
        }

    pub append_told : (written : WrittenCells)
        → IsSomeAnd (place_sheet_with area.sheet between.sheets)
        (λ own. IsWriteBy user true (cell_area area.sheet plan.start) block own between after (Ok written))
        → IsAppend user insert area block sheet before after (Ok (answer_with area.sheet plan.table written))
    append_told written write =
        let (own, found, its) = some_and
        (λ own. IsWriteBy user true (cell_area area.sheet plan.start) block own between after (Ok written))
        (place_sheet_with area.sheet between.sheets) write in
        planned_with (changes_with area.sheet plan.added (contents_of its.is.entries))
        (Ok (answer_with area.sheet plan.table written))
        (wrote user area.sheet plan.added plan.start block before between after added.changes own plan.table found
        written its)
        (lead_on user area.sheet plan.added plan.start block before between after added.changes own turn updates
        (Ok written) its)

    pub append_refused : (fault : RuleOr)
        → IsSomeAnd (place_sheet_with area.sheet between.sheets)
        (λ own. IsUnlessNoMemory (IsWriteBy user true (cell_area area.sheet plan.start) block own between after)
        (Err fault))
        → IsUnlessNoMemory (IsAppend user insert area block sheet before after) (Err fault)
    append_refused (refusal.Rule rule) write =
        let (own, found, its) = some_and
        (λ own. IsWriteBy user true (cell_area area.sheet plan.start) block own between after (Err rule))
        (place_sheet_with area.sheet between.sheets) write in
        planned_with (changes_with area.sheet plan.added (contents_of its.is.entries)) (Err rule)
        (refused user area.sheet plan.added plan.start block before between after added.changes own plan.table found
        rule its) tt
    append_refused refusal.NoMemory write = tt

-- ---- from what is found

stays_if : (number : ℕ) (updates : Updates) (before after : List PlaceSheet)
    → AllZip (SheetUpdated number updates) before after → (area : Option Area) → IfSome area (IsThere before)
    → IfSome area (IsThere after)
stays_if number updates before after updated None there = tt
stays_if number updates before after updated (Some area) there =
    stays_there number updates area before after updated there

module _ (insert : Bool) (area : Area) (block : Block) (before : PlaceBook) (plan : Plan)
    (made : IsSomeAnd (place_sheet_with area.sheet before.sheets)
    (λ sheet. IsPlan insert area block sheet before.sheets (Ok plan))) where
  the_sheet : (sheet : PlaceSheet) × (place_sheet_with area.sheet before.sheets ≡ Some sheet)
      × IsPlan insert area block sheet before.sheets (Ok plan)
  the_sheet = some_and (λ sheet. IsPlan insert area block sheet before.sheets (Ok plan))
      (place_sheet_with area.sheet before.sheets) made

  pub lines_can : IsSomeAnd (place_sheet_with area.sheet before.sheets)
      (λ own. CanAdd area.sheet plan.added own before.sheets)
  lines_can =
      let (sheet, there, its) = the_sheet in
      subst (λ o. IsSomeAnd o (λ own. CanAdd area.sheet plan.added own before.sheets)) (sym there)
      (can_add insert area block before.sheets plan sheet there its)

  pub cell_row_few : plan.start.0 < most_on Rows
  cell_row_few = let (sheet, there, its) = the_sheet in few_rows insert area block before.sheets plan sheet there its

  pub cell_col_few : plan.start.1 < most_on Columns
  cell_col_few = let (sheet, there, its) = the_sheet in few_cols insert area block before.sheets plan sheet there its

  module _ (between : PlaceBook)
      (added : IsSomeAnd (place_sheet_with area.sheet before.sheets)
      (λ own. AreAdded area.sheet plan.added own before between)) where
    pub cell_is_there : IsThere between.sheets (cell_area area.sheet plan.start)
    cell_is_there =
        let (sheet, there, its) = the_sheet in
        cell_there insert area block before.sheets plan sheet there its before between
        (subst (λ o. IsSomeAnd o (λ own. AreAdded area.sheet plan.added own before between)) there added)

    -- the table stays where it is when the values are written
    pub table_stays : (user : List ℕ) → IsSound before
        → (after : PlaceBook) (written : WrittenCells) (table : Option Area)
        → table ≡ option_map (table_area area.sheet) plan.table
        → IsSomeAnd (place_sheet_with area.sheet between.sheets)
        (λ own. IsWriteBy user true (cell_area area.sheet plan.start) block own between after (Ok written))
        → IfSome table (IsThere after.sheets)
    table_stays user sound after written table is write =
        let (sheet, there, its) = the_sheet in
        let (own, found, wrote) = some_and
        (λ own. IsWriteBy user true (cell_area area.sheet plan.start) block own between after (Ok written))
        (place_sheet_with area.sheet between.sheets) write in
        stays_if area.sheet (contents_of wrote.is.entries) between.sheets after.sheets
        wrote.is.updated.places.sheets table
        (subst (λ (t : Option Area). IfSome t (IsThere between.sheets)) (sym is)
        (table_there insert area block before.sheets plan sheet there its before between
        (sound_sheet before sound area.sheet sheet there)
        (subst (λ o. IsSomeAnd o (λ own. AreAdded area.sheet plan.added own before between)) there added)))

    module _ (user : List ℕ) (turn : ChangesInTurn) (updates : UpdatesAreChanges) (after : PlaceBook) where
      pub done_told : (written : WrittenCells) (table : Option Area) → table
          ≡ option_map (table_area area.sheet) plan.table
          → IsSomeAnd (place_sheet_with area.sheet between.sheets)
          (λ own. IsWriteBy user true (cell_area area.sheet plan.start) block own between after (Ok written))
          → IsSomeAnd (place_sheet_with area.sheet before.sheets)
          (λ sheet. IsUnlessNoMemory (IsAppend user insert area block sheet before after) (Ok (table, written)))
      done_told written table is write =
          let (sheet, there, its) = the_sheet in
          subst (λ o. IsSomeAnd o
          (λ one. IsUnlessNoMemory (IsAppend user insert area block one before after) (Ok (table, written))))
          (sym there)
          (subst (λ (t : Option Area). IsAppend user insert area block sheet before after (Ok (t, written))) (sym is)
          (append_told insert area block before.sheets plan sheet there its user turn updates before between after refl
          (subst (λ o. IsSomeAnd o (λ own. AreAdded area.sheet plan.added own before between)) there added)
          written write))

      pub done_refused : (fault : RuleOr)
          → IsSomeAnd (place_sheet_with area.sheet between.sheets)
          (λ own. IsUnlessNoMemory (IsWriteBy user true (cell_area area.sheet plan.start) block own between after)
          (Err fault))
          → IsSomeAnd (place_sheet_with area.sheet before.sheets)
          (λ sheet. IsUnlessNoMemory (IsAppend user insert area block sheet before after) (Err fault))
      done_refused fault write =
          let (sheet, there, its) = the_sheet in
          subst (λ o. IsSomeAnd o
          (λ one. IsUnlessNoMemory (IsAppend user insert area block one before after) (Err fault)))
          (sym there)
          (append_refused insert area block before.sheets plan sheet there its user turn updates before
          between after refl
          (subst (λ o. IsSomeAnd o (λ own. AreAdded area.sheet plan.added own before between)) there added) fault write)
