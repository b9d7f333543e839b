-- The items of a sheet whose lines went elsewhere are what is stored in the same cells.
use Rattle.std.proofs.Common.{◌≡◌, ℕ, ◌<◌, List, length, sym, ap, subst, ◌∙◌}
use Rattle.std.specs.Prelude.{Option, None, Some, IfSome, MatchOption, Contains, slice_get, ◌↔◌, is_some}
use Rattle.std.specs.Option.{option_map}
use Rattle.std.proofs.lemmas.Option.{none-some, same_Some}
use Rattle.grid_range.specs.Change.{count_after}
use Rattle.grid_range.specs.Order.{IsOrder}
use Rattle.grid_range.specs.Tracking.{place_of}
use Rattle.grid_range.specs.declared.axis.Axis.{Axis}
use Rattle.grid_range.specs.declared.axis.Axis.TheVariants.{Rows, Columns}
use Rattle.grid_range.specs.declared.change.Change.{Change}
use Rattle.cell_store.specs.Moved.{GoesWithLines, CameFrom, lines_on}
use Rattle.cell_store.specs.Table.{Table, HasItemsInside, item_at}
use Rattle.world_model.specs.Content.{NameContent}
use Rattle.world_model.specs.Sheet.{NameSheet, lines_of}
use Rattle.world_model.proofs.Areas.{other_axis}
use Rattle.world_model.proofs.MovedCells.{moved_cells}

-- the items of a table are what is stored in the cells
pub record IsPlaced {T N : Type 0} (named : T → N) (rows cols : List ℕ) (cells : ℕ → ℕ → Option N) (table : Table T)
    : Type 0 where
  pub rows_there : table.rows ≡ length rows
  pub cols_there : table.cols ≡ length cols
  pub inside : HasItemsInside table
  pub stored : (row col r c : ℕ) → slice_get rows row ≡ Some r → slice_get cols col ≡ Some c
      → cells r c ≡ option_map named (item_at table row col)
  pub nowhere_else : (r c : ℕ) → ¬ (Contains rows r × Contains cols c) → cells r c ≡ None

-- where the lines of an order go
pub record LinesGo (change : Change) (order after : List ℕ) : Type 0 where
  pub distinct : IsOrder after
  pub places : (place name : ℕ) → slice_get order place ≡ Some name
      → MatchOption (place_of change place) (¬ (Contains after name)) (λ place. slice_get after place ≡ Some name)

row_gone : (gone : Option ℕ) (side row col : ℕ) → option_map {U = ℕ × ℕ} (λ line. (line, side)) gone ≡ Some (row, col)
    → (gone ≡ Some row) × (side ≡ col)
row_gone None side row col goes = absurd (none-some (row, col) goes)
row_gone (Some line) side row col goes = (
  ap (λ (p : ℕ × ℕ). Some p.0) (same_Some (line, side) (row, col) goes),
  ap (λ (p : ℕ × ℕ). p.1) (same_Some (line, side) (row, col) goes),
)

col_gone : (gone : Option ℕ) (side row col : ℕ) → option_map {U = ℕ × ℕ} (λ line. (side, line)) gone ≡ Some (row, col)
    → (gone ≡ Some col) × (side ≡ row)
col_gone None side row col goes = absurd (none-some (row, col) goes)
col_gone (Some line) side row col goes = (
  ap (λ (p : ℕ × ℕ). Some p.1) (same_Some (side, line) (row, col) goes),
  ap (λ (p : ℕ × ℕ). p.0) (same_Some (side, line) (row, col) goes),
)

-- two tables have as many lines on an axis
pub same_size : {T : Type 0} (on : Axis) (one other : Table T) → one.rows ≡ other.rows → one.cols ≡ other.cols
    → lines_on on one.rows one.cols ≡ lines_on on other.rows other.cols
same_size Rows one other rows cols = rows
same_size Columns one other rows cols = cols

module _ {T : Type 0} (change : Change) (before moved : Table T) where
  -- an item that came to a place was at one of the same line across
  pub row_came : (row col : ℕ) (item : T) → CameFrom Rows change before row col item
      → (old : ℕ) × (place_of change old ≡ Some row) × (item_at before old col ≡ Some item)
  row_came row col item came =
      let went = row_gone (place_of change came.old_row) came.old_col row col came.goes in
      (came.old_row, went.0, ap (item_at before came.old_row) (sym went.1) ∙ came.held)

  pub col_came : (row col : ℕ) (item : T) → CameFrom Columns change before row col item
      → (old : ℕ) × (place_of change old ≡ Some col) × (item_at before row old ≡ Some item)
  col_came row col item came =
      let went = col_gone (place_of change came.old_col) came.old_row row col came.goes in
      (came.old_col, went.0, ap (λ r. item_at before r came.old_col) (sym went.1) ∙ came.held)

  rows_went : GoesWithLines Rows change before moved → (row col : ℕ) (item : T) → (item_at moved row col ≡ Some item)
      ↔ ((old : ℕ) × (place_of change old ≡ Some row) × (item_at before old col ≡ Some item))
  rows_went goes row col item = (
    λ is. row_came row col item ((goes.items row col item).0 is),
    λ (old, is, held). (goes.items row col item).1 (record {
      old_row = old;
      old_col = col;
      goes = ap (option_map {U = ℕ × ℕ} (λ line. (line, col))) is;
      held = held;
    }),
  )

  cols_went : GoesWithLines Columns change before moved → (row col : ℕ) (item : T) → (item_at moved row col ≡ Some item)
      ↔ ((old : ℕ) × (place_of change old ≡ Some col) × (item_at before row old ≡ Some item))
  cols_went goes row col item = (
    λ is. col_came row col item ((goes.items row col item).0 is),
    λ (old, is, held). (goes.items row col item).1 (record {
      old_row = row;
      old_col = old;
      goes = ap (option_map {U = ℕ × ℕ} (λ line. (row, line))) is;
      held = held;
    }),
  )

  -- the axis has the changed number of lines, and the other as many as before
  pub size_moved : (axis : Axis) → GoesWithLines axis change before moved
      → (lines_on axis moved.rows moved.cols ≡ count_after change (lines_on axis before.rows before.cols))
      × (lines_on (other_axis axis) moved.rows moved.cols ≡ lines_on (other_axis axis) before.rows before.cols)
  size_moved Rows goes = (ap (λ (p : ℕ × ℕ). p.0) goes.size, ap (λ (p : ℕ × ℕ). p.1) goes.size)
  size_moved Columns goes = (ap (λ (p : ℕ × ℕ). p.1) goes.size, ap (λ (p : ℕ × ℕ). p.0) goes.size)

  -- what holds of each item holds where it went
  pub holds_where_moved : (axis : Axis) → GoesWithLines axis change before moved → (P : T → Type 0)
      → ((row col : ℕ) → IfSome (item_at before row col) P)
      → (row col : ℕ) (held : Option T) → item_at moved row col ≡ held → IfSome held P
  holds_where_moved axis goes P each row col None is = tt
  holds_where_moved axis goes P each row col (Some item) is =
      let came = (goes.items row col item).0 is in
      subst (λ held. IfSome held P) came.held (each came.old_row came.old_col)

  module _ {N : Type 0} (named : T → N) (rows cols : List ℕ) (cells : ℕ → ℕ → Option N)
      (placed : IsPlaced named rows cols cells before) (after : List ℕ) where
    moved_rows : LinesGo change rows after → GoesWithLines Rows change before moved
        → (row col r c : ℕ) → slice_get after row ≡ Some r → slice_get cols col ≡ Some c
        → cells r c ≡ option_map named (item_at moved row col)
    moved_rows go goes row col r c at_row at_col =
        moved_cells rows after (place_of change) named (λ r. cells r c) (λ row. item_at before row col)
        (λ row. item_at moved row col)
        (record {
          distinct = go.distinct;
          stored = λ place name at. placed.stored place col name c at at_col;
          nowhere_else = λ name out. placed.nowhere_else name c (λ both. out both.0);
          inside = λ place item is.
              subst (λ n. place < n) placed.rows_there (placed.inside place col (ap is_some is)).0;
          places = go.places;
          items = λ place item. rows_went goes place col item;
        })
        row r at_row

    moved_cols : LinesGo change cols after → GoesWithLines Columns change before moved
        → (row col r c : ℕ) → slice_get rows row ≡ Some r → slice_get after col ≡ Some c
        → cells r c ≡ option_map named (item_at moved row col)
    moved_cols go goes row col r c at_row at_col =
        moved_cells cols after (place_of change) named (λ c. cells r c) (λ col. item_at before row col)
        (λ col. item_at moved row col)
        (record {
          distinct = go.distinct;
          stored = λ place name at. placed.stored row place r name at_row at;
          nowhere_else = λ name out. placed.nowhere_else r name (λ both. out both.1);
          inside = λ place item is.
              subst (λ n. place < n) placed.cols_there (placed.inside row place (ap is_some is)).1;
          places = go.places;
          items = λ place item. cols_went goes row place item;
        })
        col c at_col

-- an item stands where its lines stand then
pub moved_table : {T : Type 0} (axis : Axis) (change : Change) (before moved : Table T) (named : T → NameContent)
    (one other : NameSheet) → IsPlaced named one.rows one.cols one.cells before
    → LinesGo change (lines_of one axis) (lines_of other axis)
    → lines_of other (other_axis axis) ≡ lines_of one (other_axis axis) → GoesWithLines axis change before moved
    → (row col r c : ℕ) → slice_get other.rows row ≡ Some r → slice_get other.cols col ≡ Some c
    → one.cells r c ≡ option_map named (item_at moved row col)
moved_table Rows change before moved named one other placed go across goes row col r c at_row at_col =
    moved_rows change before moved named one.rows one.cols one.cells placed other.rows go goes row col r c at_row
    (ap (λ order. slice_get order col) (sym across) ∙ at_col)
moved_table Columns change before moved named one other placed go across goes row col r c at_row at_col =
    moved_cols change before moved named one.rows one.cols one.cells placed other.cols go goes row col r c
    (ap (λ order. slice_get order row) (sym across) ∙ at_row) at_col
