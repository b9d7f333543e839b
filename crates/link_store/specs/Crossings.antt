-- How the lists of the rows and of the columns stand for a sheet. No public clause cites this
-- module.
use Rattle.std.specs.Prelude.{◌≡◌, ◌↔◌, ◌⊎◌, ℕ, ◌+◌, ◌==◌, ◌<◌, ◌≤◌, if◌then◌else◌, Bool, true, false, List, []}
use Rattle.std.specs.Prelude.{Option, Some, None, map, Contains, nat_eq, length, max}
use Rattle.std.specs.Ordering.{eq_by_cmp}
use Rattle.std.specs.Option.{IsSome}
use Rattle.std.specs.List.{IsDistinct, flat_map, position_or_len, range_with_len}
use Rattle.grid_range.specs.Area.{by_rows}
use Rattle.cell_store.specs.Table.{most_lines}
use Rattle.cell_store.specs.Entries.{entry_at, table_of}
use Rattle.cell_store.specs.Moved.{place_after, size_after}
use Rattle.grid_range.specs.declared.axis.Axis.{Axis}
use Rattle.grid_range.specs.declared.axis.Axis.TheVariants.{Rows, Columns}
use Rattle.grid_range.specs.declared.change.Change.{Change}
use Rattle.grid_range.specs.declared.area.Area.{Area}
use Rattle.grid_range.specs.Area.{Holds}
use Rattle.cell_store.specs.Kept.{KeptTable}
use Rattle.link_store.specs.declared.cells.Cell.{Cell}
use Rattle.link_store.specs.declared.cells.Cells.{Cells}
use Rattle.link_store.specs.declared.cells.Link.{Link}
use Rattle.link_store.specs.declared.lines.Lines.{Lines}
use Rattle.link_store.specs.Lists.{entries_of, live_nodes}
use Rattle.link_store.specs.Lines.{AreLines, HasNothingOnDeleted, line_entries, list_of}

-- where a line with that list stands
abbrev pub place_in : {E : Type 0} → Lines E → ℕ → ℕ
place_in lines list = position_or_len (λ other. other == list) lines.lists.items

-- the line of a place on the axis
abbrev pub line_on : Axis → ℕ × ℕ → ℕ
line_on Rows place = place.0
line_on Columns place = place.1

module _ {T : Type 0} where
  -- the column of a cell: the place of its column's list
  abbrev pub column_of : Lines Link → Cell T → ℕ
  column_of columns cell = place_in columns cell.column

  -- the items of a row, each with its place
  abbrev pub row_items : Lines (Cell T) → Lines Link → ℕ → List ((ℕ × ℕ) × T)
  row_items rows columns row =
      map (λ entry. ((row, column_of columns entry.1), entry.1.item)) (line_entries rows row)

  -- the items of the first rows, row by row
  abbrev pub first_rows : Cells T → ℕ → List ((ℕ × ℕ) × T)
  first_rows cells rows =
      flat_map (row_items cells.rows cells.columns) (range_with_len 0 rows)

  -- the items of the sheet
  abbrev pub sheet_items : Cells T → List ((ℕ × ℕ) × T)
  sheet_items cells = first_rows cells cells.rows.count

  -- the sheet that the lists stand for, and how many they are
  abbrev pub listed_table : Cells T → KeptTable T
  listed_table cells = record {
    table = table_of cells.rows.count cells.columns.count (sheet_items cells);
    kept_rows = length cells.rows.lists.items;
    kept_columns = length cells.columns.lists.items;
  }

  -- each cell stands in the list of its row and in the list of its column, and each of the two
  -- entries names the other
  pub record AreCrossed (rows : List (List (ℕ × Cell T))) (columns : List (List (ℕ × Link))) : Type 0 where
    pub in_column : (list node : ℕ) (cell : Cell T) → Contains (entries_of rows list) (node, cell)
        → Contains (entries_of columns cell.column) (cell.column_node, record { row = list; row_node = node })
    pub in_row : (list node : ℕ) (link : Link) → Contains (entries_of columns list) (node, link) → (item : T)
        × Contains (entries_of rows link.row) (link.row_node, record { item = item; column = list; column_node = node })
    -- a row has one cell in a column
    pub one_cell : (list : ℕ) → IsDistinct nat_eq (map (λ entry. entry.1.column) (entries_of rows list))

  -- the lists stand for a sheet, with as many items as are filled
  pub record IsGrid (cells : Cells T) : Type 0 where
    pub rows_are : AreLines cells.rows
    pub columns_are : AreLines cells.columns
    pub crossed : AreCrossed cells.rows.links cells.columns.links
    pub size : cells.rows.count + cells.columns.count ≤ most_lines
    pub filled : live_nodes cells.rows.links ≡ cells.filled
    pub linked : live_nodes cells.columns.links ≡ cells.filled

  -- the node has the cell at that place
  pub record IsCellAt (cells : Cells T) (row column node : ℕ) (cell : Cell T) : Type 0 where
    pub there : (row < cells.rows.count) × (column < cells.columns.count)
    pub stands : Contains (line_entries cells.rows row) (node, cell)
    pub column_is : cell.column ≡ list_of cells.columns column

  -- the same items, save that this is at the place
  abbrev pub ChangesAt : List ((ℕ × ℕ) × T) → List ((ℕ × ℕ) × T) → ℕ × ℕ → Option T → Type 0
  ChangesAt before after place is =
      (other : ℕ × ℕ) → entry_at after other ≡ if eq_by_cmp by_rows place other then is else entry_at before other

  -- the same numbers of rows and of columns
  pub record HasSameSize (before after : Cells T) : Type 0 where
    pub rows : after.rows.count ≡ before.rows.count
    pub columns : after.columns.count ≡ before.columns.count

  -- the same items
  abbrev pub HasSameItems : Cells T → Cells T → Type 0
  HasSameItems before after =
      (place : ℕ × ℕ) → entry_at (sheet_items after) place ≡ entry_at (sheet_items before) place

  -- the copy has the items of the first rows, and no others
  abbrev pub HasFirstRows : Cells T → ℕ → Cells T → Type 0
  HasFirstRows cells rows copy =
      (place : ℕ × ℕ) → entry_at (sheet_items copy) place ≡ entry_at (first_rows cells rows) place

  -- the same lines, in the same order
  pub record HasSameLines (before after : Cells T) : Type 0 where
    pub rows : after.rows.lists.items ≡ before.rows.lists.items
    pub columns : after.columns.lists.items ≡ before.columns.lists.items
    pub size : HasSameSize before after

  -- the items of the lines from `start` to `end - 1` are gone
  pub record LosesItems (axis : Axis) (start end : ℕ) (before after : Cells T) : Type 0 where
    pub lines : HasSameLines before after
    pub gone : (place : ℕ × ℕ) → start ≤ line_on axis place → line_on axis place < end
        → entry_at (sheet_items after) place ≡ None
    pub others : (place : ℕ × ℕ) → (line_on axis place < start) ⊎ (end ≤ line_on axis place)
        → entry_at (sheet_items after) place ≡ entry_at (sheet_items before) place

  -- a place that the change brings to that one held the item
  pub record CameTo (axis : Axis) (change : Change) (before : Cells T) (place : ℕ × ℕ) (item : T) : Type 0 where
    pub old : ℕ × ℕ
    pub goes : place_after axis change old.0 old.1 ≡ Some place
    pub held : entry_at (sheet_items before) old ≡ Some item

  -- each item went with its line
  pub record GoesAlong (axis : Axis) (change : Change) (before after : Cells T) : Type 0 where
    pub rows : after.rows.count ≡ (size_after axis change before.rows.count before.columns.count).0
    pub columns : after.columns.count ≡ (size_after axis change before.rows.count before.columns.count).1
    pub items : (place : ℕ × ℕ) (item : T)
        → (entry_at (sheet_items after) place ≡ Some item) ↔ CameTo axis change before place item

  -- no more lists were added than the lines need
  pub record TakesListsAgain (axis : Axis) (change : Change) (before after : Cells T) : Type 0 where
    pub rows : length after.rows.lists.items
        ≤ max (length before.rows.lists.items) (size_after axis change before.rows.count before.columns.count).0
    pub columns : length after.columns.lists.items
        ≤ max (length before.columns.lists.items) (size_after axis change before.rows.count before.columns.count).1

  -- the places differ, and those that the area holds are the filled ones that it holds
  pub record HasPlacesOf (cells : Cells T) (area : Area) (places : List (ℕ × ℕ)) : Type 0 where
    pub distinct : IsDistinct (eq_by_cmp by_rows) places
    pub exactly : (row col : ℕ) → Holds area row col
        → Contains places (row, col) ↔ IsSome (entry_at (sheet_items cells) (row, col))

  -- these are the places of the cells on the lines from `start` to `end - 1`
  pub record ArePlacesOn (axis : Axis) (start end : ℕ) (cells : Cells T) (places : List (ℕ × ℕ)) : Type 0 where
    pub distinct : IsDistinct (eq_by_cmp by_rows) places
    pub only : (place : ℕ × ℕ) → Contains places place → IsSome (entry_at (sheet_items cells) place)
    pub all : (place : ℕ × ℕ) → start ≤ line_on axis place → line_on axis place < end
        → IsSome (entry_at (sheet_items cells) place) → Contains places place

  -- the lines that the change deletes have no items
  abbrev pub HasDeletedEmpty : Axis → Change → Cells T → Type 0
  HasDeletedEmpty Rows change cells = HasNothingOnDeleted change cells.rows
  HasDeletedEmpty Columns change cells = HasNothingOnDeleted change cells.columns

  -- the lists of the axis's lines, and the list's entries on it
  abbrev pub lists_on : Axis → Cells T → ℕ → ℕ
  lists_on Rows cells line = list_of cells.rows line
  lists_on Columns cells line = list_of cells.columns line

  abbrev pub IsEmptyList : Axis → Cells T → ℕ → Type 0
  IsEmptyList Rows cells list = entries_of cells.rows.links list ≡ []
  IsEmptyList Columns cells list = entries_of cells.columns.links list ≡ []

  -- an item of the line with that list is gone, or there was none
  pub record LosesFirst (axis : Axis) (list : ℕ) (before after : Cells T) (lost : Bool) : Type 0 where
    pub lines : HasSameLines before after
    pub others : (place : ℕ × ℕ) → (lists_on axis before (line_on axis place) ≡ list → ⊥)
        → entry_at (sheet_items after) place ≡ entry_at (sheet_items before) place
    pub fewer : lost ≡ true → after.filled < before.filled
    pub none : lost ≡ false → (after ≡ before) × IsEmptyList axis before list

  -- the same lines, and the items of those that the change doesn't delete
  pub record KeepsItems (axis : Axis) (change : Change) (before after : Cells T) : Type 0 where
    pub lines : HasSameLines before after
    pub kept : (place : ℕ × ℕ) → IsSome (place_after axis change place.0 place.1)
        → entry_at (sheet_items after) place ≡ entry_at (sheet_items before) place
