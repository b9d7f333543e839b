-- The items of a sheet by the numbers of their rows and columns.
use Rattle.std.specs.Prelude.{ℕ, ◌≡◌, ◌≢◌, ◌⊎◌, ◌↔◌, ◌+◌, ◌*◌, ◌/◌, ◌%◌, ◌^◌, ◌<◌, ◌≤◌, List, None, Contains}
use Rattle.std.specs.Option.{IsSome}
use Rattle.std.specs.Ordering.{nat_cmp}
use Rattle.std.specs.List.Sorted.{IsStrictlySortedBy}
use Rattle.std.specs.FinMap as map
use Rattle.grid_range.specs.declared.axis.Axis.{Axis}
use Rattle.grid_range.specs.declared.axis.Axis.TheVariants.{Rows, Columns}

-- how many numbers a line can have
abbrev pub numbers : ℕ
numbers = 4294967296

-- the key of a place: the number of its line and that of the line across it
abbrev pub key_of : ℕ → ℕ → ℕ
key_of line across = line * numbers + across

-- the numbers of a key's lines
abbrev pub line_in : ℕ → ℕ
line_in key = key / numbers

abbrev pub across_in : ℕ → ℕ
across_in key = key % numbers

-- each item by its row and column has a mark by its column and row
pub record HasMarks {T M : Type 0} (items : map.FinMap nat_cmp T) (marks : map.FinMap nat_cmp M) : Type 0 where
  pub each : (row column : ℕ) → row < numbers → column < numbers → IsSome (map.get items (key_of row column))
      → IsSome (map.get marks (key_of column row))

-- each mark by its column and row is that of an item
pub record HasItems {T M : Type 0} (items : map.FinMap nat_cmp T) (marks : map.FinMap nat_cmp M) : Type 0 where
  pub each : (row column : ℕ) → row < numbers → column < numbers → IsSome (map.get marks (key_of column row))
      → IsSome (map.get items (key_of row column))

-- these are the keys of the items on the row with that number, in order
pub record AreKeysOnRow {T : Type 0} (row : ℕ) (items : map.FinMap nat_cmp T) (keys : List ℕ) : Type 0 where
  pub in_order : IsStrictlySortedBy nat_cmp keys
  pub exactly : (key : ℕ) → Contains keys key ↔ ((line_in key ≡ row) × IsSome (map.get items key))

-- these are the marks of the items on the column with that number, in order
pub record AreMarksOnColumn {T : Type 0} (column : ℕ) (items : map.FinMap nat_cmp T) (marks : List ℕ) : Type 0 where
  pub in_order : IsStrictlySortedBy nat_cmp marks
  pub exactly : (mark : ℕ) → Contains marks mark
      ↔ ((line_in mark ≡ column) × IsSome (map.get items (key_of (across_in mark) column)))

-- the number of a key's line on the axis
abbrev pub number_on : Axis → ℕ → ℕ
number_on Rows key = line_in key
number_on Columns key = across_in key

-- no item came, and none was changed
pub record HasFewer {T : Type 0} (before after : map.FinMap nat_cmp T) : Type 0 where
  pub each : (key : ℕ) → (map.get after key ≡ None) ⊎ (map.get after key ≡ map.get before key)
  pub count : map.len after ≤ map.len before

-- the items on the line with that number are gone, and no others
pub record IsCleared {T : Type 0} (axis : Axis) (number : ℕ) (before after : map.FinMap nat_cmp T) : Type 0 where
  pub fewer : HasFewer before after
  pub gone : (key : ℕ) → key < 2 ^ 64 → number_on axis key ≡ number → map.get after key ≡ None
  pub kept : (key : ℕ) → number_on axis key ≢ number → map.get after key ≡ map.get before key
