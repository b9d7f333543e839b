-- Changes of the lines on one axis of a sheet, by places: insertDimension, deleteDimension and
-- moveDimension of the Google Sheets API v4.
use Rattle.std.specs.Prelude.{◌≡◌, ℕ, ◌+◌, ◌-◌, ◌^◌, ◌<◌, ◌≤◌, List, length, ⊤}
use Rattle.grid_range.specs.Order.{IsOrder}
use Rattle.grid_range.specs.OrderChange.{OrderChange, CanBeMade, order_after}
use Rattle.grid_range.specs.OrderChange.OrderChange.{Inserting, Deleting, Moving}
use Rattle.grid_range.specs.declared.change.Change.{Change}
use Rattle.grid_range.specs.declared.change.Change.TheVariants.{Insert, Delete, Move}

-- the change can be made where there are `count` lines
abbrev pub Fits : Change → ℕ → Type 0
Fits (Insert at inserted) count = (at ≤ count) × (0 < inserted) × (count + inserted < 2 ^ 32)
Fits (Delete start end) count = (start < end) × (end ≤ count)
Fits (Move start end to) count = (start < end) × (end ≤ count) × (to ≤ count)

-- a stretch that it deletes or moves has a line
abbrev pub HasStretch : Change → Type 0
HasStretch (Insert at inserted) = ⊤
HasStretch (Delete start end) = start < end
HasStretch (Move start end to) = start < end

-- how many lines it inserts
abbrev pub inserted_lines : Change → ℕ
inserted_lines (Insert at inserted) = inserted
inserted_lines (Delete start end) = 0
inserted_lines (Move start end to) = 0

-- how many lines there are then
abbrev pub count_after : Change → ℕ → ℕ
count_after (Insert at inserted) count = count + inserted
count_after (Delete start end) count = count - (end - start)
count_after (Move start end to) count = count

-- the change of an order of names that it stands for, where `fresh` are the inserted lines
abbrev pub order_change : Change → List ℕ → OrderChange
order_change (Insert at inserted) fresh = Inserting at fresh
order_change (Delete start end) fresh = Deleting start end
order_change (Move start end to) fresh = Moving start end to

-- `after` is the order of `count` lines after the change, where `fresh` are as many as it inserts
pub record Changes (change : Change) (count : ℕ) (order fresh after : List ℕ) : Type 0 where
  pub distinct : IsOrder order
  pub long : length order ≡ count
  pub inserts : length fresh ≡ inserted_lines change
  pub made : CanBeMade (order_change change fresh) order
  pub result : after ≡ order_after (order_change change fresh) order

-- each order with `count` lines has `lines` after the change
pub record HasLinesAfter (change : Change) (count lines : ℕ) : Type 0 where
  pub has : (order fresh after : List ℕ) → Changes change count order fresh after
      → length after ≡ lines
