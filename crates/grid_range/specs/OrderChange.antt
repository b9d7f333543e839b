-- Changes of an order: the requests InsertDimension, DeleteDimension and MoveDimension of the
-- Google Sheets API v4, on names. Numbers say only where a change is made: a place, a stretch as in
-- a `DimensionRange`, and the `destinationIndex` of a move, which is counted before the stretch is
-- taken out.
use Rattle.std.specs.Prelude.{◌≢◌, ℕ, ◌<◌, ◌≤◌, length, List, [], ◌++◌, Option, None, Some, take, drop, ◌&&◌, ◌==◌, nat_le, slice_get, slice_range, if◌then◌else◌}
use Rattle.std.specs.List.{before_first}
use Rattle.grid_range.specs.Order.{IsOrder, from_first}

-- inserting the names before the line at a place, or last; deleting the lines from a start to the
-- one before an end; moving these before the line at a destination, or last
pub data OrderChange : Type 0 where
  Inserting : ℕ → List ℕ → OrderChange
  Deleting : ℕ → ℕ → OrderChange
  Moving : ℕ → ℕ → ℕ → OrderChange

-- the change can be made: its places are there, and it has a line; lines that are inserted have
-- names of their own
abbrev pub CanBeMade : OrderChange → List ℕ → Type 0
CanBeMade (Inserting at names) order = (at ≤ length order) × (names ≢ []) × IsOrder (names ++ order)
CanBeMade (Deleting start end) order = (start < end) × (end ≤ length order)
CanBeMade (Moving start end to) order = (start < end) × (end ≤ length order) × (to ≤ length order)

-- the names put before the one that is named, or last
abbrev pub put_before : Option ℕ → List ℕ → List ℕ → List ℕ
put_before None names order = order ++ names
put_before (Some name) names order =
    before_first (λ n. n == name) order ++ names ++ from_first (λ n. n == name) order

-- the order after the change. A destination from the stretch's start to its end moves nothing
abbrev pub order_after : OrderChange → List ℕ → List ℕ
order_after (Inserting at names) order = take at order ++ names ++ drop at order
order_after (Deleting start end) order = take start order ++ drop end order
order_after (Moving start end to) order =
    if nat_le start to && nat_le to end then order
    else put_before (slice_get order to) (slice_range order start end)
    (take start order ++ drop end order)

-- the lines that were inserted or moved
abbrev pub changed_names : OrderChange → List ℕ → List ℕ
changed_names (Inserting at names) order = names
changed_names (Deleting start end) order = []
changed_names (Moving start end to) order = slice_range order start end
