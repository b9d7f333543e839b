-- The filled places of an area of a sheet.
use Rattle.std.specs.Prelude.{ℕ, ◌↔◌, List, Contains}
use Rattle.std.specs.Option.{IsSome}
use Rattle.std.specs.List.Sorted.{IsStrictlySortedBy}
use Rattle.grid_range.specs.declared.area.Area.{Area}
use Rattle.grid_range.specs.Area.{Holds}
use Rattle.grid_range.specs.Area.{by_rows}
use Rattle.cell_store.specs.Table.{Table, item_at}

-- these are the places of the area that hold an item, each once, by rows
pub record AreFilledPlaces {T : Type 0} (area : Area) (table : Table T) (places : List (ℕ × ℕ)) : Type 0 where
  pub in_order : IsStrictlySortedBy by_rows places
  pub exactly : (row col : ℕ) → Contains places (row, col)
      ↔ (Holds area row col × IsSome (item_at table row col))
