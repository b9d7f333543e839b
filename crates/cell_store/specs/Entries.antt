-- What entries, which are places with items, keep and stand for.
use Rattle.std.specs.Prelude.{ℕ, ◌<◌, List, Option}
use Rattle.std.specs.Option.{IsSome}
use Rattle.std.specs.Ordering.{eq_by_cmp}
use Rattle.std.specs.Map.{lookup}
use Rattle.std.specs.FinMap as map
use Rattle.grid_range.specs.Area.{by_rows}
use Rattle.cell_store.specs.Table.{Table}

-- the item of the first entry at a place
abbrev pub entry_at : {T : Type 0} → List ((ℕ × ℕ) × T) → ℕ × ℕ → Option T
entry_at entries place = lookup (eq_by_cmp by_rows place) entries

-- each entry is at a place of a sheet of that size
abbrev pub HasEntriesInside : {T : Type 0} → ℕ → ℕ → List ((ℕ × ℕ) × T) → Type 0
HasEntriesInside rows cols entries =
    (place : ℕ × ℕ) → IsSome (entry_at entries place) → (place.0 < rows) × (place.1 < cols)

-- the sheet of that size with these entries
abbrev pub table_of : {T : Type 0} → ℕ → ℕ → List ((ℕ × ℕ) × T) → Table T
table_of rows cols entries = record { rows = rows; cols = cols; cells = map.from_entries entries }
