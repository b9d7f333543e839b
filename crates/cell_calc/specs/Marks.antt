-- What is known of the values of cells while they are calculated: of each place a mark, where it has one.
use Rattle.std.specs.Prelude.{◌≡◌, ℕ, ⊤, Bool, true, false, ◌==◌, ◌&&◌, cond, Option, Some, None}
use Rattle.std.specs.HashMap.{get}
use Rattle.cell_value.specs.declared.cell.Kind.TheVariants as kind
use Rattle.cell_value.specs.declared.cell.Value.{Value}
use Rattle.cell_value.specs.declared.cell.Value.TheVariants.{Error}
use Rattle.cell_calc.specs.declared.mark.Mark.{Mark}
use Rattle.cell_calc.specs.declared.mark.Mark.TheVariants.{Open, Endless, Known}
use Rattle.cell_calc.specs.declared.mark.Found.{Found}
use Rattle.cell_calc.specs.declared.mark.Found.TheVariants.{New, Circular, Settled}
use Rattle.cell_calc.specs.declared.table.Table.{Table}
use Rattle.cell_calc.specs.Book.{Place}

-- equal keys: the id of a sheet, a row and a column
abbrev pub is_key : ℕ × ℕ × ℕ → ℕ × ℕ × ℕ → Bool
is_key one other = (one.0 == other.0 && one.1 == other.1) && one.2 == other.2

abbrev pub keyed_place : ℕ × ℕ × ℕ → Place
keyed_place key = record { sheet = key.0; row = key.1; column = key.2 }

abbrev pub key_of : Place → ℕ × ℕ × ℕ
key_of place = (place.sheet, place.row, place.column)

-- equal places
abbrev pub is_place : Place → Place → Bool
is_place one other = is_key (key_of one) (key_of other)

-- the mark of a place in a table
abbrev pub marks_of : Table → Place → Option Mark
marks_of table place = get is_key table.marks (key_of place)

-- one place has a mark, and the others have those that they had
abbrev pub IsMarked : (Place → Option Mark) → Place → Mark → (Place → Option Mark) → Type 0
IsMarked before place mark after =
    (other : Place) → after other ≡ cond (is_place place other) (Some mark) (before other)

-- the value that a mark tells: that of a cell from which walks have no end is #REF!
abbrev pub value_told : Option Mark → Option Value
value_told None = None
value_told (Some Open) = None
value_told (Some Endless) = Some (Error kind.Ref)
value_told (Some (Known value)) = Some value

abbrev pub IsKnown : Option Mark → Type 0
IsKnown None = ⊥
IsKnown (Some Open) = ⊥
IsKnown (Some Endless) = ⊥
IsKnown (Some (Known value)) = ⊤

-- whether it is known
abbrev pub is_known : Option Mark → Bool
is_known None = false
is_known (Some Open) = false
is_known (Some Endless) = false
is_known (Some (Known value)) = true

-- the values that a table tells
abbrev pub values_of : Table → Place → Option Value
values_of table place = value_told (marks_of table place)

-- what a mark says of the way to a value
abbrev pub found_by : Option Mark → Found
found_by None = New
found_by (Some Open) = Circular
found_by (Some Endless) = Circular
found_by (Some (Known value)) = Settled
