-- Shapes of single JSON values, and of lists.
use Rattle.std.specs.Prelude.{ℕ, Bool, List, [], ◌∷◌, true, false, ⊤, if◌then◌else◌, Option, option_map, option_and_then, unwrap_or, Result, Ok, Err}
use Rattle.std.specs.Option.{is_some}
use Rattle.serde_json.specs.Data.{Data, null, boolean, number, string, array, object, Items, no_items, item, Members, no_members, member}
use Rattle.serde_json.specs.Find.{as_bool, as_number, as_str}
use Rattle.cell_value.specs.Entered.{entered_input}
use Rattle.cell_value.specs.Typed.{is_formula}
use Rattle.cell_value.specs.declared.entered.Mode.{Mode}
use Rattle.cell_value.specs.declared.entered.Input.{Input}
use Rattle.cell_value.specs.declared.entered.Bad.{Bad}
use Rattle.cell_value.specs.declared.entered.Bad.TheVariants as bad
use Rattle.json_shapes.specs.declared.fault.ShapeFault.{ShapeFault}
use Rattle.json_shapes.specs.declared.fault.ShapeFault.TheVariants.{BadShape, BadNumber, TextLong}
use Rattle.json_shapes.specs.Reading.{Reading, Shape, both, made, or_bad_shape}
use Rattle.json_shapes.specs.Members.{is_null}

abbrev pub text : Shape (List ℕ)
text value = or_bad_shape (as_str value)

-- a word, where the table has it
abbrev pub word : {A : Type 0} → (List ℕ → Option A) → Shape A
word table value = or_bad_shape (option_and_then table (as_str value))

-- what may not be entered; a value itself never lacks memory
abbrev pub fault_of : Bad → ShapeFault
fault_of bad.NotWhole = BadNumber
fault_of bad.TooLong = TextLong
fault_of bad.NotScalar = BadShape
fault_of bad.NoMemory = BadShape

abbrev pub enterable : Result Input Bad → Reading Input
enterable (Ok input) = Ok input
enterable (Err why) = Err (fault_of why)

-- a value that is entered
abbrev pub entered : Mode → Shape Input
entered mode value = enterable (entered_input mode value)

-- a value of such a form of which that holds
abbrev pub such_that : {A : Type 0} → (Data → Bool) → Shape A → Shape A
such_that holds shape value = if holds value then shape value else Err BadShape

abbrev pub is_number : Data → Bool
is_number value = is_some (as_number value)

abbrev pub is_text : Data → Bool
is_text value = is_some (as_str value)

abbrev pub is_truth : Data → Bool
is_truth value = is_some (as_bool value)

-- a text that begins with = and has more
abbrev pub is_formula_text : Data → Bool
is_formula_text value = unwrap_or (option_map is_formula (as_str value)) false

-- false, and nothing else
abbrev pub only_false : Shape ⊤
only_false null = Err BadShape
only_false (boolean true) = Err BadShape
only_false (boolean false) = Ok tt
only_false (number n) = Err BadShape
only_false (string bytes) = Err BadShape
only_false (array items) = Err BadShape
only_false (object _) = Err BadShape

-- a value that changes nothing
abbrev pub anything : Shape ⊤
anything value = Ok tt

-- a value whose fault is kept for its turn
abbrev pub kept : {A : Type 0} → Shape A → Shape (Reading A)
kept shape value = Ok (shape value)

abbrev pub one_more : {A : Type 0} → A × List A → List A
one_more items = items.0 ∷ items.1

abbrev pub each : {A : Type 0} → Shape A → Items → Reading (List A)
each shape no_items = Ok []
each shape (item value items) = made one_more (both (shape value) (each shape items))

-- a list of such values
abbrev pub list_of : {A : Type 0} → Shape A → Shape (List A)
list_of shape null = Err BadShape
list_of shape (boolean truth) = Err BadShape
list_of shape (number n) = Err BadShape
list_of shape (string bytes) = Err BadShape
list_of shape (array items) = each shape items
list_of shape (object _) = Err BadShape

-- the members that aren't null of an object whose names are free
abbrev pub each_member : {A : Type 0} → (List ℕ → Shape A) → Members → Reading (List A)
each_member keyed no_members = Ok []
each_member keyed (member name value members) =
    if is_null value then each_member keyed members
    else made one_more (both (keyed name value) (each_member keyed members))

-- an object of such members
abbrev pub map_of : {A : Type 0} → (List ℕ → Shape A) → Shape (List A)
map_of keyed null = Err BadShape
map_of keyed (boolean truth) = Err BadShape
map_of keyed (number n) = Err BadShape
map_of keyed (string bytes) = Err BadShape
map_of keyed (array items) = Err BadShape
map_of keyed (object members) = each_member keyed members
