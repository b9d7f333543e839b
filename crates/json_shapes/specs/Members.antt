-- The members of a JSON object. A member that is null counts as absent.
use Rattle.std.specs.Prelude.{ℕ, Bool, true, false, ◌&&◌, List, if◌then◌else◌, Option, None, Some, option_and_then, option_map, Ok, Err, ⊤}
use Rattle.std.specs.Str.{bytes_eq}
use Rattle.serde_json.specs.Data.{Data, null, boolean, number, string, array, object, Members, no_members, member}
use Rattle.serde_json.specs.Find.{get_member}
use Rattle.json_shapes.specs.declared.fault.ShapeFault.TheVariants.{BadShape, Unsupported}
use Rattle.json_shapes.specs.Reading.{Reading, Shape, both, made}

abbrev pub is_null : Data → Bool
is_null null = true
is_null (boolean truth) = false
is_null (number n) = false
is_null (string text) = false
is_null (array items) = false
is_null (object _) = false

abbrev pub unless_null : Data → Option Data
unless_null value = if is_null value then None else Some value

-- the value of a member that is given
abbrev pub given : List ℕ → Members → Option Data
given name members = option_and_then unless_null (get_member name members)

-- the members but for one
abbrev pub without : List ℕ → Members → Members
without name no_members = no_members
without name (member other value members) =
    if bytes_eq name other then members else member other value (without name members)

-- what is read of some members, and the members that are left for others
pub record Taken (A : Type 0) : Type 0 where
  pub read : Reading A
  pub left : Members

abbrev pub Fields : Type 0 → Type 0
Fields A = Members → Taken A

abbrev pub if_given : {A : Type 0} → Shape A → Option Data → Reading (Option A)
if_given shape None = Ok None
if_given shape (Some value) = made Some (shape value)

abbrev pub demanded : {A : Type 0} → Shape A → Option Data → Reading A
demanded shape None = Err BadShape
demanded shape (Some value) = shape value

-- a member that may be absent
abbrev pub optional : {A : Type 0} → List ℕ → Shape A → Fields (Option A)
optional name shape members = record { read = if_given shape (given name members); left = without name members }

-- a member that may not
abbrev pub required : {A : Type 0} → List ℕ → Shape A → Fields A
required name shape members = record { read = demanded shape (given name members); left = without name members }

-- what is read of one of several members, if it is given
pub record Found (A : Type 0) : Type 0 where
  pub found : Option (Reading A)
  pub left : Members

abbrev pub Ways : Type 0 → Type 0
Ways A = Members → Found A

-- a member as one way
abbrev pub way : {A : Type 0} → List ℕ → Shape A → Ways A
way name shape members = record { found = option_map shape (given name members); left = without name members }

-- two that are both given have a bad shape, whatever they say
abbrev pub either : {A : Type 0} → Option (Reading A) → Option (Reading A) → Option (Reading A)
either None other = other
either (Some reading) None = Some reading
either (Some reading) (Some other) = Some (Err BadShape)

abbrev pub or_else : {A : Type 0} → Ways A → Ways A → Ways A
or_else one other members = record {
  found = either (one members).found (other (one members).left).found;
  left = (other (one members).left).left;
}

abbrev pub sole : {A : Type 0} → Option (Reading A) → Reading A
sole None = Err BadShape
sole (Some reading) = reading

-- just one of the members
abbrev pub just_one : {A : Type 0} → Ways A → Fields A
just_one ways members = record { read = sole (ways members).found; left = (ways members).left }

-- one after the other
abbrev pub also : {A B : Type 0} → Fields A → Fields B → Fields (A × B)
also one other members =
    record { read = both (one members).read (other (one members).left).read; left = (other (one members).left).left }

-- what is made of what they say
abbrev pub making : {A B : Type 0} → (A → B) → Fields A → Fields B
making make fields members = record { read = made make (fields members).read; left = (fields members).left }

abbrev pub are_null : Members → Bool
are_null no_members = true
are_null (member name value members) = is_null value && are_null members

-- a member that nothing takes is unsupported
abbrev pub nothing_left : Members → Reading ⊤
nothing_left members = if are_null members then Ok tt else Err Unsupported

abbrev pub first_part : {A B : Type 0} → A × B → A
first_part pair = pair.0

-- an object with such members, and no others
abbrev pub object_of : {A : Type 0} → Fields A → Shape A
object_of fields null = Err BadShape
object_of fields (boolean truth) = Err BadShape
object_of fields (number n) = Err BadShape
object_of fields (string text) = Err BadShape
object_of fields (array items) = Err BadShape
object_of fields (object members) = made first_part (both (fields members).read (nothing_left (fields members).left))
