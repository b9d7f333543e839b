-- Texts, counts, lists and members as JSON values.
use Rattle.std.specs.Prelude.{ℕ, Bool, true, List, [], ◌∷◌, map, if◌then◌else◌, Option, None, Some}
use Rattle.serde_json.specs.Data.{Data, unsigned, boolean, number, string, array, Members, put}
use Rattle.serde_json.specs.View.{items_of}

abbrev pub text_data : List ℕ → Data
text_data text = string text

abbrev pub truth_data : Bool → Data
truth_data holds = boolean holds

abbrev pub count_data : ℕ → Data
count_data count = number (unsigned count)

abbrev pub list_data : {A : Type 0} → (A → Data) → List A → Data
list_data meaning items = array (items_of (map meaning items))

-- a member that may be absent
abbrev pub put_given : {A : Type 0} → List ℕ → (A → Data) → Option A → Members → Members
put_given name meaning None members = members
put_given name meaning (Some value) members = put name (meaning value) members

-- a member that is absent where it is false
abbrev pub put_true : List ℕ → Bool → Members → Members
put_true name holds members = if holds then put name (boolean true) members else members

-- a text that is absent where it is empty
abbrev pub put_filled : List ℕ → List ℕ → Members → Members
put_filled name [] members = members
put_filled name (byte ∷ bytes) members = put name (text_data (byte ∷ bytes)) members

-- a list that is absent where it has no item
abbrev pub put_items : {A : Type 0} → List ℕ → (A → Data) → List A → Members → Members
put_items name meaning [] members = members
put_items name meaning (first ∷ items) members = put name (list_data meaning (first ∷ items)) members
