-- How texts are compared: each is the list of its bytes.
use Rattle.std.specs.Prelude.{ℕ, Bool, ◌||◌, List, [], ◌∷◌, nat_eq}
use Rattle.std.specs.List.{starts_with}
use Rattle.std.specs.Str.{str_to_ascii_lowercase}

-- the text with small letters in place of A to Z
abbrev pub lower_case : List ℕ → List ℕ
lower_case text = str_to_ascii_lowercase text

-- the part stands in the text: at its beginning, or in what stands behind its first byte
abbrev pub contains : List ℕ → List ℕ → Bool
contains [] part = starts_with nat_eq [] part
contains (byte ∷ rest) part = starts_with nat_eq (byte ∷ rest) part || contains rest part
