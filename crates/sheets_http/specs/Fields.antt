-- The fields of a head (RFC 9110, section 5), found by a name in any ASCII case, and what two of them say
-- of the request: that the connection is closed behind it (RFC 9112, section 9.6), and that its body has a
-- coding (RFC 9110, section 8.4).
use Rattle.std.specs.Prelude.{ℕ, Bool, ◌||◌, ◌&&◌, not, List, [], ◌∷◌, map, if◌then◌else◌, ◌==◌, codes, Option, Some, None}
use Rattle.std.specs.List.{list_any}
use Rattle.std.specs.Str.{str_eq_ignore_ascii_case}
use Rattle.httparse.specs.Grammar.{RequestHead}
use Rattle.httparse.specs.Spans.{name_and_value}

-- the names and the values of fields
abbrev pub Fields : Type 0
Fields = List (List ℕ × List ℕ)

-- those of a head
abbrev pub fields_of : RequestHead → Fields
fields_of h = map name_and_value h.fields

-- a field has the name
abbrev pub has_field : List ℕ → Fields → Bool
has_field name fields = list_any (λ f. str_eq_ignore_ascii_case f.0 name) fields

-- a field has the name and the value, this in any ASCII case, too
abbrev pub has_field_value : List ℕ → List ℕ → Fields → Bool
has_field_value name value fields =
    list_any (λ f. str_eq_ignore_ascii_case f.0 name && str_eq_ignore_ascii_case f.1 value) fields

-- the value of the one field of that name, where the name stands just once
abbrev pub sole_value : List ℕ → Fields → Option (List ℕ)
sole_value name [] = None
sole_value name (f ∷ fields) =
    if str_eq_ignore_ascii_case f.0 name then (if has_field name fields then None else Some f.1)
    else sole_value name fields

-- the connection is closed behind the request: by a field, or by HTTP/1.0
abbrev pub asks_to_close : ℕ → Fields → Bool
asks_to_close minor fields = minor == 0 || has_field_value (codes "connection") (codes "close") fields

-- the body has a coding other than none at all
abbrev pub is_coded : Fields → Bool
is_coded fields =
    list_any (λ f. str_eq_ignore_ascii_case f.0 (codes "content-encoding")
    && not (str_eq_ignore_ascii_case f.1 (codes "identity"))) fields
