-- Who makes a request: the token that it comes with (RFC 6750, section 2.1), and the project that it is made
-- for (the field X-Goog-User-Project of Google's APIs).
use Rattle.std.specs.Prelude.{ℕ, Bool, ◌&&◌, List, [], length, take, drop, if◌then◌else◌, nat_lt, nat_le, codes, Option, Some, None, unwrap_or}
use Rattle.std.specs.List.{list_all}
use Rattle.std.specs.Option.{option_and_then}
use Rattle.std.specs.Char.{is_ascii_graphic}
use Rattle.std.specs.Str.{str_eq_ignore_ascii_case}
use Rattle.sheets_http.specs.Fields.{Fields, sole_value}

-- a text of visible ASCII characters, 33 to 126
abbrev pub visible_text : List ℕ → Option (List ℕ)
visible_text text = if list_all is_ascii_graphic text then Some text else None

-- a token has a character, and so many at most
abbrev pub token_limit : ℕ
token_limit = 4096

abbrev pub is_token_length : ℕ → Bool
is_token_length size = nat_lt 0 size && nat_le size token_limit

-- what follows `Bearer`, in any case, and one space
abbrev pub bearer_token : List ℕ → Option (List ℕ)
bearer_token value =
    if str_eq_ignore_ascii_case (take 7 value) (codes "Bearer ") && is_token_length (length (drop 7 value))
    then visible_text (drop 7 value) else None

-- the token of the one field that has one
abbrev pub user_token : Fields → Option (List ℕ)
user_token fields = option_and_then bearer_token (sole_value (codes "authorization") fields)

-- the project that the one field names, and else the empty one
abbrev pub project : Fields → List ℕ
project fields = unwrap_or (option_and_then visible_text (sole_value (codes "x-goog-user-project") fields)) []
