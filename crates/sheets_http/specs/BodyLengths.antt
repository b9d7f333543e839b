-- How many bytes of a body stand behind a head, or why the request is refused (RFC 9112, section 6).
use Rattle.std.specs.Prelude.{ℕ, Bool, ◌||◌, ◌&&◌, List, [], ◌∷◌, length, if◌then◌else◌, nat_lt, nat_le, codes, Option, Some, None, is_none, unwrap_or, Result, Ok, Err}
use Rattle.std.specs.Str.{bytes_eq, str_eq_ignore_ascii_case, all_ascii_digits}
use Rattle.std.specs.Str.Parse.{digits_value}
use Rattle.httparse.specs.Grammar.{RequestHead}
use Rattle.sheets_http.specs.declared.request.HeadFault.{HeadFault}
use Rattle.sheets_http.specs.declared.request.HeadFault.TheVariants.{BadHead, NoLength, BodyLong}
use Rattle.sheets_http.specs.Fields.{Fields, fields_of, has_field}

-- POST and PUT send a body
abbrev pub sends_body : List ℕ → Bool
sends_body method = bytes_eq method (codes "POST") || bytes_eq method (codes "PUT")

-- one to ten digits
abbrev pub is_numeral : List ℕ → Bool
is_numeral value = nat_lt 0 (length value) && nat_le (length value) 10 && all_ascii_digits value

-- the length that the fields tell, if they do: there is one such field, and its value is a length
abbrev pub content_length : Fields → Result (Option ℕ) HeadFault
content_length [] = Ok None
content_length (f ∷ fields) =
    if str_eq_ignore_ascii_case f.0 (codes "content-length") then (
    if has_field (codes "content-length") fields then Err BadHead
    else (if is_numeral f.1 then Ok (Some (digits_value 10 f.1)) else Err BadHead))
    else content_length fields

-- a body has at most so many bytes
abbrev pub body_limit : ℕ
body_limit = 8388608

-- a request with a transfer coding isn't served, nor one with a body that doesn't tell its length, or
-- a body that is too long
abbrev pub framed : List ℕ → Fields → Result (Option ℕ) HeadFault → Result ℕ HeadFault
framed method fields (Err fault) = Err fault
framed method fields (Ok size) =
    if has_field (codes "transfer-encoding") fields || (is_none size && sends_body method) then Err NoLength
    else (if nat_lt body_limit (unwrap_or size 0) then Err BodyLong
    else Ok (unwrap_or size 0))

-- how many bytes of a body stand behind a head of that method and those fields, or why it is refused
abbrev pub body_length : List ℕ → Fields → Result ℕ HeadFault
body_length method fields = framed method fields (content_length fields)

-- the same of a head that was read
abbrev pub body_length_of : RequestHead → Result ℕ HeadFault
body_length_of h = body_length h.method (fields_of h)
