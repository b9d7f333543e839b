-- Queries (RFC 3986, section 3.4), read as web forms are (URL Standard, section 5).
use Rattle.std.specs.Prelude.{ℕ, Bool, true, ◌||◌, ◌&&◌, not, List, [], ◌∷◌, map}
use Rattle.std.specs.List.{list_any, list_all}
use Rattle.std.specs.Str.{bytes_eq}
use Rattle.std.specs.Str.Lossy.{utf8_lossy}
use Rattle.form_urlencoded.specs.Form.{raw_pairs, split_pair, decode}
use Rattle.sheets_http.specs.declared.verb.Verb.{Verb}
use Rattle.sheets_http.specs.declared.table.Member.TheVariants.{Ranges}
use Rattle.sheets_http.specs.declared.table.Member.{Member}
use Rattle.sheets_http.specs.Table.{line, common, name_of, allows}

-- a name or a value: + is a space, and what isn't UTF-8 becomes U+FFFD
abbrev pub form_text : List ℕ → List ℕ
form_text raw = utf8_lossy (decode raw)

-- a name and a value, decoded
abbrev pub decoded_pair : List ℕ × List ℕ → List ℕ × List ℕ
decoded_pair pair = (form_text pair.0, form_text pair.1)

-- the member of a piece: its name and its value stand on the two sides of the first =
abbrev pub member_of : List ℕ → List ℕ × List ℕ
member_of piece = decoded_pair (split_pair piece)

-- the members of a query: the pairs between the &, of which an empty piece is none
abbrev pub members_of : List ℕ → List (List ℕ × List ℕ)
members_of query = map decoded_pair (raw_pairs query)

-- ---- which queries a call takes

abbrev pub is_named : List ℕ → List ℕ × List ℕ → Bool
is_named name member = bytes_eq member.0 name

-- it is one of these, with a value that it may have
abbrev pub is_admitted : List Member → List ℕ × List ℕ → Bool
is_admitted members given = list_any (λ member. is_named (name_of member) given && allows member given.1) members

-- the call has such a member, with such a value
abbrev pub takes_member : Verb → List ℕ × List ℕ → Bool
takes_member verb given =
    is_admitted (line verb).required given || (is_admitted (line verb).optional given || is_admitted common given)

-- no name stands twice but that of the ranges
abbrev pub has_no_name_twice : List (List ℕ × List ℕ) → Bool
has_no_name_twice [] = true
has_no_name_twice (first ∷ others) =
    (is_named (name_of Ranges) first || not (list_any (is_named first.0) others)) && has_no_name_twice others

-- each member that the call requires is there
abbrev pub has_required : Verb → List (List ℕ × List ℕ) → Bool
has_required verb given = list_all (λ member. list_any (is_named (name_of member)) given) (line verb).required

abbrev pub fits_query : Verb → List (List ℕ × List ℕ) → Bool
fits_query verb given = list_all (takes_member verb) given && (has_no_name_twice given && has_required verb given)
