-- A map's entries beside the members that they stand for.
use Rattle.std.proofs.Common.{◌≡◌, ℕ, List, [], ◌∷◌, Option, Bool, true, false, cond, string_bytes, nat_cmp, refl, ap, ◌∙◌}
use Rattle.std.specs.Prelude.{◌&&◌, option_and_then}
use Rattle.std.specs.Option.{option_map}
use Rattle.std.specs.List.{list_all}
use Rattle.std.specs.Map.{lookup, remove_entry, values_of}
use Rattle.std.specs.BTreeMap.{is_at}
use Rattle.std.specs.Cmp.Lexicographic.{slice_cmp}
use Rattle.std.specs.Str.{bytes_eq}
use Rattle.std.proofs.lemmas.Map.Text.{is_eq-slice_cmp}
use Rattle.serde_json.specs.Data.{Members, member}
use Rattle.serde_json.specs.View.{view, members_view}
use Rattle.serde_json.specs.declared.value.Value.{Value}
use Rattle.serde_json.proofs.Views.{Entry, view-lookup}
use Rattle.json_shapes.specs.Members.{is_null, unless_null, given, without, are_null}

pub given_of : (name : List ℕ) (entries : List Entry) (found : Option Value)
    → found ≡ lookup (is_at (λ key. slice_cmp nat_cmp name (string_bytes key))) entries
    → option_and_then unless_null (option_map view found) ≡ given name (members_view entries)
given_of name entries found is =
    ap (option_and_then unless_null) (ap (option_map view) is ∙ view-lookup name entries)

by_test : (here : Bool) (e : Entry) (entries rest : List Entry) (others : Members)
    → members_view rest ≡ others
    → members_view (cond here entries (e ∷ rest))
    ≡ cond here (members_view entries) (member (string_bytes e.0) (view e.1) others)
by_test true e entries rest others is = refl
by_test false e entries rest others is = ap (member (string_bytes e.0) (view e.1)) is

pub without_of : (name : List ℕ) (entries : List Entry)
    → members_view (remove_entry (is_at (λ key. slice_cmp nat_cmp name (string_bytes key))) entries)
    ≡ without name (members_view entries)
without_of name [] = refl
without_of name (e ∷ entries) =
    rw (is_eq-slice_cmp name (string_bytes e.0))
    (by_test (bytes_eq name (string_bytes e.0)) e entries _ _ (without_of name entries))

pub are_null_of : (entries : List Entry)
    → list_all (λ value. is_null (view value)) (values_of entries) ≡ are_null (members_view entries)
are_null_of [] = refl
are_null_of (e ∷ entries) = ap (λ rest. is_null (view e.1) && rest) (are_null_of entries)
