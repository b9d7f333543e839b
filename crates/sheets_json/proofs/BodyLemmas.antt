-- Bodies as JSON text.
use Rattle.std.proofs.Common.{◌≡◌, ℕ, List, Bool, true, false, cond, Option, Some, None, refl}
use Rattle.std.specs.Str.{IsUtf8, is_utf8}
use Rattle.std.proofs.lemmas.Str.{is_utf8-from_IsUtf8, IsUtf8-from_is_utf8}
use Rattle.serde_json.specs.Data.{Data}
use Rattle.std.specs.Prelude.{Result, Ok, Err, IfOk}
use Rattle.std.specs.Option.{option_map}
use Rattle.serde_json.specs.View.{view}
use Rattle.serde_json.specs.declared.value.Value.{Value}
use Rattle.serde_json.specs.Read.{read as read_text}
use Rattle.sheets_json.specs.Bodies.{json_of}

pub json_of-some : (body : List ℕ) (json : Data) → IsUtf8 body → read_text body ≡ Some json → Some json ≡ json_of body
json_of-some body json utf8 reads = rw (is_utf8-from_IsUtf8 body utf8, reads) refl

by_test : (body : List ℕ) (test : Bool) → (test ≡ true → read_text body ≡ None) → None ≡ cond test (read_text body) None
by_test body true reads = rw (reads refl) refl
by_test body false reads = refl

pub json_of-none : (body : List ℕ) → (IsUtf8 body → read_text body ≡ None) → None ≡ json_of body
json_of-none body reads = by_test body (is_utf8 body) (λ is. reads (IsUtf8-from_is_utf8 body is))

pub no_json_is : {E : Type 0} (IsMemory : Type 0) (body : List ℕ) (result : Result (Option Value) E)
    → ((IsMemory → ⊥) → IsUtf8 body → read_text body ≡ None)
    → IfOk result (λ json. (json ≡ None) × (IsMemory → ⊥))
    → IfOk result (λ json. option_map view json ≡ json_of body)
no_json_is IsMemory body (Ok json) reads is = rw is.0 (json_of-none body (reads is.1))
no_json_is IsMemory body (Err fault) reads is = tt
