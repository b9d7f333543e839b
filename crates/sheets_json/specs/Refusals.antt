-- The body of a refusal (Google's API errors: `error` with `code`, `message` and `status`).
use Rattle.std.specs.Prelude.{ℕ, List, [], ◌∷◌, codes, ◌==◌, if◌then◌else◌, IsTrue}
use Rattle.std.specs.List.{list_any}
use Rattle.serde_json.specs.Data.{Data, object, no_members, put}
use Rattle.sheets_json.specs.Written.{text_data, count_data}

-- a status of a refusal
abbrev pub IsRefusal : ℕ → Type 0
IsRefusal status =
    IsTrue (list_any (λ code. status == code) (400 ∷ 401 ∷ 403 ∷ 404 ∷ 413 ∷ 429 ∷ 431 ∷ 503 ∷ 507 ∷ []))

-- its name; no other status has one
abbrev pub status_name : ℕ → List ℕ
status_name status =
    if status == 400 then codes "INVALID_ARGUMENT"
    else if status == 401 then codes "UNAUTHENTICATED"
    else if status == 403 then codes "PERMISSION_DENIED"
    else if status == 404 then codes "NOT_FOUND"
    else if status == 413 then codes "BODY_TOO_LARGE"
    else if status == 429 then codes "RESOURCE_EXHAUSTED"
    else if status == 431 then codes "HEAD_TOO_LARGE"
    else if status == 503 then codes "UNAVAILABLE"
    else if status == 507 then codes "OUT_OF_MEMORY"
    else []

abbrev pub error_data : ℕ → List ℕ → Data
error_data code message = object (
    put (codes "code") (count_data code) (
    put (codes "message") (text_data message) (
    put (codes "status") (text_data (status_name code)) no_members)))

abbrev pub refusal_data : ℕ → List ℕ → Data
refusal_data code message = object (put (codes "error") (error_data code message) no_members)
