-- The text of a response (RFC 9112, sections 3 to 6), with the phrases of RFC 7231, section 6, RFC 6585
-- (429 and 431) and RFC 4918 (507).
use Rattle.std.specs.Prelude.{ℕ, Bool, true, false, List, [], ◌∷◌, ◌++◌, length, decimal, unwrap_or, codes, ◌==◌, IsTrue}
use Rattle.std.specs.List.{list_any}
use Rattle.http.specs.StatusCode.{reason_phrase}

-- a status of a response
abbrev pub IsServedStatus : ℕ → Type 0
IsServedStatus status =
    IsTrue (list_any (λ code. status == code)
    (200 ∷ 400 ∷ 401 ∷ 403 ∷ 404 ∷ 413 ∷ 429 ∷ 431 ∷ 503 ∷ 507 ∷ []))

-- the phrase of a status, where it has one
abbrev pub phrase_of : ℕ → List ℕ
phrase_of status = unwrap_or (reason_phrase status) []

-- a line of the head, and what follows
abbrev pub text_line : List ℕ → List ℕ → List ℕ
text_line text rest = text ++ (codes "\r\n" ++ rest)

-- the line that tells the client of the last response, where it is the last
abbrev pub connection_line : Bool → List ℕ → List ℕ
connection_line true rest = text_line (codes "Connection: close") rest
connection_line false rest = rest

-- the status line, the fields, an empty line and the body
abbrev pub text_of_response : ℕ → Bool → List ℕ → List ℕ
text_of_response status close body =
    text_line (codes "HTTP/1.1 " ++ decimal status ++ codes " " ++ phrase_of status) (
    text_line (codes "Content-Type: application/json; charset=UTF-8") (
    text_line (codes "Content-Length: " ++ decimal (length body)) (
    connection_line close (
    text_line [] body))))

-- the body of the response for want of memory
abbrev pub no_memory_body : List ℕ
no_memory_body = codes "{\"error\":{\"code\":507,\"message\":\"NoMemory\",\"status\":\"OUT_OF_MEMORY\"}}"
