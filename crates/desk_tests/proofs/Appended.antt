-- Bytes that are appended.
use Rattle.std.proofs.Common.{◌≡◌, ℕ, List, [], ◌∷◌, ◌++◌, sym, ap, ◌∙◌, append_assoc}
use Rattle.std.proofs.lemmas.List.{append-nil}
use Rattle.desk.specs.declared.entry.Entry.{Entry}
use Rattle.desk_tests.specs.Appending.{bodies}

-- one entry more
pub bodies_more : (entries : List Entry) (entry : Entry) → bodies (entries ++ entry ∷ []) ≡ bodies entries ++ entry.body
bodies_more [] entry = append-nil entry.body
bodies_more (first ∷ entries) entry =
    ap (λ (l : List ℕ). first.body ++ l) (bodies_more entries entry)
    ∙ sym (append_assoc first.body (bodies entries) entry.body)
