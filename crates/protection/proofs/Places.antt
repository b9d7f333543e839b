-- Ids and places in a list of protections.
use Rattle.std.proofs.Common.{◌≡◌, ℕ, suc, zero, ◌+◌, ◌<◌, ◌≤◌, Bool, true, false, cond, Option, None, Some, List, [], ◌∷◌, All, take, drop, length, get_or, refl, sym, ap, ◌∙◌, subst, ⊎_elim, arith}
use Rattle.std.specs.Prelude.{◌==◌, slice_get, is_some}
use Rattle.std.proofs.lemmas.Bool.{cases_lt, ne_eqb, eq-eqb, cond-true, cond-false}
use Rattle.std.proofs.lemmas.List.{get_or-take, get_or-drop, get_or_read, length-take-le, length-drop, drop_more, drop_all}
use Rattle.std.proofs.lemmas.List.Elements.{All-head, All-tail, All-more, All-weaker}
use Rattle.std.proofs.lemmas.Option.{slice_get_read}
use Rattle.protection.specs.declared.range.Protection.{Protection}
use Rattle.protection.specs.Listed.{IsInOrder, has_id, with_id}

-- a look-up goes past those that don't have the id
pub with_id_behind : (id : ℕ) (list : List Protection) (i : ℕ)
    → All (λ one. ¬ (one.id ≡ id)) (take i list) → with_id id list ≡ with_id id (drop i list)
with_id_behind id list zero others = refl
with_id_behind id [] (suc i) others = refl
with_id_behind id (first ∷ rest) (suc i) others =
    cond-false (first.id == id) (Some first) (with_id id rest)
    (ne_eqb first.id id (All-head (λ one. ¬ (one.id ≡ id)) first (take i rest) others))
    ∙ with_id_behind id rest i (All-tail (λ one. ¬ (one.id ≡ id)) first (take i rest) others)

pub with_id_at : (id : ℕ) (list : List Protection) (i : ℕ) (one : Protection)
    → i < length list → one ≡ get_or list i one → one.id ≡ id
    → All (λ other. ¬ (other.id ≡ id)) (take i list) → with_id id list ≡ slice_get list i
with_id_at id list i one there read has others =
    with_id_behind id list i others
    ∙ ap (with_id id) (drop_more list i one there ∙ ap (λ first. first ∷ drop (i + 1) list) (sym read))
    ∙ cond-true (one.id == id) (Some one) (with_id id (drop (i + 1) list)) (eq-eqb one.id id has)
    ∙ sym (slice_get_read list (length list) i one refl there read)

pub with_id_none : (id : ℕ) (list : List Protection) (i : ℕ) → length list ≤ i
    → All (λ one. ¬ (one.id ≡ id)) (take i list) → with_id id list ≡ None
with_id_none id list i all others =
    with_id_behind id list i others ∙ ap (with_id id) (drop_all i list all)

-- in a list in order those behind a place have ids that aren't less, and those before it no greater ones
pub behind_place : (list : List Protection) (i id : ℕ) (one : Protection) → IsInOrder list
    → i < length list → one ≡ get_or list i one → id ≤ one.id
    → All (λ other. id ≤ other.id) (drop i list)
behind_place list i id one ordered there read least = λ k d below.
    let place = get_or-drop i list k d in
    let same : one.id ≡ (get_or list i d).id = ap (λ (p : Protection). p.id) (get_or_read list i one there read d) in
    let long = length-drop i list in
    let bound : i + k < length list = omega arith in
    rw place (⊎_elim
    (λ (later : i < i + k).
    let more : (get_or list i d).id < (get_or list (i + k) d).id = ordered i (i + k) d later bound in
    omega arith)
    (λ (first : i + k ≤ i).
    let here : i + k ≡ i = omega arith in
    rw here (let up : id ≤ (get_or list i d).id = omega arith in up))
    (cases_lt i (i + k)))

pub before_place : (list : List Protection) (i : ℕ) (one : Protection) → IsInOrder list
    → i < length list → one ≡ get_or list i one
    → All (λ other. other.id ≤ one.id) (take (i + 1) list)
before_place list i one ordered there read = λ k d below.
    let long = length-take-le (i + 1) list (omega arith) in
    let bound : k < i + 1 = omega arith in
    let place = get_or-take (i + 1) list k d bound in
    let same : one.id ≡ (get_or list i d).id = ap (λ (p : Protection). p.id) (get_or_read list i one there read d) in
    rw place (⊎_elim
    (λ (before : k < i).
    let less : (get_or list k d).id < (get_or list i d).id = ordered k i d before there in
    let up : (get_or list k d).id ≤ one.id = omega arith in up)
    (λ (last : i ≤ k).
    let here : k ≡ i = omega arith in
    rw here (let up : (get_or list i d).id ≤ one.id = omega arith in up))
    (cases_lt k i))

-- what holds before a place and at it
pub All-up_to : (P : Protection → Type 0) (list : List Protection) (i : ℕ) (one : Protection)
    → i < length list → one ≡ get_or list i one → All P (take i list) → P one → All P (take (i + 1) list)
All-up_to P list i one there read before here =
    All-more P list i one there before (subst P read here)

-- where the least id that wasn't met is met, it is the next one
pub unused_above : (list : List Protection) (i id : ℕ) (one : Protection) → IsInOrder list
    → i < length list → one ≡ get_or list i one → one.id ≡ id
    → All (λ other. ¬ (other.id ≡ id + 1)) (take (i + 1) list)
unused_above list i id one ordered there read is =
    All-weaker (λ other. other.id ≤ one.id) (λ other. ¬ (other.id ≡ id + 1))
    (λ other upto same. omega arith)
    (take (i + 1) list) (before_place list i one ordered there read)

is_some_behind : (first : Protection) (found : Option Protection) (here : Bool) → is_some found ≡ true
    → is_some (cond here (Some first) found) ≡ true
is_some_behind first found true some = refl
is_some_behind first found false some = some

-- one has the id of one at a place
has_id-at : (id : ℕ) (list : List Protection) (i : ℕ) (d : Protection) → i < length list
    → (get_or list i d).id ≡ id → has_id list id ≡ true
has_id-at id [] i d there has = absurd (omega arith)
has_id-at id (first ∷ rest) zero d there has =
    ap is_some (cond-true (first.id == id) (Some first) (with_id id rest) (eq-eqb first.id id has))
has_id-at id (first ∷ rest) (suc i) d there has =
    is_some_behind first (with_id id rest) (first.id == id) (has_id-at id rest i d (omega arith) has)

pub used_below : (list : List Protection) (i id : ℕ) (one : Protection)
    → i < length list → one ≡ get_or list i one → one.id ≡ id
    → ((lesser : ℕ) → 1 ≤ lesser → lesser < id → has_id list lesser ≡ true)
    → (lesser : ℕ) → 1 ≤ lesser → lesser < id + 1 → has_id list lesser ≡ true
used_below list i id one there read is used lesser positive below = ⊎_elim
    (λ (less : lesser < id). used lesser positive less)
    (λ (more : id ≤ lesser).
    let same : one.id ≡ lesser = omega arith in
    has_id-at lesser list i one there (ap (λ (p : Protection). p.id) (sym read) ∙ same))
    (cases_lt lesser id)
