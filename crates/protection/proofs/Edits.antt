-- One protection more, less or changed, in a list in order.
use Rattle.std.proofs.Common.{◌≡◌, ℕ, suc, zero, ◌+◌, ◌<◌, ◌≤◌, Bool, true, false, not, cond, Option, None, Some, List, [], ◌∷◌, ◌++◌, All, take, drop, set, map, length, get_or, refl, sym, ap, ◌∙◌, subst, ⊎_elim, arith, add-one}
use Rattle.std.specs.Prelude.{◌==◌, nat_lt, slice_get, is_some, filter, insert, remove}
use Rattle.std.proofs.lemmas.Bool.{ne_eqb, eq-eqb, eqb-true, cond-true, cond-false, lt-ltb, le-ltb, cases_Bool}
use Rattle.std.proofs.lemmas.List.{get_or-take, get_or-drop, length-take-le, length-drop, drop_more, take-append-drop, set_split, map-append}
use Rattle.std.proofs.lemmas.List.Elements.{All-nil, All-cons, All-head, All-tail, All-append, All-take, All-drop, All-weaker, filter-append}
use Rattle.std.proofs.lemmas.List.Kept.{AllPairs-cons}
use Rattle.std.proofs.lemmas.Option.{slice_get_read}
use Rattle.protection.specs.declared.range.Protection.{Protection}
use Rattle.protection.specs.Listed.{IsInOrder, has_id, with_id, with_one_more, without_id, with_changed}
use Rattle.protection.proofs.Ordered.{ordered_head, ordered_tail}

-- the one that a look-up finds has the id
found_has : (id : ℕ) (first one : Protection) (found : Option Protection) (same : Bool)
    → (first.id == id) ≡ same → (found ≡ Some one → one.id ≡ id)
    → cond same (Some first) found ≡ Some one → one.id ≡ id
found_has id first one found true is rest some =
    let has : first.id ≡ id = eqb-true first.id id is in
    let same : first ≡ one = cc in
    ap (λ (p : Protection). p.id) (sym same) ∙ has
found_has id first one found false is rest some = rest some

pub with_id_has : (id : ℕ) (list : List Protection) (one : Protection)
    → with_id id list ≡ Some one → one.id ≡ id
with_id_has id [] one some = cc
with_id_has id (first ∷ rest) one some =
    found_has id first one (with_id id rest) (first.id == id) refl (with_id_has id rest one) some

-- and it stands at the place that was found
pub found_id : (id : ℕ) (list : List Protection) (i : ℕ) (one : Protection) → i < length list
    → one ≡ get_or list i one → with_id id list ≡ slice_get list i → (get_or list i one).id ≡ id
found_id id list i one there read found =
    ap (λ (p : Protection). p.id) (sym read)
    ∙ with_id_has id list one (found ∙ slice_get_read list (length list) i one refl there read)

pub is_some-slice_get : (list : List Protection) (i : ℕ) → i < length list
    → is_some (slice_get list i) ≡ true
is_some-slice_get [] i there = absurd (omega arith)
is_some-slice_get (first ∷ rest) zero there = refl
is_some-slice_get (first ∷ rest) (suc i) there = is_some-slice_get rest i (omega arith)

pub with_id_missing : (id : ℕ) (list : List Protection) → All (λ one. ¬ (one.id ≡ id)) list
    → with_id id list ≡ None
with_id_missing id [] others = refl
with_id_missing id (first ∷ rest) others =
    cond-false (first.id == id) (Some first) (with_id id rest)
    (ne_eqb first.id id (All-head (λ one. ¬ (one.id ≡ id)) first rest others))
    ∙ with_id_missing id rest (All-tail (λ one. ¬ (one.id ≡ id)) first rest others)

pub has_id-missing : (id : ℕ) (list : List Protection) → All (λ one. ¬ (one.id ≡ id)) list
    → has_id list id ≡ false
has_id-missing id list others = ap is_some (with_id_missing id list others)

no_one : (found : Option Protection) → is_some found ≡ false → found ≡ None
no_one None none = refl
no_one (Some one) none = cc

pub with_id_none_has : (id : ℕ) (list : List Protection) → has_id list id ≡ false → with_id id list ≡ None
with_id_none_has id list none = no_one (with_id id list) none

-- where it finds none, none has it
none_rest : (id : ℕ) (first : Protection) (found : Option Protection) (same : Bool)
    → (first.id == id) ≡ same → cond same (Some first) found ≡ None
    → (¬ (first.id ≡ id)) × (found ≡ None)
none_rest id first found true is none = cc
none_rest id first found false is none =
    (λ has. Rattle.std.proofs.lemmas.Bool.false≢true (sym is ∙ eq-eqb first.id id has), none)

pub with_id_unused : (id : ℕ) (list : List Protection) → with_id id list ≡ None
    → All (λ one. ¬ (one.id ≡ id)) list
with_id_unused id [] none = All-nil (λ one. ¬ (one.id ≡ id))
with_id_unused id (first ∷ rest) none =
    let parts = none_rest id first (with_id id rest) (first.id == id) refl none in
    All-cons (λ one. ¬ (one.id ≡ id)) first rest parts.0 (with_id_unused id rest parts.1)

-- a filter that passes all, and one that passes none
filter_all : (test : Protection → Bool) (list : List Protection) → All (λ one. test one ≡ true) list
    → filter test list ≡ list
filter_all test [] all = refl
filter_all test (first ∷ rest) all =
    cond-true (test first) (first ∷ filter test rest) (filter test rest)
    (All-head (λ one. test one ≡ true) first rest all)
    ∙ ap (λ rest. first ∷ rest) (filter_all test rest (All-tail (λ one. test one ≡ true) first rest all))

filter_none : (test : Protection → Bool) (list : List Protection) → All (λ one. test one ≡ false) list
    → filter test list ≡ []
filter_none test [] all = refl
filter_none test (first ∷ rest) all =
    cond-false (test first) (first ∷ filter test rest) (filter test rest)
    (All-head (λ one. test one ≡ false) first rest all)
    ∙ filter_none test rest (All-tail (λ one. test one ≡ false) first rest all)

filter_parts : (test : Protection → Bool) (list : List Protection) (i : ℕ)
    → filter test list ≡ filter test (take i list) ++ filter test (drop i list)
filter_parts test list i =
    ap (filter test) (sym (take-append-drop i list)) ∙ filter-append test (take i list) (drop i list)

-- one more, at its place
pub with_one_more_at : (one : Protection) (list : List Protection) (i : ℕ)
    → All (λ other. other.id < one.id) (take i list) → All (λ other. one.id < other.id) (drop i list)
    → insert list i one ≡ with_one_more one list
with_one_more_at one list i before behind =
    let less = filter_parts (λ other. nat_lt other.id one.id) list i
    ∙ ap (λ rest. filter (λ other. nat_lt other.id one.id) (take i list) ++ rest)
    (filter_none (λ other. nat_lt other.id one.id) (drop i list)
    (All-weaker (λ other. one.id < other.id) (λ other. nat_lt other.id one.id ≡ false)
    (λ other more. le-ltb other.id one.id (omega arith)) (drop i list) behind))
    ∙ Rattle.std.proofs.Common.append-nil (filter (λ other. nat_lt other.id one.id) (take i list))
    ∙ filter_all (λ other. nat_lt other.id one.id) (take i list)
    (All-weaker (λ other. other.id < one.id) (λ other. nat_lt other.id one.id ≡ true)
    (λ other below. lt-ltb other.id one.id below) (take i list) before) in
    let more = filter_parts (λ other. nat_lt one.id other.id) list i
    ∙ ap (λ first. first ++ filter (λ other. nat_lt one.id other.id) (drop i list))
    (filter_none (λ other. nat_lt one.id other.id) (take i list)
    (All-weaker (λ other. other.id < one.id) (λ other. nat_lt one.id other.id ≡ false)
    (λ other below. le-ltb one.id other.id (omega arith)) (take i list) before))
    ∙ filter_all (λ other. nat_lt one.id other.id) (drop i list)
    (All-weaker (λ other. one.id < other.id) (λ other. nat_lt one.id other.id ≡ true)
    (λ other above. lt-ltb one.id other.id above) (drop i list) behind) in
    sym (ap (λ first. first ++ one ∷ filter (λ other. nat_lt one.id other.id) list) less
    ∙ ap (λ rest. take i list ++ one ∷ rest) more)

pub IsInOrder-insert : (one : Protection) (list : List Protection) (i : ℕ) → IsInOrder list
    → All (λ other. other.id < one.id) (take i list) → All (λ other. one.id < other.id) (drop i list)
    → IsInOrder (insert list i one)
IsInOrder-insert one list zero ordered before behind =
    AllPairs-cons (λ one other. one.id < other.id) one list behind ordered
IsInOrder-insert one [] (suc i) ordered before behind =
    AllPairs-cons (λ one other. one.id < other.id) one [] behind ordered
IsInOrder-insert one (first ∷ rest) (suc i) ordered before behind =
    let above = ordered_head first rest ordered in
    AllPairs-cons (λ one other. one.id < other.id) first (insert rest i one)
    (All-append (λ other. first.id < other.id) (take i rest) (one ∷ drop i rest)
    (All-take (λ other. first.id < other.id) i rest above)
    (All-cons (λ other. first.id < other.id) one (drop i rest)
    (All-head (λ other. other.id < one.id) first (take i rest) before)
    (All-drop (λ other. first.id < other.id) i rest above)))
    (IsInOrder-insert one rest i (ordered_tail first rest ordered)
    (All-tail (λ other. other.id < one.id) first (take i rest) before) behind)

-- none has the id, so that those behind its place have greater ones
pub above_place : (id : ℕ) (list : List Protection) (i : ℕ) → with_id id list ≡ None
    → All (λ other. id ≤ other.id) (drop i list) → All (λ other. id < other.id) (drop i list)
above_place id list i none upto =
    let unused = All-drop (λ one. ¬ (one.id ≡ id)) i list (with_id_unused id list none) in
    λ k d there.
    let different = unused k d there in
    let least = upto k d there in
    omega arith

-- those before a place and those behind it have other ids
below_at : (list : List Protection) (i : ℕ) (d : Protection) → IsInOrder list → i < length list
    → All (λ other. other.id < (get_or list i d).id) (take i list)
below_at list i d ordered there = λ k e below.
    let long = length-take-le i list (omega arith) in
    let bound : k < i = omega arith in
    rw (get_or-take i list k e bound)
    (subst (λ (one : Protection). (get_or list k e).id < one.id)
    (Rattle.std.proofs.lemmas.List.get_or_default list i e d there) (ordered k i e bound there))

above_at : (list : List Protection) (i : ℕ) (d : Protection) → IsInOrder list → i < length list
    → All (λ other. (get_or list i d).id < other.id) (drop (i + 1) list)
above_at list i d ordered there = λ k e below.
    let long = length-drop (i + 1) list in
    let bound : i + 1 + k < length list = omega arith in
    rw (get_or-drop (i + 1) list k e)
    (subst (λ (one : Protection). one.id < (get_or list (i + 1 + k) e).id)
    (Rattle.std.proofs.lemmas.List.get_or_default list i e d there)
    (ordered i (i + 1 + k) e (omega arith) bound))

others_pass : (id : ℕ) (list : List Protection) → All (λ one. ¬ (one.id ≡ id)) list
    → filter (λ one. not (one.id == id)) list ≡ list
others_pass id list others =
    filter_all (λ one. not (one.id == id)) list
    (All-weaker (λ one. ¬ (one.id ≡ id)) (λ one. not (one.id == id) ≡ true)
    (λ one different. ap not (ne_eqb one.id id different)) list others)

-- one less
pub without_id_at : (id : ℕ) (list : List Protection) (i : ℕ) (d : Protection) → IsInOrder list
    → i < length list → (get_or list i d).id ≡ id → remove list i ≡ without_id id list
without_id_at id list i d ordered there has =
    let one = get_or list i d in
    let test = λ (one : Protection). not (one.id == id) in
    ap (λ j. take i list ++ drop j list) (sym (add-one i))
    ∙ sym (filter_parts test list i
    ∙ ap (λ rest. filter test (take i list) ++ rest)
    (ap (filter test) (drop_more list i d there)
    ∙ cond-false (test one) (one ∷ filter test (drop (i + 1) list)) (filter test (drop (i + 1) list))
    (ap not (eq-eqb one.id id has))
    ∙ others_pass id (drop (i + 1) list)
    (All-weaker (λ other. one.id < other.id) (λ other. ¬ (other.id ≡ id))
    (λ other more same. omega arith) (drop (i + 1) list) (above_at list i d ordered there)))
    ∙ ap (λ first. first ++ drop (i + 1) list)
    (others_pass id (take i list)
    (All-weaker (λ other. other.id < one.id) (λ other. ¬ (other.id ≡ id))
    (λ other less same. omega arith) (take i list) (below_at list i d ordered there))))

-- one changed
others_stay : (id : ℕ) (changed : Protection → Protection) (list : List Protection)
    → All (λ one. ¬ (one.id ≡ id)) list → with_changed id changed list ≡ list
others_stay id changed [] others = refl
others_stay id changed (first ∷ rest) others =
    ap (λ one. one ∷ with_changed id changed rest)
    (cond-false (first.id == id) (changed first) first
    (ne_eqb first.id id (All-head (λ one. ¬ (one.id ≡ id)) first rest others)))
    ∙ ap (λ rest. first ∷ rest)
    (others_stay id changed rest (All-tail (λ one. ¬ (one.id ≡ id)) first rest others))

pub with_changed_at : (id : ℕ) (changed : Protection → Protection) (list : List Protection) (i : ℕ)
    (d : Protection) → IsInOrder list → i < length list → (get_or list i d).id ≡ id
    → set list i (changed (get_or list i d)) ≡ with_changed id changed list
with_changed_at id changed list i d ordered there has =
    let one = get_or list i d in
    let change = λ (one : Protection). cond (one.id == id) (changed one) one in
    set_split list i (changed one) there
    ∙ ap (λ j. take i list ++ changed one ∷ drop j list) (sym (add-one i))
    ∙ sym (ap (map change) (sym (take-append-drop i list))
    ∙ map-append change (take i list) (drop i list)
    ∙ ap (λ first. first ++ map change (drop i list))
    (others_stay id changed (take i list)
    (All-weaker (λ other. other.id < one.id) (λ other. ¬ (other.id ≡ id))
    (λ other less same. omega arith) (take i list) (below_at list i d ordered there)))
    ∙ ap (λ rest. take i list ++ map change rest) (drop_more list i d there)
    ∙ ap (λ first. take i list ++ first ∷ map change (drop (i + 1) list))
    (cond-true (one.id == id) (changed one) one (eq-eqb one.id id has))
    ∙ ap (λ rest. take i list ++ changed one ∷ rest)
    (others_stay id changed (drop (i + 1) list)
    (All-weaker (λ other. one.id < other.id) (λ other. ¬ (other.id ≡ id))
    (λ other more same. omega arith) (drop (i + 1) list) (above_at list i d ordered there))))
