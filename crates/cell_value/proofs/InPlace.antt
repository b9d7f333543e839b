-- A loop that has each item of a list follow, and puts those that stay at the next place of its own
-- list, over items that it is done with.
use Rattle.std.proofs.Common.{◌≡◌, ℕ, ◌+◌, ◌<◌, ◌≤◌, List, [], ◌∷◌, ◌++◌, Option, None, Some, All, take, drop, set, length, get_or, refl, sym, ap, ◌∙◌, subst, ⊎_elim, arith, append-nil}
use Rattle.std.specs.List.{filter_map, swap, cons_option}
use Rattle.std.proofs.lemmas.Bool.{cases_lt}
use Rattle.std.proofs.lemmas.List.{take_more, take_more_set, take-set-le, drop-set-lt, drop-drop, take_all, length-set, set-set, set_comm, get_or-set_same, drop_more}
use Rattle.std.proofs.lemmas.List.Edits.{swap_is}
use Rattle.std.proofs.lemmas.List.Elements.{filter_map-append, All-nil, All-push, All-same}

-- of the first `at` items what became of them stands in the first `kept` places, and the rest is as it
-- was
pub record Keeps {X : Type 0} (becomes : X → Option X) (Q : X → Type 0) (before now : List X) (kept at : ℕ)
    : Type 0 where
  pub room : kept ≤ at
  pub long : length now ≡ length before
  pub done : take kept now ≡ filter_map becomes (take at before)
  pub rest : drop at now ≡ drop at before
  pub has : All Q (filter_map becomes (take at before))

pub Keeps-begin : {X : Type 0} (becomes : X → Option X) (Q : X → Type 0) (items : List X)
    → Keeps becomes Q items items 0 0
Keeps-begin becomes Q items =
    record { room = omega arith; long = refl; done = refl; rest = refl; has = All-nil Q }

-- the item that comes next is the one that stood there
pub Keeps-item : {X : Type 0} (becomes : X → Option X) (Q : X → Type 0) (before now : List X) (kept at : ℕ) (d : X)
    → at < length before → Keeps becomes Q before now kept at → get_or now at d ≡ get_or before at d
Keeps-item becomes Q before now kept at d there keeps =
    let now_is = drop_more now at d (omega (arith, keeps.long)) in
    let before_is = drop_more before at d there in
    let rest = keeps.rest in
    cc

pub Keeps-read : {X : Type 0} (becomes : X → Option X) (Q : X → Type 0) (before now : List X) (kept at : ℕ) (one : X)
    → at < length before → Keeps becomes Q before now kept at → one ≡ get_or now at one
    → one ≡ get_or before at one
Keeps-read becomes Q before now kept at one there keeps read =
    read ∙ Keeps-item becomes Q before now kept at one there keeps

rest_more : {X : Type 0} (xs ys : List X) (at : ℕ) → drop at xs ≡ drop at ys
    → drop (at + 1) xs ≡ drop (at + 1) ys
rest_more xs ys at same = sym (drop-drop 1 at xs) ∙ ap (drop 1) same ∙ drop-drop 1 at ys

filter_map_more : {X : Type 0} (becomes : X → Option X) (xs : List X) (at : ℕ) (d : X) → at < length xs
    → filter_map becomes (take (at + 1) xs)
    ≡ filter_map becomes (take at xs) ++ cons_option (becomes (get_or xs at d)) []
filter_map_more becomes xs at d there =
    ap (filter_map becomes) (take_more xs at d there)
    ∙ filter_map-append becomes (take at xs) (get_or xs at d ∷ [])

-- it is lost
pub Keeps-lost : {X : Type 0} (becomes : X → Option X) (Q : X → Type 0) (before now : List X) (kept at : ℕ) (d : X)
    → at < length before → becomes (get_or before at d) ≡ None
    → Keeps becomes Q before now kept at → Keeps becomes Q before now kept (at + 1)
Keeps-lost becomes Q before now kept at d there lost keeps =
    let same = filter_map_more becomes before at d there
    ∙ ap (λ item. filter_map becomes (take at before) ++ cons_option item []) lost
    ∙ append-nil (filter_map becomes (take at before)) in
    record {
      room = let room = keeps.room in omega arith;
      long = keeps.long;
      done = keeps.done ∙ sym same;
      rest = rest_more now before at keeps.rest;
      has = All-same Q _ _ same keeps.has;
    }

-- what became of it is put at the next place
pub Keeps-put : {X : Type 0} (becomes : X → Option X) (Q : X → Type 0) (before now : List X) (kept at : ℕ) (item d : X)
    → at < length before → becomes (get_or before at d) ≡ Some item → Q item
    → Keeps becomes Q before now kept at → Keeps becomes Q before (set now kept item) (kept + 1) (at + 1)
Keeps-put becomes Q before now kept at item d there is has keeps =
    let room = keeps.room in
    let long = keeps.long in
    let place : kept < length now = omega arith in
    let more = filter_map_more becomes before at d there
    ∙ ap (λ item. filter_map becomes (take at before) ++ cons_option item []) is in
    record {
      room = omega arith;
      long = length-set now kept item ∙ keeps.long;
      done = take_more_set now kept item place ∙ ap (λ done. done ++ item ∷ []) keeps.done ∙ sym more;
      rest = drop-set-lt (at + 1) now kept item (omega arith) ∙ rest_more now before at keeps.rest;
      has = All-same Q _ _ more (All-push Q _ item keeps.has has);
    }

-- a write between the two parts changes neither
pub Keeps-between : {X : Type 0} (becomes : X → Option X) (Q : X → Type 0)
    (before now : List X) (kept at i : ℕ) (item : X)
    → kept ≤ i → i < at → Keeps becomes Q before now kept at → Keeps becomes Q before (set now i item) kept at
Keeps-between becomes Q before now kept at i item above below keeps = record {
  room = keeps.room;
  long = length-set now i item ∙ keeps.long;
  done = take-set-le kept now i item above ∙ keeps.done;
  rest = drop-set-lt at now i item below ∙ keeps.rest;
  has = keeps.has;
}

-- or is put in its own place, which then changes places with that one
swap_before : {X : Type 0} (now : List X) (kept at : ℕ) (item d : X) → at < length now → kept < at
    → swap (set now at item) kept at ≡ set (set now kept item) at (get_or (set now at item) kept d)
swap_before now kept at item d there before =
    let long = length-set now at item in
    let same = get_or-set_same now at item d there in
    sym (swap_is (set now at item) kept at d (omega arith) (omega arith))
    ∙ ap (λ moved. set (set (set now at item) kept moved) at (get_or (set now at item) kept d)) same
    ∙ ap (λ list. set list at (get_or (set now at item) kept d))
    (set_comm now at kept item item (λ (place : at ≡ kept). omega arith))
    ∙ set-set (set now kept item) at item (get_or (set now at item) kept d)

swap_here : {X : Type 0} (now : List X) (at : ℕ) (item d : X) → at < length now
    → swap (set now at item) at at ≡ set now at item
swap_here now at item d there =
    let long = length-set now at item in
    let same = get_or-set_same now at item d there in
    sym (swap_is (set now at item) at at d (omega arith) (omega arith))
    ∙ ap (λ moved. set (set (set now at item) at moved) at moved) same
    ∙ set-set (set now at item) at item item
    ∙ set-set now at item item

pub Keeps-swapped : {X : Type 0} (becomes : X → Option X) (Q : X → Type 0)
    (before now : List X) (kept at : ℕ) (item d : X)
    → at < length before → becomes (get_or before at d) ≡ Some item → Q item
    → Keeps becomes Q before now kept at
    → Keeps becomes Q before (swap (set now at item) kept at) (kept + 1) (at + 1)
Keeps-swapped {X} becomes Q before now kept at item d there is has keeps =
    let room = keeps.room in
    let long = keeps.long in
    let here : at < length now = omega arith in
    let put = Keeps-put becomes Q before now kept at item d there is has keeps in
    ⊎_elim
    (λ (less : kept < at). subst (λ (list : List X). Keeps becomes Q before list (kept + 1) (at + 1))
    (sym (swap_before now kept at item d here less))
    (Keeps-between becomes Q before (set now kept item) (kept + 1) (at + 1) at _ (omega arith) (omega arith) put))
    (λ (more : at ≤ kept). let place : kept ≡ at = omega arith in
    subst (λ (list : List X). Keeps becomes Q before list (kept + 1) (at + 1))
    (rw place (sym (swap_here now at item d here)))
    put)
    (cases_lt kept at)

-- and the places behind those are cut off
pub Keeps-end : {X : Type 0} (becomes : X → Option X) (Q : X → Type 0) (before now : List X) (kept at : ℕ)
    → length before ≤ at → Keeps becomes Q before now kept at
    → (take kept now ≡ filter_map becomes before) × All Q (take kept now)
Keeps-end becomes Q before now kept at all keeps =
    let whole = ap (filter_map becomes) (take_all at before all) in (
      keeps.done ∙ whole,
      All-same Q _ _ keeps.done keeps.has,
    )
