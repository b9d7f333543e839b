-- A loop that puts what each item becomes in its own place, and one that counts what is still to come.
use Rattle.std.proofs.Common.{◌≡◌, ℕ, ◌+◌, ◌<◌, Bool, true, false, cond, List, [], ◌∷◌, ◌++◌, map, take, drop, set, replicate, length, get_or, sym, ap, ◌∙◌, arith}
use Rattle.std.specs.List.{count_by}
use Rattle.std.proofs.lemmas.List.{same_from_push, drop_more, length-map, length-take, get_or_at}
use Rattle.std.proofs.lemmas.Grind.{replicate_next}
use Rattle.std.proofs.lemmas.List.Sums.{sum_by-drop_more}
use Rattle.std.proofs.lemmas.List.Edits.{map_over_more}

-- the items before `at` are what they become; so is the one that comes next, where that is put
pub map_one_more : {X : Type 0} (f : X → X) (before now : List X) (at : ℕ) (old new : X)
    → at < length before → now ≡ map f (take at before) ++ drop at before
    → old ≡ get_or now at old → new ≡ f (get_or now at old)
    → set now at new ≡ map f (take (at + 1) before) ++ drop (at + 1) before
map_one_more f before now at old new there so_far read becomes =
    ap (λ item. set now at item) (becomes ∙ ap f (sym read))
    ∙ map_over_more f before now at old there so_far read

-- and the one that comes next is the one that stood there
pub next_is : {X : Type 0} (f : X → X) (before now : List X) (at : ℕ) (d : X) → at < length before
    → now ≡ map f (take at before) ++ drop at before → get_or now at d ≡ get_or before at d
next_is f before now at d there so_far =
    let long : length (map f (take at before)) ≡ at =
    length-map (take at before) f ∙ omega (arith, length-take at before) in
    ap (λ items. get_or items at d)
    (so_far ∙ ap (λ items. map f (take at before) ++ items) (drop_more before at d there))
    ∙ get_or_at (map f (take at before)) _ _ d at long

-- of the items from `at` on, one more passes the test than of those behind it, where it passes
pub count_passed : {X : Type 0} (p : X → Bool) (items : List X) (at : ℕ) (d : X)
    → at < length items → p (get_or items at d) ≡ true
    → count_by p (drop at items) ≡ count_by p (drop (at + 1) items) + 1
count_passed p items at d there passes =
    sum_by-drop_more (λ item. cond (p item) 1 0) items at d there
    ∙ ap (λ passes. cond passes 1 0 + count_by p (drop (at + 1) items)) passes
    ∙ omega arith

pub count_failed : {X : Type 0} (p : X → Bool) (items : List X) (at : ℕ) (d : X)
    → at < length items → p (get_or items at d) ≡ false
    → count_by p (drop at items) ≡ count_by p (drop (at + 1) items)
count_failed p items at d there fails =
    sum_by-drop_more (λ item. cond (p item) 1 0) items at d there
    ∙ ap (λ passes. cond passes 1 0 + count_by p (drop (at + 1) items)) fails
    ∙ omega arith

-- the last of a number of copies is taken
pub last_copy : {X : Type 0} (n : ℕ) (one last : X) (before after : List X)
    → before ≡ replicate (n + 1) one → before ≡ after ++ last ∷ []
    → (after ≡ replicate n one) × (last ≡ one)
last_copy n one last before after copies taken =
    same_from_push after (replicate n one) last one (sym taken ∙ copies ∙ replicate_next n one)
