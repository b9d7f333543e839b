-- A loop that changes each item of a list in its place.
use Rattle.std.proofs.Common.{◌≡◌, ℕ, ◌+◌, ◌<◌, ◌≤◌, List, [], ◌∷◌, ◌++◌, All, map, take, drop, set, length, get_or, refl, sym, ap, ◌∙◌, arith}
use Rattle.std.specs.List.{AllZip}
use Rattle.std.proofs.lemmas.List.{take_more, take_more_set, take_all, length-set, drop-set-lt, drop-drop, drop_more, map-append}
use Rattle.std.proofs.lemmas.List.Elements.{AllZip-push, All-nil, All-push, All-same}

-- the first `at` items are changed, and the rest is as it was
pub record Turns {X : Type 0} (f : X → X) (R : X → X → Type 0) (Q : X → Type 0) (before now : List X) (at : ℕ)
    : Type 0 where
  pub long : length now ≡ length before
  pub done : take at now ≡ map f (take at before)
  pub tied : AllZip R (take at before) (take at now)
  pub has : All Q (take at now)
  pub rest : drop at now ≡ drop at before

pub Turns-begin : {X : Type 0} (f : X → X) (R : X → X → Type 0) (Q : X → Type 0) (items : List X)
    → Turns f R Q items items 0
Turns-begin f R Q items =
    record { long = refl; done = refl; tied = tt; has = All-nil Q; rest = refl }

-- the item that comes next is the one that stood there
pub Turns-read : {X : Type 0} (f : X → X) (R : X → X → Type 0) (Q : X → Type 0)
    (before now : List X) (at : ℕ) (one : X)
    → at < length before → Turns f R Q before now at → one ≡ get_or now at one → one ≡ get_or before at one
Turns-read f R Q before now at one there turns read =
    let now_is = drop_more now at one (omega (arith, turns.long)) in
    let before_is = drop_more before at one there in
    let rest = turns.rest in
    cc

-- and is changed
pub Turns-more : {X : Type 0} (f : X → X) (R : X → X → Type 0) (Q : X → Type 0)
    (before now : List X) (at : ℕ) (one new : X)
    → at < length before → one ≡ get_or before at one → new ≡ f one → R one new → Q new
    → Turns f R Q before now at → Turns f R Q before (set now at new) (at + 1)
Turns-more f R Q before now at one new there read is tied has turns =
    let long = turns.long in
    let place : at < length now = omega arith in
    let old = take_more before at one there ∙ ap (λ item. take at before ++ item ∷ []) (sym read) in
    let put = take_more_set now at new place in
    record {
      long = length-set now at new ∙ long;
      done = put ∙ ap (λ done. done ++ new ∷ []) turns.done
          ∙ ap (λ item. map f (take at before) ++ item ∷ []) is
          ∙ sym (ap (map f) old ∙ map-append f (take at before) (one ∷ []));
      tied = rw (old, put) (AllZip-push R (take at before) (take at now) one new turns.tied tied);
      has = All-same Q _ _ put (All-push Q (take at now) new turns.has has);
      rest = drop-set-lt (at + 1) now at new (omega arith)
          ∙ sym (drop-drop 1 at now) ∙ ap (drop 1) turns.rest ∙ drop-drop 1 at before;
    }

-- and at the end all are
pub Turns-end : {X : Type 0} (f : X → X) (R : X → X → Type 0) (Q : X → Type 0)
    (before now : List X) (at : ℕ) → length now ≤ at → Turns f R Q before now at
    → (now ≡ map f before) × AllZip R before now × All Q now
Turns-end f R Q before now at all turns =
    let now_is = take_all at now all in
    let before_is = take_all at before (omega (arith, turns.long)) in (
      sym now_is ∙ turns.done ∙ ap (map f) before_is,
      rw (sym now_is, sym before_is) turns.tied,
      All-same Q _ _ (sym now_is) turns.has,
    )
