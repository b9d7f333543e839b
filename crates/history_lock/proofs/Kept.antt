-- What keeps the rule: a list that grows, a view that changes, a view more.
use Rattle.std.proofs.Common.{◌≡◌, ◌≢◌, ℕ, ◌<◌, ◌≤◌, true, false, List, [], ◌∷◌, ◌++◌, length, drop, set}
use Rattle.std.proofs.Common.{Option as Maybe, Some, refl, sym, ap, ◌∙◌, subst, inl, inr, arith}
use Rattle.std.specs.Prelude.{All, IfSome}
use Rattle.std.specs.List.{Contains}
use mathlib.Core.Option.{Option, some, some-injective}
use mathlib.Core.Logic.{dite}
use native.Mathlib.Decide.{ℕ_discrete}
use lib.ListN.{get_elem?}
use Rattle.std.proofs.lemmas.Option.{IfSome_then}
use Rattle.atomic_table.proofs.Lists.{set_else, at_longer}
use Rattle.history_lock.specs.declared.view.View.{View}
use Rattle.history_lock.specs.declared.view.Stage.{Stage}
use Rattle.history_lock.specs.declared.view.Stage.TheVariants.{Away, Opening, Holds, Ready, Gone}
use Rattle.history_lock.specs.declared.view.Drawing.TheVariants.{Alone}
use Rattle.history_lock.specs.History.{StartsWith, NoneOf, AreSilent}
use Rattle.history_lock.specs.Rule.{StandsAt, numbers_of, IsDrawnBy, IsFree, SlotAt, HeldBy, IsInTurn, Known, Apart}
use Rattle.history_lock.specs.Rule.{KeptAt}
use Rattle.history_lock.proofs.Histories.{starts_whole, starts_through, All-drop_append, nothing_behind}
use Rattle.history_lock.proofs.Views.{all_set, all_more, set_there, apart_set, apart_more}

pub below_more : (given : Maybe ℕ) (m n : ℕ) → m ≤ n → IfSome given (λ number. number < m)
    → IfSome given (λ number. number < n)
below_more given m n le h = IfSome_then given h (λ number lt. omega arith)

module _ {E : Type 0} where
  -- a number is still some view's where the one that changes keeps its numbers
  pub drawn_set : (views : List (View E)) (id : ℕ) (v w : View E) (number : ℕ) → StandsAt views id v
      → (Contains (numbers_of v) number → Contains (numbers_of w) number)
      → IsDrawnBy views number → IsDrawnBy (set views id w) number
  drawn_set views id v w number at keeps (j, u, there, has) =
      dite (ℕ_discrete j id)
      (λ (same : j ≡ id).
      let u_is : u ≡ v = some-injective u v (sym there ∙ ap (get_elem? views) same ∙ at) in
      (id, w, set_there views id v w at, keeps (subst (λ x. Contains (numbers_of x) number) u_is has)))
      (λ (else : j ≢ id). (j, u, set_else views id j w else ∙ there, has))

  -- and where another view then loses those that this one took in
  pub drawn_join : (views : List (View E)) (id other : ℕ) (v w u x : View E) (number : ℕ) → StandsAt views id v
      → other ≢ id → StandsAt (set views id u) other w
      → (Contains (numbers_of w) number → Contains (numbers_of u) number) → IsDrawnBy (set views id u) number
      → IsDrawnBy (set (set views id u) other x) number
  drawn_join views id other v w u x number at else w_at keeps (j, y, there, has) =
      dite (ℕ_discrete j other)
      (λ (same : j ≡ other).
      let y_is : y ≡ w = some-injective y w (sym there ∙ ap (get_elem? (set views id u)) same ∙ w_at) in (
        id,
        u,
        set_else (set views id u) other id x (λ e. else (sym e))
            ∙ set_there views id v u at,
        keeps (subst (λ y. Contains (numbers_of y) number) y_is has),
      ))
      (λ (apart : j ≢ other). (j, y, set_else (set views id u) other j x apart ∙ there, has))

module _ {T E : Type 0} (list : T → List E) (pair : T → ℕ × ℕ) (caller : E → ℕ) (start : T) (most : ℕ) where
  -- more numbers were drawn, and entries of others were added
  pub known_grown : (drawn more : ℕ) (all added : List E) (v : View E) → drawn ≤ more
      → (v.drawing ≡ Alone → v.count ≡ more)
      → (v.numbered ≡ true → NoneOf caller v.number added) → AreSilent caller v.met (all ++ added)
      → Known list pair caller start most drawn all v → Known list pair caller start most more (all ++ added) v
  known_grown drawn more all added v le exact others done k = record {
    seen = starts_through (all ++ added) all v.seen (added, refl) k.seen;
    heard = k.heard;
    begun = k.begun;
    start_is = k.start_is;
    pair_is = k.pair_is;
    most_is = k.most_is;
    counted = let c = k.counted in omega arith;
    exact = exact;
    below = k.below;
    given = k.given;
    own = λ numbered. All-drop_append (λ e. caller e ≢ v.number) (length v.seen) all added (k.own numbered)
        (others numbered);
    others = k.others;
    done = done;
  }

  -- the view has seen the whole list, which begins with what it had seen
  pub known_whole : (drawn : ℕ) (before all : List E) (v : View E) (stage : Stage) → StartsWith all v.seen
      → AreSilent caller v.met all
      → Known list pair caller start most drawn before v
      → Known list pair caller start most drawn all (record v { stage = stage; seen = all; mine = all })
  known_whole drawn before all v stage longer done k = record {
    seen = starts_whole all;
    heard = starts_through all v.seen v.heard longer k.heard;
    begun = starts_through all v.seen v.start longer k.begun;
    start_is = k.start_is;
    pair_is = k.pair_is;
    most_is = k.most_is;
    counted = k.counted;
    exact = k.exact;
    below = k.below;
    given = k.given;
    own = λ _. nothing_behind (λ e. caller e ≢ v.number) all;
    others = λ _. nothing_behind (λ e. caller e ≢ v.number) all;
    done = done;
  }

  slot_taken : (homes : List (Option (Maybe T))) (v : View E) (stage : Stage) → SlotAt list pair homes v stage
      → IsFree stage → ⊥
  slot_taken homes v Away s f = s
  slot_taken homes v Gone s f = s
  slot_taken homes v Opening s f = f
  slot_taken homes v Holds s f = f
  slot_taken homes v Ready s f = f

  -- a view that isn't free is the holder's
  pub holder : (turn : ℕ) (homes : List (Option (Maybe T))) (views : List (View E)) (all : List E)
      → IsInTurn list pair start turn homes views all
      → (id : ℕ) (v : View E) → StandsAt views id v → (IsFree v.stage → ⊥) → HeldBy list pair turn homes views all id v
  holder turn homes views all (inl home) id v at busy = absurd (busy (home.free id v at))
  holder turn homes views all (inr (i, u, h)) id v at busy =
      dite (ℕ_discrete id i)
      (λ (same : id ≡ i).
      let u_is : u ≡ v = some-injective u v (sym h.there ∙ ap (get_elem? views) (sym same) ∙ at) in
      subst (λ (p : ℕ × View E). HeldBy list pair turn homes views all p.0 p.1) (λ k. (sym same k, u_is k)) h)
      (λ (else : id ≢ i). absurd (busy (h.others id v else at)))

  -- a free view may become another free one
  pub turns_set : (turn : ℕ) (homes : List (Option (Maybe T))) (views : List (View E)) (all : List E) (id : ℕ)
      (v w : View E) → StandsAt views id v → IsFree v.stage → IsFree w.stage
      → IsInTurn list pair start turn homes views all → IsInTurn list pair start turn homes (set views id w) all
  turns_set turn homes views all id v w at free_v free_w (inl home) = inl (record {
    word = home.word;
    value = home.value;
    home = home.home;
    list_is = home.list_is;
    pair_is = home.pair_is;
    free = all_set (λ _ u. IsFree u.stage) views id w (λ j u _ there. home.free j u there) free_w;
  })
  turns_set turn homes views all id v w at free_v free_w (inr (i, u, h)) =
      let else : i ≢ id = λ same. slot_taken homes u u.stage h.slot
      (subst (λ (x : View E). IsFree x.stage) (some-injective v u
      (sym at ∙ ap (get_elem? views) (sym same) ∙ h.there)) free_v) in
      inr (
        i,
        u,
        record {
          word = h.word;
          there = set_else views id i w else ∙ h.there;
          slot = h.slot;
          seen = h.seen;
          others = λ j x apart there. all_set (λ j x. j ≢ i → IsFree x.stage) views id w
              (λ j x _ was apart. h.others j x apart was) (λ _. free_w) j x there apart;
        },
      )

  turns_more : (turn : ℕ) (homes : List (Option (Maybe T))) (views : List (View E)) (all : List E) (w : View E)
      → IsFree w.stage
      → IsInTurn list pair start turn homes views all → IsInTurn list pair start turn homes (views ++ w ∷ []) all
  turns_more turn homes views all w free_w (inl home) = inl (record {
    word = home.word;
    value = home.value;
    home = home.home;
    list_is = home.list_is;
    pair_is = home.pair_is;
    free = all_more (λ _ u. IsFree u.stage) views w home.free (λ _. free_w);
  })
  turns_more turn homes views all w free_w (inr (i, u, h)) = inr (
    i,
    u,
    record {
      word = h.word;
      there = at_longer views (w ∷ []) i u h.there;
      slot = h.slot;
      seen = h.seen;
      others = λ j x apart there. all_more (λ j x. j ≢ i → IsFree x.stage) views w
          (λ j x was apart. h.others j x apart was) (λ _ _. free_w) j x there apart;
    },
  )

  -- the holder becomes free, and the value is at home
  pub turns_home : (turn : ℕ) (homes : List (Option (Maybe T))) (views : List (View E)) (before all : List E) (id : ℕ)
      (v w : View E) → HeldBy list pair turn homes views before id v
      → (value : T) (now : List (Option (Maybe T))) → now ≡ some (Some value) ∷ [] → list value ≡ all
      → pair value ≡ pair start → IsFree w.stage → IsInTurn list pair start 0 now (set views id w) all
  turns_home turn homes views before all id v w h value now home list_is pair_is free_w = inl (record {
    word = refl;
    value = value;
    home = home;
    list_is = list_is;
    pair_is = pair_is;
    free = all_set (λ _ u. IsFree u.stage) views id w (λ j u apart there. h.others j u apart there) free_w;
  })

  -- a view has the turn that was nobody's or its own
  pub turns_held : (homes : List (Option (Maybe T))) (views : List (View E)) (all : List E) (id : ℕ) (v w : View E)
      → StandsAt views id v → SlotAt list pair homes w w.stage → w.seen ≡ all
      → ((j : ℕ) (u : View E) → j ≢ id → StandsAt views j u → IsFree u.stage)
      → IsInTurn list pair start 1 homes (set views id w) all
  turns_held homes views all id v w at slot seen others = inr (
    id,
    w,
    record {
      word = refl;
      there = set_there views id v w at;
      slot = slot;
      seen = seen;
      others = λ j u apart there. all_set (λ j u. j ≢ id → IsFree u.stage) views id w
          (λ j u _ was apart. others j u apart was) (λ apart. absurd (apart refl)) j u there apart;
    },
  )

  -- the numbers stay apart where a view keeps its own, or has none
  pub apart_same : (views : List (View E)) (id : ℕ) (v w : View E) → StandsAt views id v
      → (w.numbered ≡ true → (v.numbered ≡ true) × (v.number ≡ w.number)) → Apart views → Apart (set views id w)
  apart_same views id v w at same apart =
      apart_set views id w apart (λ j u else there nw nu e. else
      (apart j id u v there at nu (same nw).0 (e ∙ sym (same nw).1)))

  pub kept_set : (turn drawn turn' drawn' : ℕ) (homes homes' : List (Option (Maybe T))) (views : List (View E))
      (all all' : List E) (id : ℕ) (w : View E)
      → KeptAt list pair caller start most turn drawn homes views all
      → IsInTurn list pair start turn' homes' (set views id w) all' → drawn' ≤ most
      → All (λ e. caller e < drawn') (drop (length (list start)) all')
      → ((j : ℕ) (u : View E) → j ≢ id → StandsAt views j u → Known list pair caller start most drawn all u
      → Known list pair caller start most drawn' all' u)
      → (w.stage ≢ Gone → Known list pair caller start most drawn' all' w) → (w.stage ≡ Gone → w.numbered ≡ false)
      → Apart (set views id w)
      → ((number : ℕ) → number < drawn' → IsDrawnBy (set views id w) number)
      → KeptAt list pair caller start most turn' drawn' homes' (set views id w) all'
  kept_set turn drawn turn' drawn' homes homes' views all all' id w k turns bound entries others mine bare apart
      drawn_by = record {
        turns = turns;
        bound = bound;
        entries = entries;
        known = all_set (λ _ u. u.stage ≢ Gone → Known list pair caller start most drawn' all' u) views id w
            (λ j u else there live. others j u else there (k.known j u there live)) mine;
        gone = all_set (λ _ u. u.stage ≡ Gone → u.numbered ≡ false) views id w (λ j u _ there. k.gone j u there) bare;
        apart = apart;
        drawn_by = drawn_by;
      }

  -- a free view learns something
  pub kept_free : (turn drawn : ℕ) (homes : List (Option (Maybe T))) (views : List (View E)) (all : List E) (id : ℕ)
      (v w : View E)
      → KeptAt list pair caller start most turn drawn homes views all → StandsAt views id v → IsFree v.stage
      → IsFree w.stage
      → (w.stage ≢ Gone → Known list pair caller start most drawn all w) → (w.stage ≡ Gone → w.numbered ≡ false)
      → (w.numbered ≡ true → (v.numbered ≡ true) × (v.number ≡ w.number))
      → ((number : ℕ) → number < drawn → IsDrawnBy (set views id w) number)
      → KeptAt list pair caller start most turn drawn homes (set views id w) all
  kept_free turn drawn homes views all id v w k at free_v free_w mine bare same drawn_by =
      kept_set turn drawn turn drawn homes homes views all all id w k
      (turns_set turn homes views all id v w at free_v free_w k.turns)
      k.bound k.entries (λ _ _ _ _ known. known) mine bare
      (apart_same views id v w at same k.apart)
      drawn_by

  -- a free view more, with no number
  pub kept_more : (turn drawn : ℕ) (homes : List (Option (Maybe T))) (views : List (View E)) (all : List E) (w : View E)
      → KeptAt list pair caller start most turn drawn homes views all → IsFree w.stage
      → Known list pair caller start most drawn all w → w.numbered ≡ false
      → KeptAt list pair caller start most turn drawn homes (views ++ w ∷ []) all
  kept_more turn drawn homes views all w k free_w mine bare = record {
    turns = turns_more turn homes views all w free_w k.turns;
    bound = k.bound;
    entries = k.entries;
    known = all_more (λ _ u. u.stage ≢ Gone → Known list pair caller start most drawn all u) views w k.known
        (λ _ _. mine);
    gone = all_more (λ _ u. u.stage ≡ Gone → u.numbered ≡ false) views w k.gone (λ _ _. bare);
    apart = apart_more views w k.apart bare;
    drawn_by = λ number lt. let h = k.drawn_by number lt in (h.0, h.1, at_longer views (w ∷ []) h.0 h.1 h.2, h.3);
  }
