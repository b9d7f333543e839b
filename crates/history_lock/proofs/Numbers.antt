-- The steps that read the count of drawn numbers, and draw one.
use Rattle.std.proofs.Common.{◌≡◌, ◌≢◌, ℕ, ◌+◌, ◌<◌, ◌≤◌, true, false, true≢false, List, [], ◌∷◌, ◌++◌, length, drop}
use Rattle.std.proofs.Common.{set, Option as Maybe, refl, sym, ap, ◌∙◌, subst, arith}
use Rattle.std.specs.Prelude.{All, slice_index, slice_set, map, ◌==◌}
use Rattle.std.specs.List.{Contains}
use mathlib.Core.Logic.{dite}
use mathlib.Core.Bool.{cond}
use native.Mathlib.Decide.{ℕ_discrete}
use prog.Atomic.{either}
use Rattle.std.proofs.lemmas.List.Elements.{All-weaker, Contains-append_left, Contains-append_right}
use Rattle.std.proofs.lemmas.List.Prefix.{front_fits}
use Rattle.atomic_table.specs.Table.{State, Act, keeps, Valid, Allows, stepped, carried_after}
use Rattle.atomic_table.proofs.Lists.{exchanged}
use Rattle.history_lock.specs.declared.view.View.{View}
use Rattle.history_lock.specs.declared.view.Stage.TheVariants.{Away}
use Rattle.history_lock.specs.declared.view.Drawing.TheVariants.{Never}
use Rattle.history_lock.specs.History.{NoneOf}
use Rattle.history_lock.specs.Rule.{StandsAt, IsDrawnBy, AreRetired, KeptAt, Kept}
use Rattle.history_lock.specs.Steps.{Counted, Drew}
use Rattle.history_lock.proofs.Histories.{All-drop_front, All-drop_more, nothing_behind}
use Rattle.history_lock.proofs.Views.{apart_set, set_there, retired_set, retired_same, drawers_same}
use Rattle.history_lock.proofs.Kept.{below_more, turns_set, kept_set, kept_free, drawn_set}
use Rattle.history_lock.proofs.Turns.{away_free, away_live, stays}

module _ {T E : Type 0} (list : T → List E) (pair : T → ℕ × ℕ) (caller : E → ℕ) (start : T) (most : ℕ) where
  drawn_word : (s : State (Maybe T) (View E)) (k : Kept list pair caller start most s) → slice_index s.words 1 ≡ k.drawn
  drawn_word s k = ap (λ ws. slice_index ws 1) k.words

  pub counts : (slots id : ℕ) (v : View E) (c : List (ℕ × Maybe T)) → v.stage ≡ Away
      → Allows (Kept list pair caller start most) slots id (v, c) 1 (λ n. n) (Counted (v, c))
  counts slots id v c away s k len at fits =
      let n : ℕ = slice_index s.words 1 in
      let n_is : n ≡ k.drawn = drawn_word s k in
      let m = k.kept.known id v at (away_live away) in
      let counted = m.counted in
      let below = m.below in
      let bound = k.kept.bound in
      let most_is = m.most_is in
      let w : View E = record v { count = n } in (
        w,
        keeps,
        tt,
        record {
          turn = k.turn;
          drawn = k.drawn;
          sleepers = k.sleepers;
          all = k.all;
          words = ap (λ ws. slice_set ws 1 (slice_index ws 1)) k.words;
          kept = kept_free list pair caller start most k.turn k.drawn s.homes s.views k.all id v w k.kept at
              (away_free away) (away_free away)
              (λ _. record {
                seen = m.seen;
                heard = m.heard;
                begun = m.begun;
                start_is = m.start_is;
                pair_is = m.pair_is;
                most_is = m.most_is;
                counted = omega arith;
                exact = λ _. n_is;
                below = omega arith;
                given = below_more v.given v.count n (omega arith) m.given;
                own = m.own;
                others = m.others;
                done = m.done;
              })
              (λ g. absurd (away_live away g))
              (λ numbered. (numbered, refl))
              (λ number lt. drawn_set s.views id v w number at (λ has. has) (k.kept.drawn_by number lt));
          retired = retired_same k.drawn s.views id v w at (λ numbered. (numbered, refl)) refl k.retired;
          one_draws = drawers_same s.views id v w at (λ a. a) (λ d. d) k.one_draws;
        },
        (
          refl,
          omega arith,
          omega arith,
          omega arith,
          below_more v.given v.count n (omega arith) m.given,
          λ a. n_is ∙ sym (m.exact a),
        ),
      )

  -- the number that is drawn is the view's, and each lower one some view's
  drawn_now : (views : List (View E)) (id : ℕ) (v : View E) (n number : ℕ) → StandsAt views id v → v.numbered ≡ false
      → (number < n → IsDrawnBy views number) → number < n + 1
      → IsDrawnBy (set views id (record v { numbered = true; number = n; mine = v.seen; count = n + 1 })) number
  drawn_now views id v n number at bare before lt =
      let w : View E = record v { numbered = true; number = n; mine = v.seen; count = n + 1 } in
      dite (ℕ_discrete number n)
      (λ (same : number ≡ n). (
        id,
        w,
        set_there views id v w at,
        Contains-append_left (n ∷ []) (map (λ m. m.0) v.met) number (0, omega arith, sym same),
      ))
      (λ (else : number ≢ n). drawn_set views id v w number at
      (λ has. Contains-append_right (n ∷ []) (map (λ m. m.0) v.met) number
      (subst (λ b. Contains (cond b (v.number ∷ []) [] ++ map (λ m. m.0) v.met) number) bare has))
      (before (omega arith)))

  drawer : (slots id : ℕ) (v : View E) (c : List (ℕ × Maybe T)) (s : State (Maybe T) (View E))
      (k : Kept list pair caller start most s) (n : ℕ) → StandsAt s.views id v → v.stage ≡ Away → v.numbered ≡ false
      → v.drawing ≢ Never → k.drawn ≡ n → n < v.most
      → KeptAt list pair caller start most k.turn (n + 1) s.homes
      (set s.views id (record v { numbered = true; number = n; mine = v.seen; count = n + 1 })) k.all
      × NoneOf caller n (drop (length v.start) v.seen)
  drawer slots id v c s k n at away bare draws n_is room =
      let m = k.kept.known id v at (away_live away) in
      let counted = m.counted in
      let most_is = m.most_is in
      let w : View E = record v { numbered = true; number = n; mine = v.seen; count = n + 1 } in
      let long : length v.start ≤ length v.seen = front_fits v.seen v.start m.begun.0 m.begun.1 in
      let drawn : All (λ e. caller e < n) (drop (length v.start) k.all) =
      subst (λ l. All (λ e. caller e < n) (drop (length l) k.all)) (sym m.start_is)
      (subst (λ d. All (λ e. caller e < d) (drop (length (list start)) k.all)) n_is k.kept.entries) in
      let unused : NoneOf caller n (drop (length v.start) k.all) =
      All-weaker (λ e. caller e < n) (λ e. caller e ≢ n) (λ e lt same. omega arith)
      (drop (length v.start) k.all) drawn in (
        kept_set list pair caller start most k.turn k.drawn k.turn
            (n + 1) s.homes s.homes s.views k.all k.all id w k.kept
            (turns_set list pair caller start most k.turn s.homes s.views k.all id v w at (away_free away)
            (away_free away) k.kept.turns)
            (omega arith)
            (All-weaker (λ e. caller e < k.drawn) (λ e. caller e < n + 1) (λ e lt. omega arith)
            (drop (length (list start)) k.all) k.kept.entries)
            (λ j u else there u_knows. record {
              seen = u_knows.seen;
              heard = u_knows.heard;
              begun = u_knows.begun;
              start_is = u_knows.start_is;
              pair_is = u_knows.pair_is;
              most_is = u_knows.most_is;
              counted = let h = u_knows.counted in omega arith;
              exact = λ a. absurd (else (k.one_draws j id u v there at a draws));
              below = u_knows.below;
              given = u_knows.given;
              own = u_knows.own;
              others = u_knows.others;
              done = u_knows.done;
            })
            (λ _. record {
              seen = m.seen;
              heard = m.heard;
              begun = m.begun;
              start_is = m.start_is;
              pair_is = m.pair_is;
              most_is = m.most_is;
              counted = omega arith;
              exact = λ _. refl;
              below = omega arith;
              given = below_more v.given v.count (n + 1) (omega arith) m.given;
              own = λ _. All-drop_more (λ e. caller e ≢ n) (length v.start) (length v.seen) k.all long unused;
              others = λ _. nothing_behind (λ e. caller e ≢ n) v.seen;
              done = m.done;
            })
            (λ g. absurd (away_live away g))
            (apart_set s.views id w k.kept.apart
            (λ j u else there _ nu same.
            let u_knows = k.kept.known j u there (λ g. true≢false (sym nu ∙ k.kept.gone j u there g)) in
            let h = u_knows.counted in
            let b = u_knows.below in
            omega arith))
            (λ number lt. drawn_now s.views id v n number at bare (λ below. k.kept.drawn_by number (omega arith)) lt),
        All-drop_front (λ e. caller e ≢ n) (length v.start) v.seen m.seen.0
            (subst (λ l. NoneOf caller n (drop (length v.start) l)) m.seen.1 unused),
      )

  -- no pass that was taken in has the number that is drawn
  newly_drawn : (s : State (Maybe T) (View E)) (k : Kept list pair caller start most s) (n id : ℕ) (v : View E)
      → StandsAt s.views id v → k.drawn ≡ n
      → AreRetired (n + 1) (set s.views id (record v { numbered = true; number = n; mine = v.seen; count = n + 1 }))
  newly_drawn s k n id v at n_is =
      retired_set k.drawn (n + 1) s.views id (record v { numbered = true; number = n; mine = v.seen; count = n + 1 })
      (omega arith) k.retired
      (All-weaker (λ m. m.0 < k.drawn) (λ m. m.0 < n + 1) (λ m lt. omega arith) v.met (k.retired.below id v at))
      (λ j u _ there nu. k.retired.nobodys j id u v there at nu)
      (λ j u _ there _. new u (k.retired.below j u there))
      (λ _. new v (k.retired.below id v at))
    where
      new : (u : View E) → All (λ m. m.0 < k.drawn) u.met → All (λ m. m.0 ≢ n) u.met
      new u = All-weaker (λ m. m.0 < k.drawn) (λ m. m.0 ≢ n) (λ m lt same. omega arith) u.met

  pub draws : (slots id : ℕ) (v : View E) (c : List (ℕ × Maybe T)) (n : ℕ) → v.stage ≡ Away → v.numbered ≡ false
      → v.drawing ≢ Never → n < v.most
      → Allows (Kept list pair caller start most) slots id (v, c) 1 (λ m. either (m == n) (n + 1) m)
      (Drew caller n (n + 1) (v, c))
  draws slots id v c n away bare may room s k len at fits =
      exchanged (slice_index s.words 1) n (n + 1)
      (λ m. (w : View E) × (a : Act (Maybe T)) × Valid s.homes c a
      × Kept list pair caller start most (stepped s 1 m id c w a)
      × Drew caller n (n + 1) (v, c) (slice_index s.words 1) (w, carried_after c a))
      (λ hit.
      let drawn = drawer slots id v c s k n at away bare may (sym (drawn_word s k) ∙ hit) room in (
        record v { numbered = true; number = n; mine = v.seen; count = n + 1 },
        keeps,
        tt,
        record {
          turn = k.turn;
          drawn = n + 1;
          sleepers = k.sleepers;
          all = k.all;
          words = ap (λ ws. slice_set ws 1 (n + 1)) k.words;
          kept = drawn.0;
          retired = newly_drawn s k n id v at (sym (drawn_word s k) ∙ hit);
          one_draws = drawers_same s.views id v
              (record v { numbered = true; number = n; mine = v.seen; count = n + 1 }) at (λ a. a) (λ d. d) k.one_draws;
        },
        ((λ _. (refl, refl, drawn.1)), (λ miss. absurd (miss hit))),
      ))
      (λ miss. (
        v,
        keeps,
        tt,
        stays list pair caller start most s (slice_set s.words 1 (slice_index s.words 1)) id v at k k.sleepers
            (ap (λ ws. slice_set ws 1 (slice_index ws 1)) k.words),
        ((λ hit. absurd (miss hit)), (λ _. refl)),
      ))
