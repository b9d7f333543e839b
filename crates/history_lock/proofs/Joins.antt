-- A seat that is cut in two, and two that become one.
use Rattle.std.proofs.Common.{◌≡◌, ◌≢◌, ℕ, max, true≢false, true, ◌<◌, ◌≤◌, List, [], ◌∷◌, ◌++◌, length, drop, set, refl, sym, ◌∙◌, subst}
use Rattle.std.proofs.Common.{◌⊎◌, ⊎_elim, inl, inr, arith}
use Rattle.std.specs.List.{Contains}
use Rattle.std.specs.Prelude.{All, map}
use mathlib.Core.Bool.{cond}
use Rattle.std.proofs.lemmas.List.{map-append}
use Rattle.std.proofs.lemmas.List.Elements.{All-nil, All-cons, All-append, Contains-append_left, Contains-append_right, Contains-append_cases}
use Rattle.std.proofs.Math.Nat.{le-max_left, le-max_right, max-le}
use Rattle.atomic_table.specs.Table.{Splits, Joins}
use Rattle.atomic_table.proofs.Lists.{at_set}
use Rattle.history_lock.specs.declared.view.View.{View}
use Rattle.history_lock.specs.declared.view.Stage.TheVariants.{Away}
use Rattle.history_lock.specs.declared.view.Drawing.{Drawing}
use Rattle.history_lock.specs.declared.view.Drawing.TheVariants.{Alone, Shared, Never}
use Rattle.history_lock.specs.History.{NoneOf, AreSilent}
use Rattle.history_lock.specs.Rule.{StandsAt, own_number, numbers_of, Apart, AreRetired, Known, KeptAt, Kept}
use Rattle.history_lock.specs.Steps.{idle, sharing, copy_of, joined, noted, returned, gone}
use Rattle.history_lock.proofs.Histories.{starts_through, starts_shorter, by_length, All-drop_more, All-drop_front}
use Rattle.history_lock.proofs.Histories.{nothing_behind}
use Rattle.history_lock.proofs.Kept.{below_more, kept_free, kept_more, drawn_set, drawn_join}
use Rattle.history_lock.proofs.Views.{all_set, set_twice, retired_set, retired_same, retired_more}
use Rattle.history_lock.proofs.Views.{drawers_handed, drawers_joined}
use Rattle.history_lock.proofs.Turns.{away_free, away_live}

module _ {T E : Type 0} (list : T → List E) (pair : T → ℕ × ℕ) (caller : E → ℕ) (start : T) (most : ℕ) where
  -- a copy with no number is made, and this right to draw numbers is left, and that one handed to the copy
  cuts : (id : ℕ) (v : View E) (left right : Drawing) → v.stage ≡ Away → left ≢ Alone
      → (left ≢ Never → v.drawing ≢ Never) → (right ≡ Alone → v.drawing ≡ Alone)
      → (right ≢ Never → v.drawing ≢ Never) → (right ≡ Alone → left ≡ Never)
      → Splits (Kept list pair caller start most) id v (record v { drawing = left })
      (record (copy_of v) { drawing = right })
  cuts id v left right away not_alone left_draws alone draws apart s k at =
      let m = k.kept.known id v at (away_live away) in
      let w : View E = record v { drawing = left } in
      record {
        turn = k.turn;
        drawn = k.drawn;
        sleepers = k.sleepers;
        all = k.all;
        words = k.words;
        kept = kept_more list pair caller start most k.turn k.drawn s.homes (set s.views id w) k.all
            (record (copy_of v) { drawing = right })
            (kept_free list pair caller start most k.turn k.drawn s.homes s.views k.all id v w k.kept at
            (away_free away) (away_free away)
            (λ _. record {
              seen = m.seen;
              heard = m.heard;
              begun = m.begun;
              start_is = m.start_is;
              pair_is = m.pair_is;
              most_is = m.most_is;
              counted = m.counted;
              exact = λ a. absurd (not_alone a);
              below = m.below;
              given = m.given;
              own = m.own;
              others = m.others;
              done = m.done;
            })
            (λ g. absurd (away_live away g))
            (λ numbered. (numbered, refl))
            (λ n lt. drawn_set s.views id v w n at (λ has. has) (k.kept.drawn_by n lt)))
            tt
            (record {
              seen = m.seen;
              heard = m.heard;
              begun = m.begun;
              start_is = m.start_is;
              pair_is = m.pair_is;
              most_is = m.most_is;
              counted = m.counted;
              exact = λ a. m.exact (alone a);
              below = m.below;
              given = tt;
              own = λ numbered. absurd (true≢false (sym numbered));
              others = λ numbered. absurd (true≢false (sym numbered));
              done = All-nil (λ m. NoneOf caller m.0 (drop m.1 k.all));
            })
            refl;
        retired = retired_more k.drawn (set s.views id w) (record (copy_of v) { drawing = right })
            (retired_same k.drawn s.views id v w at (λ numbered. (numbered, refl)) refl k.retired) refl refl;
        one_draws = drawers_handed s.views id v w (record (copy_of v) { drawing = right }) at k.one_draws alone draws
            not_alone left_draws (λ a d. d (apart a));
      }

  pub hands : (id : ℕ) (v : View E) → v.stage ≡ Away
      → Splits (Kept list pair caller start most) id v (idle v) (copy_of v)
  hands id v away = cuts id v Never v.drawing away (λ e. let h : Never ≡ Alone = e in cc) (λ d. absurd (d refl))
      (λ a. a) (λ d. d) (λ _. refl)

  pub shares : (id : ℕ) (v : View E) → v.stage ≡ Away → v.drawing ≢ Never
      → Splits (Kept list pair caller start most) id v (sharing v) (sharing (copy_of v))
  shares id v away draws = cuts id v Shared Shared away (λ e. let h : Shared ≡ Alone = e in cc) (λ _. draws)
      (λ a. absurd (let h : Shared ≡ Alone = a in cc)) (λ _. draws) (λ a. absurd (let h : Shared ≡ Alone = a in cc))

  -- where one view is gone and another took it in, retired numbers stay so, and that of the one that is gone is one
  retired_join : (drawn : ℕ) (views : List (View E)) (id : ℕ) (v : View E) (other : ℕ) (w u : View E)
      → AreRetired drawn views → Apart views → StandsAt views id v → StandsAt views other w → other ≢ id
      → u.numbered ≡ v.numbered → u.number ≡ v.number → (w.numbered ≡ true → w.number < drawn)
      → ((P : ℕ × ℕ → Type 0) → All P v.met → All P w.met → (w.numbered ≡ true → P (w.number, length w.seen))
      → All P u.met)
      → AreRetired drawn (set (set views id u) other gone)
  retired_join drawn views id v other w u retired apart at w_at else numbered number below met =
      let without : AreRetired drawn (set views other gone) =
      retired_set drawn drawn views other gone (omega arith) retired (All-nil (λ m. m.0 < drawn))
      (λ j x _ _ _. All-nil (λ m. m.0 ≢ x.number)) (λ j x _ _ n. absurd (true≢false (sym n)))
      (λ n. absurd (true≢false (sym n))) in
      subst (AreRetired drawn) (set_twice views other id gone u else)
      (retired_set drawn drawn (set views other gone) id u (omega arith) without
      (met (λ m. m.0 < drawn) (retired.below id v at) (retired.below other w w_at) below)
      (λ j x j_else there nx.
      all_set (λ j x. j ≢ id → x.numbered ≡ true → All (λ m. m.0 ≢ x.number) u.met) views other gone
      (λ j x j_other was j_else nx. met (λ m. m.0 ≢ x.number) (retired.nobodys j id x v was at nx)
      (retired.nobodys j other x w was w_at nx)
      (λ nw same. j_other (apart j other x w was w_at nx nw (sym same))))
      (λ _ n. absurd (true≢false (sym n))) j x there j_else nx)
      (λ j x j_else there nu.
      all_set (λ j x. All (λ m. m.0 ≢ u.number) x.met) views other gone
      (λ j x _ was. subst (λ n. All (λ m. m.0 ≢ n) x.met) (sym number)
      (retired.nobodys id j v x at was (sym numbered ∙ nu)))
      (All-nil (λ m. m.0 ≢ u.number)) j x there)
      (λ nu. subst (λ n. All (λ m. m.0 ≢ n) u.met) (sym number)
      (met (λ m. m.0 ≢ v.number) (retired.nobodys id id v v at at (sym numbered ∙ nu))
      (retired.nobodys id other v w at w_at (sym numbered ∙ nu))
      (λ nw same. else (apart other id w v w_at at nw (sym numbered ∙ nu) same)))))

  -- a view takes in another's knowledge under its own number
  joins : (id : ℕ) (v : View E) (other : ℕ) (w u : View E) → v.stage ≡ Away → w.stage ≡ Away → u.stage ≡ Away
      → u.numbered ≡ v.numbered → u.number ≡ v.number → (u.drawing ≡ v.drawing) ⊎ (u.drawing ≡ w.drawing)
      → ((number : ℕ) → Contains (numbers_of v) number → Contains (numbers_of u) number)
      → ((number : ℕ) → Contains (numbers_of w) number → Contains (numbers_of u) number)
      → ((P : ℕ × ℕ → Type 0) → All P v.met → All P w.met → (w.numbered ≡ true → P (w.number, length w.seen))
      → All P u.met)
      → ((drawn : ℕ) (all : List E) → Known list pair caller start most drawn all v
      → Known list pair caller start most drawn all w → Known list pair caller start most drawn all u)
      → Joins (Kept list pair caller start most) id v other w u gone
  joins id v other w u v_away w_away u_away numbered number draws mine theirs met both s k at else there =
      let w_at : StandsAt s.views other w = ⊎_elim (λ (t : (other ≡ id) × (u ≡ w)). absurd (else t.0)) (λ
      (t : (other ≢ id) × StandsAt s.views other w). t.1) (at_set s.views id other u w there) in
      let joined_views : KeptAt list pair caller start most k.turn k.drawn s.homes (set s.views id u) k.all =
      kept_free list pair caller start most k.turn k.drawn s.homes s.views k.all id v u k.kept at (away_free v_away)
      (away_free u_away)
      (λ _. both k.drawn k.all (k.kept.known id v at (away_live v_away)) (k.kept.known other w w_at (away_live w_away)))
      (λ g. absurd (away_live u_away g))
      (λ n. (sym numbered ∙ n, sym number))
      (λ n lt. drawn_set s.views id v u n at (mine n) (k.kept.drawn_by n lt)) in
      record {
        turn = k.turn;
        drawn = k.drawn;
        sleepers = k.sleepers;
        all = k.all;
        words = k.words;
        kept = kept_free list pair caller start most k.turn k.drawn s.homes
            (set s.views id u) k.all other w gone joined_views there (away_free w_away) tt
            (λ live. absurd (live refl))
            (λ _. refl)
            (λ n. absurd (true≢false (sym n)))
            (λ n lt. drawn_join s.views id other v w u gone n at else there (theirs n) (joined_views.drawn_by n lt));
        retired = retired_join k.drawn s.views id v other w u k.retired k.kept.apart at w_at else numbered number
            (λ n. let m = k.kept.known other w w_at (away_live w_away) in let b = m.below in let c = m.counted in
            omega arith)
            met;
        one_draws = drawers_joined s.views id v other w u gone at w_at else refl draws k.one_draws;
      }

  -- of two counts of which one is exact it is the greater
  most_known : (m n drawn : ℕ) → m ≡ drawn → n ≤ drawn → max m n ≡ drawn
  most_known m n drawn exact le =
      let left = le-max_left m n in
      let both : max m n ≤ drawn = max-le (omega arith) le in
      omega arith

  -- those that the other has are among those that were taken in
  joined_met : (v w : View E) → map (λ m. m.0) (joined v w).met ≡ map (λ m. m.0) v.met
      ++ w.number ∷ map (λ m. m.0) w.met
  joined_met v w = map-append (λ m. m.0) v.met ((w.number, length w.seen) ∷ w.met)

  numbers_kept : (v w : View E) (n : ℕ) → Contains (numbers_of v) n → Contains (numbers_of (joined v w)) n
  numbers_kept v w n has = subst (λ met. Contains (own_number v ++ met) n) (sym (joined_met v w)) (⊎_elim
      (λ own. Contains-append_left (own_number v) (map (λ m. m.0) v.met ++ w.number ∷ map (λ m. m.0) w.met) n own)
      (λ met. Contains-append_right (own_number v) (map (λ m. m.0) v.met ++ w.number ∷ map (λ m. m.0) w.met) n
      (Contains-append_left (map (λ m. m.0) v.met) (w.number ∷ map (λ m. m.0) w.met) n met))
      (Contains-append_cases (own_number v) (map (λ m. m.0) v.met) n has))

  numbers_added : (v w : View E) (n : ℕ) → w.numbered ≡ true → Contains (numbers_of w) n
      → Contains (numbers_of (joined v w)) n
  numbers_added v w n numbered has = subst (λ met. Contains (own_number v ++ met) n) (sym (joined_met v w))
      (Contains-append_right (own_number v) (map (λ m. m.0) v.met ++ w.number ∷ map (λ m. m.0) w.met) n
      (Contains-append_right (map (λ m. m.0) v.met) (w.number ∷ map (λ m. m.0) w.met) n
      (subst (λ b. Contains (cond b (w.number ∷ []) [] ++ map (λ m. m.0) w.met) n) numbered has)))

  joined_all : (v w : View E) → w.numbered ≡ true → (P : ℕ × ℕ → Type 0) → All P v.met → All P w.met
      → (w.numbered ≡ true → P (w.number, length w.seen)) → All P (joined v w).met
  joined_all v w numbered P mine theirs own =
      All-append P v.met ((w.number, length w.seen) ∷ w.met) mine
      (All-cons P (w.number, length w.seen) w.met (own numbered) theirs)

  pub hears : (id : ℕ) (v : View E) (other : ℕ) (w : View E) → v.stage ≡ Away → w.stage ≡ Away → w.numbered ≡ true
      → Joins (Kept list pair caller start most) id v other w (joined v w) gone
  hears id v other w v_away w_away w_numbered =
      joins id v other w (joined v w) v_away w_away v_away refl refl (inl refl) (numbers_kept v w)
      (λ n has. numbers_added v w n w_numbered has) (joined_all v w w_numbered)
      (λ drawn all m n.
      let below = m.below in
      let done : AreSilent caller (joined v w).met all =
      joined_all v w w_numbered (λ x. NoneOf caller x.0 (drop x.1 all)) m.done n.done n.own in
      let left = le-max_left v.count w.count in
      by_length (λ more less. Known list pair caller start most drawn all
      (record v {
        met = v.met ++ (w.number, length w.seen) ∷ w.met;
        seen = more;
        mine = v.seen;
        heard = less;
        count = max v.count w.count;
      })) v.seen w.seen
      (λ le. record {
        seen = n.seen;
        heard = starts_shorter all w.seen v.seen n.seen m.seen le;
        begun = starts_through w.seen v.seen v.start (starts_shorter all w.seen v.seen n.seen m.seen le) m.begun;
        start_is = m.start_is;
        pair_is = m.pair_is;
        most_is = m.most_is;
        counted = max-le m.counted n.counted;
        exact = λ a. most_known v.count w.count drawn (m.exact a) n.counted;
        below = omega arith;
        given = below_more v.given v.count (max v.count w.count) left m.given;
        own = λ numbered. All-drop_more (λ e. caller e ≢ v.number) (length v.seen) (length w.seen) all le
            (m.own numbered);
        others = λ numbered. All-drop_front (λ e. caller e ≢ v.number) (length v.seen) w.seen n.seen.0
            (subst (λ l. NoneOf caller v.number (drop (length v.seen) l)) n.seen.1 (m.own numbered));
        done = done;
      })
      (λ le. record {
        seen = m.seen;
        heard = starts_shorter all v.seen w.seen m.seen n.seen le;
        begun = m.begun;
        start_is = m.start_is;
        pair_is = m.pair_is;
        most_is = m.most_is;
        counted = max-le m.counted n.counted;
        exact = λ a. most_known v.count w.count drawn (m.exact a) n.counted;
        below = omega arith;
        given = below_more v.given v.count (max v.count w.count) left m.given;
        own = m.own;
        others = λ _. nothing_behind (λ e. caller e ≢ v.number) v.seen;
        done = done;
      }))

  pub notes : (id : ℕ) (v : View E) (other : ℕ) (w : View E) → v.stage ≡ Away → w.stage ≡ Away → numbers_of w ≡ []
      → Joins (Kept list pair caller start most) id v other w (noted v w) gone
  notes id v other w v_away w_away nothing =
      joins id v other w (noted v w) v_away w_away v_away refl refl (inr refl) (λ n has. has)
      (λ n has. absurd (let none = subst (λ numbers. Contains numbers n) nothing has in let lt = none.1 in omega arith))
      (λ P mine _ _. mine)
      (λ drawn all m n.
      let below = m.below in
      let w_below = n.below in
      let left = le-max_left v.count w.count in
      let right = le-max_right v.count w.count in
      record {
        seen = m.seen;
        heard = m.heard;
        begun = m.begun;
        start_is = m.start_is;
        pair_is = m.pair_is;
        most_is = m.most_is;
        counted = max-le m.counted n.counted;
        exact = λ a. let other = n.exact a in let both = max-le m.counted n.counted in omega arith;
        below = omega arith;
        given = omega arith;
        own = m.own;
        others = m.others;
        done = m.done;
      })

  pub returns : (id : ℕ) (v : View E) (other : ℕ) (w : View E) → v.stage ≡ Away → w.stage ≡ Away → numbers_of w ≡ []
      → Joins (Kept list pair caller start most) id v other w (returned v w) gone
  returns id v other w v_away w_away nothing =
      joins id v other w (returned v w) v_away w_away v_away refl refl (inr refl) (λ n has. has)
      (λ n has. absurd (let none = subst (λ numbers. Contains numbers n) nothing has in let lt = none.1 in omega arith))
      (λ P mine _ _. mine)
      (λ drawn all m n.
      let below = m.below in
      let w_below = n.below in
      let left = le-max_left v.count w.count in
      let right = le-max_right v.count w.count in
      record {
        seen = m.seen;
        heard = m.heard;
        begun = m.begun;
        start_is = m.start_is;
        pair_is = m.pair_is;
        most_is = m.most_is;
        counted = max-le m.counted n.counted;
        exact = λ a. let other = n.exact a in let both = max-le m.counted n.counted in omega arith;
        below = omega arith;
        given = below_more v.given v.count (max v.count w.count) left m.given;
        own = m.own;
        others = m.others;
        done = m.done;
      })
