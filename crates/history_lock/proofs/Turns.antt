-- The steps that open the lock, try for the turn, give it back and make ready for the close.
use Rattle.std.proofs.Common.{◌≡◌, ◌≢◌, ℕ, zero, suc, ◌<◌, true, List, [], ◌∷◌, ◌++◌, length, drop, set}
use Rattle.std.proofs.Common.{Option as Maybe, Some, None, refl, sym, ap, ◌∙◌, subst, ⊎_elim, inl, inr, arith, rules}
use Rattle.std.specs.Prelude.{All, slice_index, slice_set, ◌==◌, IsSome}
use Rattle.std.specs.List.{Contains}
use mathlib.Core.Option.{Option, some, none, some-injective, some-ne-none}
use lib.ListN.{get_elem?}
use prog.Atomic.{either}
use Rattle.std.proofs.lemmas.List.Elements.{All-nil, All-weaker, Contains-append_cases}
use Rattle.std.proofs.lemmas.Bool.{cases_lt}
use Rattle.std.proofs.lemmas.List.Prefix.{front_rest}
use Rattle.atomic_table.specs.Table.{State, Me, Act, keeps, takes, gives, Valid, Allows, stepped, carried_after}
use Rattle.atomic_table.specs.Table.{opening, Final, Seen}
use Rattle.atomic_table.proofs.Lists.{exchanged, set_again}
use Rattle.history_lock.specs.declared.view.View.{View}
use Rattle.history_lock.specs.declared.view.Stage.{Stage}
use Rattle.history_lock.specs.declared.view.Stage.TheVariants.{Away, Opening, Holds, Ready, Gone}
use Rattle.history_lock.specs.History.{StartsWith, NoneOf, AllOf, AreSilent}
use Rattle.history_lock.specs.Rule.{StandsAt, numbers_of, IsFree, SlotAt, IsInTurn, Known, KeptAt, Kept, opening_view}
use Rattle.history_lock.specs.Rule.{OneNumberDrawn, OneDraws, AreRetired}
use Rattle.history_lock.specs.Steps.{Stayed, Opened, Took, Left, Readied, Settled}
use Rattle.history_lock.proofs.Histories.{starts_whole, starts_nothing, All-drop_append, nothing_behind, done_grown, done_front}
use Rattle.history_lock.proofs.Kept.{known_grown, known_whole, holder, turns_home, turns_held, apart_same, kept_set}
use Rattle.history_lock.proofs.Kept.{drawn_set}
use Rattle.history_lock.proofs.Views.{retired_same, drawers_same}

pub away_free : {stage : Stage} → stage ≡ Away → IsFree stage
away_free e = subst IsFree (sym e) tt

pub away_live : {stage : Stage} → stage ≡ Away → stage ≢ Gone
away_live {stage} e g = let h : Away ≡ Gone = sym e ∙ g in cc

module _ {T E : Type 0} (list : T → List E) (pair : T → ℕ × ℕ) (caller : E → ℕ) (start : T) (most : ℕ) where
  -- a step that changes nothing but the word that counts sleepers
  pub stays : (s : State (Maybe T) (View E)) (ws : List ℕ) (id : ℕ) (v : View E) → StandsAt s.views id v
      → (k : Kept list pair caller start most s) (sleepers : ℕ) → ws ≡ k.turn ∷ k.drawn ∷ sleepers ∷ []
      → Kept list pair caller start most (record { words = ws; homes = s.homes; views = set s.views id v })
  stays s ws id v at k sleepers words = record {
    turn = k.turn;
    drawn = k.drawn;
    sleepers = sleepers;
    all = k.all;
    words = words;
    kept = subst (λ views. KeptAt list pair caller start most k.turn k.drawn s.homes views k.all)
        (sym (set_again s.views id v at)) k.kept;
    retired = subst (AreRetired k.drawn) (sym (set_again s.views id v at)) k.retired;
    one_draws = subst OneDraws (sym (set_again s.views id v at)) k.one_draws;
  }

  abbrev first : View E
  first = opening_view (list start) (pair start) most

  other_number : Contains {X = ℕ} (0 ∷ []) 1 → ⊥
  other_number (zero, lt, is) = omega arith
  other_number (suc k, lt, is) = omega arith

  at_first : (j : ℕ) (u : View E) → StandsAt (first ∷ []) j u → (j ≡ 0) × (first ≡ u)
  at_first zero u there = (refl, some-injective first u there)
  at_first (suc j) u there = absurd (some-ne-none u (sym there))

  known_first : Known list pair caller start most 1 (list start) first
  known_first = record {
    seen = starts_whole (list start);
    heard = starts_nothing (list start);
    begun = starts_whole (list start);
    start_is = refl;
    pair_is = refl;
    most_is = refl;
    counted = omega arith;
    exact = λ _. refl;
    below = omega arith;
    given = tt;
    own = λ _. nothing_behind (λ e. caller e ≢ 0) (list start);
    others = λ _. nothing_behind (λ e. caller e ≢ 0) (list start);
    done = All-nil (λ m. NoneOf caller m.0 (drop m.1 (list start)));
  }

  pub begins : 0 < most → Kept list pair caller start most (opening (1 ∷ 1 ∷ 0 ∷ []) (None ∷ [])
      (opening_view (list start) (pair start) most))
  begins positive = record {
    turn = 1;
    drawn = 1;
    sleepers = 0;
    all = list start;
    words = refl;
    kept = record {
      turns = inr (
        0,
        first,
        record {
          word = refl;
          there = refl;
          slot = refl;
          seen = refl;
          others = λ j u else there. absurd (else (at_first j u there).0);
        },
      );
      bound = omega arith;
      entries = nothing_behind (λ e. caller e < 1) (list start);
      known = λ j u there _. subst (Known list pair caller start most 1 (list start))
          (at_first j u there).1 known_first;
      gone = λ j u there is. absurd (let h : Opening ≡ Gone = ap (λ (v : View E). v.stage) (at_first j u there).1
          ∙ is in cc);
      apart = λ i j v w at_i at_j _ _ _. (at_first i v at_i).0 ∙ sym (at_first j w at_j).0;
      drawn_by = λ number lt. (0, first, refl, (0, omega arith, omega arith));
    };
    retired = record {
      below = λ j u there. subst (λ (v : View E). All (λ m. m.0 < 1) v.met) (at_first j u there).1
          (All-nil (λ m. m.0 < 1));
      nobodys = λ i j v u _ there _. subst (λ (w : View E). All (λ m. m.0 ≢ v.number) w.met) (at_first j u there).1
          (All-nil (λ m. m.0 ≢ v.number));
    };
    one_draws = λ i j v w at_i at_j _ _. (at_first i v at_i).0 ∙ sym (at_first j w at_j).0;
  }

  -- of a lock that is just made the count is above the first pass's number, and a higher number would be some other
  -- view's
  pub one_number : OneNumberDrawn list pair caller start most
  one_number turn drawn sleepers k =
      let drawn_is : drawn ≡ k.drawn = ap (λ ws. slice_index ws 1) k.words in
      let counted = (k.kept.known 0 first refl (λ g. let h : Opening ≡ Gone = g in cc)).counted in
      elim (cases_lt 1 k.drawn) [
        | inl lt ↦
            let owner = k.kept.drawn_by 1 lt in
            let has = subst (λ v. Contains (numbers_of v) 1) (sym (at_first owner.0 owner.1 owner.2).1) owner.3 in
            absurd (⊎_elim (λ own. other_number own) (λ none. let lt = none.1 in omega arith)
            (Contains-append_cases {X = ℕ} (0 ∷ []) [] 1 has))
        | inr le ↦ omega arith
      ]

  pub opens : (slots id : ℕ) (v : View E) → v.stage ≡ Opening
      → Allows (Kept list pair caller start most) slots id (v, []) 0 (λ n. n) (λ _. Opened (v, []))
  opens slots id v stage s k len at fits =
      let h = holder list pair caller start most k.turn s.homes s.views k.all k.kept.turns id v at
      (subst (λ st. IsFree st → ⊥) (sym stage) (λ f. f)) in
      let slot : s.homes ≡ some None ∷ [] = subst (SlotAt list pair s.homes v) stage h.slot in
      let w : View E = record v { stage = Holds } in (
        w,
        takes 0 None,
        ap (λ hs. get_elem? hs 0) slot,
        record {
          turn = 1;
          drawn = k.drawn;
          sleepers = k.sleepers;
          all = k.all;
          words = ap (λ ws. slice_set ws 0 (slice_index ws 0)) k.words ∙ ap (λ t. t ∷ k.drawn ∷ k.sleepers ∷ []) h.word;
          kept = kept_set list pair caller start most k.turn k.drawn 1 k.drawn s.homes
              (set s.homes 0 none) s.views k.all k.all id w k.kept
              (turns_held list pair caller start most (set s.homes 0 none) s.views k.all id v w at
              (ap (λ hs. set hs 0 none) slot) h.seen h.others)
              k.kept.bound k.kept.entries (λ _ _ _ _ known. known)
              (λ _. let m = k.kept.known id v at (λ g. let x : Opening ≡ Gone = sym stage ∙ g in cc) in
              record {
                seen = m.seen;
                heard = m.heard;
                begun = m.begun;
                start_is = m.start_is;
                pair_is = m.pair_is;
                most_is = m.most_is;
                counted = m.counted;
                exact = m.exact;
                below = m.below;
                given = m.given;
                own = m.own;
                others = m.others;
                done = m.done;
              })
              (λ g. absurd (let x : Holds ≡ Gone = g in cc))
              (apart_same list pair caller start most s.views id v w at (λ n. (n, refl)) k.kept.apart)
              (λ number lt. drawn_set s.views id v w number at (λ has. has) (k.kept.drawn_by number lt));
          retired = retired_same k.drawn s.views id v w at (λ n. (n, refl)) refl k.retired;
          one_draws = drawers_same s.views id v w at (λ a. a) (λ d. d) k.one_draws;
        },
        refl,
      )

  found_word : (s : State (Maybe T) (View E)) (k : Kept list pair caller start most s) → slice_index s.words 0 ≡ k.turn
  found_word s k = ap (λ ws. slice_index ws 0) k.words

  taken : (slots id : ℕ) (v : View E) (s : State (Maybe T) (View E)) (k : Kept list pair caller start most s)
      → StandsAt s.views id v → v.stage ≡ Away → v.numbered ≡ true → k.turn ≡ 0
      → IsInTurn list pair start k.turn s.homes s.views k.all
      → (w : View E) × (a : Act (Maybe T)) × Valid s.homes [] a
      × Kept list pair caller start most (stepped s 0 1 id [] w a)
      × Took list pair caller (v, []) (slice_index s.words 0) (w, carried_after [] a)
  taken slots id v s k at away numbered free (inr (i, u, h)) = absurd (let x = h.word in omega arith)
  taken slots id v s k at away numbered free (inl home) =
      let x = home.value in
      let w : View E = record v { stage = Holds; seen = list x; mine = list x } in
      let known = k.kept.known id v at (away_live away) in
      let done : AreSilent caller v.met (list x) = subst (AreSilent caller v.met) (sym home.list_is) known.done in
      let sees : StartsWith (list x) v.seen = (known.seen.0, home.list_is ∙ known.seen.1) in
      let entries : All (λ e. caller e < k.drawn) (drop (length (list start)) (list x)) =
      subst (λ all. All (λ e. caller e < k.drawn) (drop (length (list start)) all)) (sym home.list_is)
      k.kept.entries in (
        w,
        takes 0 (Some x),
        ap (λ hs. get_elem? hs 0) home.home,
        record {
          turn = 1;
          drawn = k.drawn;
          sleepers = k.sleepers;
          all = list x;
          words = ap (λ ws. slice_set ws 0 1) k.words;
          kept = kept_set list pair caller start most k.turn k.drawn 1 k.drawn s.homes
              (set s.homes 0 none) s.views k.all (list x) id w k.kept
              (turns_held list pair caller start most (set s.homes 0 none) s.views (list x) id v w at
              (ap (λ hs. set hs 0 none) home.home) refl (λ j u _ there. home.free j u there))
              k.kept.bound entries
              (λ j u _ there m. subst (λ all. Known list pair caller start most k.drawn all u) (sym home.list_is) m)
              (λ _. known_whole list pair caller start most k.drawn k.all (list x) v Holds sees done known)
              (λ g. absurd (let y : Holds ≡ Gone = g in cc))
              (apart_same list pair caller start most s.views id v w at (λ n. (n, refl)) k.kept.apart)
              (λ number lt. drawn_set s.views id v w number at (λ has. has) (k.kept.drawn_by number lt));
          retired = retired_same k.drawn s.views id v w at (λ n. (n, refl)) refl k.retired;
          one_draws = drawers_same s.views id v w at (λ a. a) (λ d. d) k.one_draws;
        },
        (
          (λ _. (
            x,
            refl,
            sees,
            subst (λ all. NoneOf caller v.number
                (drop (length v.seen) all)) (sym home.list_is) (known.own numbered),
            All-weaker (λ e. caller e < k.drawn) (λ e. caller e < v.most)
                (λ e below. let bound = k.kept.bound in let most_is = known.most_is in omega arith)
                (drop (length v.start) (list x))
                (subst (λ l. All (λ e. caller e < k.drawn) (drop (length l) (list x))) (sym known.start_is) entries),
            home.pair_is ∙ sym known.pair_is,
            done,
            λ a. subst (λ n. All (λ e. caller e < n) (drop (length v.start) (list x))) (sym (known.exact a))
                (subst (λ l. All (λ e. caller e < k.drawn) (drop (length l) (list x))) (sym known.start_is) entries),
          )),
          (λ else. absurd (else (found_word s k ∙ free))),
        ),
      )

  pub tries : (slots id : ℕ) (v : View E) → v.stage ≡ Away → v.numbered ≡ true
      → Allows (Kept list pair caller start most) slots id (v, []) 0 (λ n. either (n == 0) 1 n)
      (Took list pair caller (v, []))
  tries slots id v away numbered s k len at fits =
      exchanged (slice_index s.words 0) 0 1
      (λ m. (w : View E) × (a : Act (Maybe T)) × Valid s.homes [] a
      × Kept list pair caller start most (stepped s 0 m id [] w a)
      × Took list pair caller (v, []) (slice_index s.words 0) (w, carried_after [] a))
      (λ hit. taken slots id v s k at away numbered (sym (found_word s k) ∙ hit) k.kept.turns)
      (λ miss. (
        v,
        keeps,
        tt,
        stays s (slice_set s.words 0 (slice_index s.words 0)) id v at k k.sleepers
            (ap (λ ws. slice_set ws 0 (slice_index ws 0)) k.words),
        ((λ hit. absurd (miss hit)), (λ _. refl)),
      ))

  -- the holder has added entries of its own to the list that it saw, of which no one is that was taken in
  done_left : (drawn : ℕ) (views : List (View E)) (all : List E) (id : ℕ) (v : View E) (x : T) → AreRetired drawn views
      → StandsAt views id v → v.numbered ≡ true → v.seen ≡ all → StartsWith (list x) v.seen
      → AllOf caller v.number (drop (length v.seen) (list x)) → (j : ℕ) (u : View E) → StandsAt views j u
      → AreSilent caller u.met all → AreSilent caller u.met (list x)
  done_left drawn views all id v x retired at numbered seen longer own j u there done =
      subst (AreSilent caller u.met) (sym (longer.1 ∙ ap (λ l. l ++ longer.0) seen))
      (done_grown caller u.met all longer.0 v.number
      (subst (AllOf caller v.number) (front_rest (list x) v.seen longer.0 longer.1) own)
      (retired.nobodys id j v u at there numbered) done)

  -- and goes on to this stage
  leaver : (turn drawn turn' : ℕ) (homes homes' : List (Option (Maybe T))) (views : List (View E)) (all : List E)
      (id : ℕ) (v : View E) (x : T) (stage : Stage)
      → KeptAt list pair caller start most turn drawn homes views all → AreRetired drawn views → StandsAt views id v
      → v.stage ≡ Holds
      → v.numbered ≡ true → v.seen ≡ all
      → StartsWith (list x) v.seen → AllOf caller v.number (drop (length v.seen) (list x)) → stage ≢ Gone
      → IsInTurn list pair start turn' homes'
      (set views id (record v { stage = stage; seen = list x; mine = list x })) (list x)
      → KeptAt list pair caller start most turn' drawn homes'
      (set views id (record v { stage = stage; seen = list x; mine = list x })) (list x)
  leaver turn drawn turn' homes homes' views all id v x stage k retired at holds numbered seen longer own live turns =
      let known = k.known id v at (λ g. let y : Holds ≡ Gone = sym holds ∙ g in cc) in
      let added : List E = longer.0 in
      let new : list x ≡ all ++ added = longer.1 ∙ ap (λ l. l ++ added) seen in
      let mine : AllOf caller v.number added = subst (AllOf caller v.number) (front_rest
      (list x) v.seen added longer.1) own in
      let done : (j : ℕ) (u : View E) → StandsAt views j u → Known list pair caller start most drawn all u
      → AreSilent caller u.met (list x) =
      λ j u there m. done_left drawn views all id v x retired at numbered seen longer own j u there m.done in
      kept_set list pair caller start most turn drawn turn' drawn homes homes' views all (list x) id
      (record v { stage = stage; seen = list x; mine = list x }) k
      turns k.bound
      (subst (λ l. All (λ e. caller e < drawn) (drop (length (list start)) l)) (sym new)
      (All-drop_append (λ e. caller e < drawn) (length (list start)) all added k.entries
      (All-weaker (λ e. caller e ≡ v.number) (λ e. caller e < drawn)
      (λ e is. let b = known.below in let c = known.counted in omega arith) added mine)))
      (λ j u else there m. subst (λ l. Known list pair caller start most drawn l u) (sym new)
      (known_grown list pair caller start most drawn drawn all added u (omega arith) m.exact
      (λ nu. All-weaker (λ e. caller e ≡ v.number) (λ e. caller e ≢ u.number)
      (λ e is same. else (k.apart j id u v there at nu numbered (sym same ∙ is))) added mine)
      (subst (AreSilent caller u.met) new (done j u there m)) m))
      (λ _. known_whole list pair caller start most drawn all (list x) v stage longer
      (done id v at known) known)
      (λ g. absurd (live g))
      (apart_same list pair caller start most views id v (record v { stage = stage; seen = list x; mine = list x }) at
      (λ n. (n, refl)) k.apart)
      (λ number lt. drawn_set views id v (record v { stage = stage; seen = list x; mine = list x }) number
      at (λ has. has)
      (k.drawn_by number lt))

  pub leaves : (slots id : ℕ) (v : View E) (x : T) → v.stage ≡ Holds → v.numbered ≡ true → StartsWith (list x) v.seen
      → AllOf caller v.number (drop (length v.seen) (list x)) → pair x ≡ v.pair
      → Allows (Kept list pair caller start most) slots id (v, (0, Some x) ∷ []) 0 (λ _. 0)
      (λ _. Left list caller (v, (0, Some x) ∷ []))
  leaves slots id v x holds numbered longer own pair_is s k len at fits =
      let h = holder list pair caller start most k.turn s.homes s.views k.all k.kept.turns id v at
      (subst (λ st. IsFree st → ⊥) (sym holds) (λ f. f)) in
      let slot : s.homes ≡ none ∷ [] = subst (SlotAt list pair s.homes v) holds h.slot in
      let known = k.kept.known id v at (λ g. let y : Holds ≡ Gone = sym holds ∙ g in cc) in (
        record v { stage = Away; seen = list x; mine = list x },
        gives,
        tt,
        record {
          turn = 0;
          drawn = k.drawn;
          sleepers = k.sleepers;
          all = list x;
          words = ap (λ ws. slice_set ws 0 0) k.words;
          kept = leaver k.turn k.drawn 0 s.homes (set s.homes 0
              (some (Some x))) s.views k.all id v x Away k.kept k.retired at holds numbered h.seen longer own
              (λ g. let y : Away ≡ Gone = g in cc)
              (turns_home list pair caller start most k.turn s.homes s.views k.all (list x) id v
              (record v { stage = Away; seen = list x; mine = list x }) h x (set s.homes 0 (some (Some x)))
              (ap (λ hs. set hs 0 (some (Some x))) slot) refl (pair_is ∙ known.pair_is) tt);
          retired = retired_same k.drawn s.views id v (record v { stage = Away; seen = list x; mine = list x }) at
              (λ n. (n, refl)) refl k.retired;
          one_draws = drawers_same s.views id v (record v { stage = Away; seen = list x; mine = list x }) at (λ a. a)
              (λ d. d) k.one_draws;
        },
        (
          refl,
          done_left k.drawn s.views k.all id v x k.retired at numbered h.seen longer own id v at known.done,
        ),
      )

  pub readies : (slots id : ℕ) (v : View E) (x : T) → v.stage ≡ Holds → v.numbered ≡ true → StartsWith (list x) v.seen
      → AllOf caller v.number (drop (length v.seen) (list x)) → pair x ≡ v.pair
      → Allows (Kept list pair caller start most) slots id (v, (0, Some x) ∷ []) 0 (λ n. n)
      (λ _. Readied list (v, (0, Some x) ∷ []))
  readies slots id v x holds numbered longer own pair_is s k len at fits =
      let h = holder list pair caller start most k.turn s.homes s.views k.all k.kept.turns id v at
      (subst (λ st. IsFree st → ⊥) (sym holds) (λ f. f)) in
      let slot : s.homes ≡ none ∷ [] = subst (SlotAt list pair s.homes v) holds h.slot in (
        record v { stage = Ready; seen = list x; mine = list x },
        gives,
        tt,
        record {
          turn = 1;
          drawn = k.drawn;
          sleepers = k.sleepers;
          all = list x;
          words = ap (λ ws. slice_set ws 0 (slice_index ws 0)) k.words ∙ ap (λ t. t ∷ k.drawn ∷ k.sleepers ∷ []) h.word;
          kept = leaver k.turn k.drawn 1 s.homes (set s.homes 0
              (some (Some x))) s.views k.all id v x Ready k.kept k.retired at holds numbered h.seen longer own
              (λ g. let y : Ready ≡ Gone = g in cc)
              (turns_held list pair caller start most (set s.homes 0 (some (Some x))) s.views (list x) id v
              (record v { stage = Ready; seen = list x; mine = list x }) at
              (x, ap (λ hs. set hs 0 (some (Some x))) slot, refl, pair_is) refl h.others);
          retired = retired_same k.drawn s.views id v (record v { stage = Ready; seen = list x; mine = list x }) at
              (λ n. (n, refl)) refl k.retired;
          one_draws = drawers_same s.views id v (record v { stage = Ready; seen = list x; mine = list x }) at (λ a. a)
              (λ d. d) k.one_draws;
        },
        refl,
      )

  pub settles : (slots id : ℕ) (v : View E) → v.stage ≡ Away → v.numbered ≡ true
      → Allows (Kept list pair caller start most) slots id (v, []) 0 (λ n. n) (λ _. Settled caller (v, []))
  settles slots id v away numbered s k len at fits =
      let known = k.kept.known id v at (away_live away) in (
        v,
        keeps,
        tt,
        stays s (slice_set s.words 0 (slice_index s.words 0)) id v at k k.sleepers
            (ap (λ ws. slice_set ws 0 (slice_index ws 0)) k.words),
        (
          refl,
          known.heard,
          known.others numbered,
          done_front caller v.met v.seen known.seen.0 (subst (AreSilent caller v.met) known.seen.1 known.done),
        ),
      )

  pub waits : (slots id : ℕ) (m : Me (Maybe T) (View E)) (f : ℕ → ℕ)
      → Allows (Kept list pair caller start most) slots id m 2 f (λ _. Stayed m)
  waits slots id m f s k len at fits = (
    m.0,
    keeps,
    tt,
    stays s (slice_set s.words 2 (f (slice_index s.words 2))) id m.0 at k (f k.sleepers)
        (ap (λ ws. slice_set ws 2 (f (slice_index ws 2))) k.words),
    refl,
  )

  -- the same at a seat, of which only the slots are known
  pub opens_at : (slots id : ℕ) (m : Me (Maybe T) (View E)) → m.1 ≡ [] → m.0.stage ≡ Opening
      → Allows (Kept list pair caller start most) slots id m 0 (λ n. n) (λ _. Opened m)
  opens_at slots id m slot stage = subst (λ c. Allows (Kept list pair caller start most) slots id (m.0, c) 0 (λ n. n)
      (λ _. Opened (m.0, c))) (sym slot) (opens slots id m.0 stage)

  pub tries_at : (slots id : ℕ) (m : Me (Maybe T) (View E)) → m.1 ≡ [] → m.0.stage ≡ Away → m.0.numbered ≡ true
      → Allows (Kept list pair caller start most) slots id m 0 (λ n. either (n == 0) 1 n) (Took list pair caller m)
  tries_at slots id m slot away numbered =
      subst (λ c. Allows (Kept list pair caller start most) slots id (m.0, c) 0 (λ n. either (n == 0) 1 n)
      (Took list pair caller (m.0, c))) (sym slot) (tries slots id m.0 away numbered)

  pub leaves_at : (slots id : ℕ) (m : Me (Maybe T) (View E)) (x : T) → m.1 ≡ (0, Some x) ∷ [] → m.0.stage ≡ Holds
      → m.0.numbered ≡ true
      → StartsWith (list x) m.0.seen → AllOf caller m.0.number (drop (length m.0.seen) (list x)) → pair x ≡ m.0.pair
      → Allows (Kept list pair caller start most) slots id m 0 (λ _. 0) (λ _. Left list caller m)
  leaves_at slots id m x slot holds numbered longer own pair_is =
      subst (λ c. Allows (Kept list pair caller start most) slots id (m.0, c) 0 (λ _. 0)
      (λ _. Left list caller (m.0, c)))
      (sym slot) (leaves slots id m.0 x holds numbered longer own pair_is)

  pub readies_at : (slots id : ℕ) (m : Me (Maybe T) (View E)) (x : T) → m.1 ≡ (0, Some x) ∷ [] → m.0.stage ≡ Holds
      → m.0.numbered ≡ true
      → StartsWith (list x) m.0.seen → AllOf caller m.0.number (drop (length m.0.seen) (list x)) → pair x ≡ m.0.pair
      → Allows (Kept list pair caller start most) slots id m 0 (λ n. n) (λ _. Readied list m)
  readies_at slots id m x slot holds numbered longer own pair_is =
      subst (λ c. Allows (Kept list pair caller start most) slots id (m.0, c) 0 (λ n. n) (λ _. Readied list (m.0, c)))
      (sym slot) (readies slots id m.0 x holds numbered longer own pair_is)

  pub settles_at : (slots id : ℕ) (m : Me (Maybe T) (View E)) → m.1 ≡ [] → m.0.stage ≡ Away → m.0.numbered ≡ true
      → Allows (Kept list pair caller start most) slots id m 0 (λ n. n) (λ _. Settled caller m)
  settles_at slots id m slot away numbered =
      subst (λ c. Allows (Kept list pair caller start most) slots id (m.0, c) 0 (λ n. n) (λ _. Settled caller (m.0, c)))
      (sym slot) (settles slots id m.0 away numbered)

  -- at the end the slot has a value with the list of the pass that was ready
  closes : (id : ℕ) (v : View E) (ws : List ℕ) (xs : List (Maybe T)) (found : Maybe T) → v.stage ≡ Ready
      → Final (Seen (Kept list pair caller start most) id v) ws xs → get_elem? xs 0 ≡ some found
      → (value : T) × (found ≡ Some value) × (list value ≡ v.seen) × (pair value ≡ v.pair)
  closes id v ws xs found ready final at =
      let s = final.0 in
      let k = final.1.0 in
      let h = holder list pair caller start most k.turn s.homes s.views k.all k.kept.turns id v final.1.1
      (subst (λ st. IsFree st → ⊥) (sym ready) (λ f. f)) in
      let slot = subst (SlotAt list pair s.homes v) ready h.slot in (
        slot.0,
        some-injective found (Some slot.0) (sym at ∙ final.4 0 (Some slot.0) (ap (λ hs. get_elem? hs 0) slot.1)),
        slot.2,
        slot.3,
      )

  pub closes_full : (id : ℕ) (v : View E) (ws : List ℕ) (xs : List (Maybe T)) (found : Maybe T) → v.stage ≡ Ready
      → Final (Seen (Kept list pair caller start most) id v) ws xs → get_elem? xs 0 ≡ some found → IsSome found
  closes_full id v ws xs found ready final at = subst IsSome (sym
      (closes id v ws xs found ready final at).1) (search rules)

  pub closes_with : (id : ℕ) (v : View E) (ws : List ℕ) (xs : List (Maybe T)) (found : Maybe T) (last : T)
      → v.stage ≡ Ready → Final (Seen (Kept list pair caller start most) id v) ws xs → get_elem? xs 0 ≡ some found
      → found ≡ Some last
      → (list last ≡ v.seen) × (pair last ≡ v.pair)
  closes_with id v ws xs found last ready final at is =
      let end = closes id v ws xs found ready final at in
      let e : Some end.0 ≡ Some last = sym end.1 ∙ is in
      let same : last ≡ end.0 = cc in
      (ap list same ∙ end.2, ap pair same ∙ end.3)
