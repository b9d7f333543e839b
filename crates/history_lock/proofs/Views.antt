-- A list of views in which one is changed, or to which one is added.
use Rattle.std.proofs.Common.{◌≡◌, ◌≢◌, ℕ, zero, suc, List, [], ◌∷◌, ◌++◌, length, ◌⊎◌, inl, inr, set, true, false, true≢false, refl, sym, ap, ◌<◌, ◌≤◌, arith}
use Rattle.std.proofs.Common.{◌∙◌, subst, ⊎_elim}
use Rattle.std.specs.Prelude.{All}
use Rattle.std.proofs.lemmas.List.Elements.{All-nil, All-weaker}
use mathlib.Core.Option.{some, some-injective, some-ne-none}
use lib.ListN.{get_elem?}
use Rattle.atomic_table.proofs.Lists.{at_set, at_snoc}
use Rattle.history_lock.specs.declared.view.View.{View}
use Rattle.history_lock.specs.declared.view.Drawing.TheVariants.{Alone, Never}
use Rattle.history_lock.specs.Rule.{StandsAt, Apart, OneDraws, AreRetired}

module _ {A : Type 0} (P : ℕ → A → Type 0) where
  pub all_set : (l : List A) (id : ℕ) (w : A) → ((j : ℕ) (u : A) → j ≢ id → get_elem? l j ≡ some u → P j u) → P id w
      → (j : ℕ) (u : A) → get_elem? (set l id w) j ≡ some u → P j u
  all_set l id w others mine j u at =
      ⊎_elim
      (λ (x : (j ≡ id) × (w ≡ u)). subst (λ (y : ℕ × A). P y.0 y.1) (λ i. (sym x.0 i, x.1 i)) mine)
      (λ (x : (j ≢ id) × (get_elem? l j ≡ some u)). others j u x.0 x.1)
      (at_set l id j w u at)

  pub all_more : (l : List A) (w : A) → ((j : ℕ) (u : A) → get_elem? l j ≡ some u → P j u) → ((j : ℕ) → P j w)
      → (j : ℕ) (u : A) → get_elem? (l ++ w ∷ []) j ≡ some u → P j u
  all_more l w others mine j u at = ⊎_elim (λ was. others j u was) (λ (new : w ≡ u). subst (P j) new
      (mine j)) (at_snoc l w u j at)

module _ {A : Type 0} where
  pub set_there : (l : List A) (i : ℕ) (a b : A) → get_elem? l i ≡ some a → get_elem? (set l i b) i ≡ some b
  set_there [] i a b e = absurd (some-ne-none a (sym e))
  set_there (x ∷ xs) zero a b e = refl
  set_there (x ∷ xs) (suc i) a b e = set_there xs i a b e

  pub at_end : (l : List A) (a b : A) (j : ℕ) → get_elem? (l ++ a ∷ []) j ≡ some b
      → (get_elem? l j ≡ some b) ⊎ ((j ≡ length l) × (a ≡ b))
  at_end [] a b zero e = inr (refl, some-injective a b e)
  at_end [] a b (suc j) e = absurd (some-ne-none b (sym e))
  at_end (x ∷ xs) a b zero e = inl e
  at_end (x ∷ xs) a b (suc j) e = ⊎_elim inl (λ t. inr (ap suc t.0, t.1)) (at_end xs a b j e)

  pub set_twice : (l : List A) (i j : ℕ) (a b : A) → i ≢ j → set (set l i a) j b ≡ set (set l j b) i a
  set_twice [] i j a b else = refl
  set_twice (x ∷ xs) zero zero a b else = absurd (else refl)
  set_twice (x ∷ xs) zero (suc j) a b else = refl
  set_twice (x ∷ xs) (suc i) zero a b else = refl
  set_twice (x ∷ xs) (suc i) (suc j) a b else = ap (λ l. x ∷ l) (set_twice xs i j a b (λ e. else (ap suc e)))

module _ {E : Type 0} where
  pub apart_set : (views : List (View E)) (id : ℕ) (w : View E) → Apart views
      → ((j : ℕ) (u : View E) → j ≢ id → StandsAt views j u → w.numbered ≡ true → u.numbered ≡ true
      → u.number ≢ w.number) → Apart (set views id w)
  apart_set views id w apart new i j v u at_i at_j =
      all_set (λ i v. v.numbered ≡ true → u.numbered ≡ true → v.number ≡ u.number → i ≡ j) views id w
      (λ i v i_else was nv nu same.
      all_set (λ j u. u.numbered ≡ true → v.number ≡ u.number → i ≡ j) views id w
      (λ j u j_else there nu same. apart i j v u was there nv nu same)
      (λ nw same. absurd (new i v i_else was nw nv same))
      j u at_j nu same)
      (λ nw nu same.
      all_set (λ j u. u.numbered ≡ true → w.number ≡ u.number → id ≡ j) views id w
      (λ j u j_else there nu same. absurd (new j u j_else there nw nu (sym same)))
      (λ _ _. refl)
      j u at_j nu same)
      i v at_i

  pub apart_more : (views : List (View E)) (w : View E) → Apart views → w.numbered ≡ false → Apart (views ++ w ∷ [])
  apart_more views w apart bare i j v u at_i at_j =
      all_more (λ i v. v.numbered ≡ true → u.numbered ≡ true → v.number ≡ u.number → i ≡ j) views w
      (λ i v was nv nu same.
      all_more (λ j u. u.numbered ≡ true → v.number ≡ u.number → i ≡ j) views w
      (λ j u there nu same. apart i j v u was there nv nu same)
      (λ j nw same. absurd (true≢false (sym nw ∙ bare)))
      j u at_j nu same)
      (λ i nw. absurd (true≢false (sym nw ∙ bare)))
      i v at_i

  pub drawers_set : (views : List (View E)) (id : ℕ) (w : View E) → OneDraws views
      → ((j : ℕ) (u : View E) → j ≢ id → StandsAt views j u → w.drawing ≡ Alone → u.drawing ≢ Never → ⊥)
      → ((j : ℕ) (u : View E) → j ≢ id → StandsAt views j u → u.drawing ≡ Alone → w.drawing ≢ Never → ⊥)
      → OneDraws (set views id w)
  drawers_set views id w one mine theirs i j v u at_i at_j =
      all_set (λ i v. v.drawing ≡ Alone → u.drawing ≢ Never → i ≡ j) views id w
      (λ i v i_else was a d.
      all_set (λ j u. u.drawing ≢ Never → i ≡ j) views id w
      (λ j u _ there d. one i j v u was there a d)
      (λ d. absurd (theirs i v i_else was a d))
      j u at_j d)
      (λ a d.
      all_set (λ j u. u.drawing ≢ Never → id ≡ j) views id w
      (λ j u j_else there d. absurd (mine j u j_else there a d))
      (λ _. refl)
      j u at_j d)
      i v at_i

  -- a view that draws numbers as before, or not at all
  pub drawers_same : (views : List (View E)) (id : ℕ) (v w : View E) → StandsAt views id v
      → (w.drawing ≡ Alone → v.drawing ≡ Alone) → (w.drawing ≢ Never → v.drawing ≢ Never) → OneDraws views
      → OneDraws (set views id w)
  drawers_same views id v w at alone draws one =
      drawers_set views id w one
      (λ j u else there a d. else (sym (one id j v u at there (alone a) d)))
      (λ j u else there a d. else (one j id u v there at a (draws d)))

  -- a view takes in another, which then draws none, and draws numbers as one of both did
  pub drawers_joined : (views : List (View E)) (id : ℕ) (v : View E) (other : ℕ) (w u x : View E)
      → StandsAt views id v → StandsAt views other w → other ≢ id → x.drawing ≡ Never
      → (u.drawing ≡ v.drawing) ⊎ (u.drawing ≡ w.drawing) → OneDraws views
      → OneDraws (set (set views id u) other x)
  drawers_joined views id v other w u x at w_at else never which one =
      let none : x.drawing ≡ Alone → ⊥ = λ a. let h : Never ≡ Alone = sym never ∙ a in cc in
      subst OneDraws (set_twice views other id x u else)
      (drawers_set (set views other x) id u
      (drawers_set views other x one (λ _ _ _ _ a _. none a) (λ _ _ _ _ _ d. d never))
      (λ j y j_else there a d.
      all_set (λ j y. j ≢ id → y.drawing ≢ Never → ⊥) views other x
      (λ j y j_other was j_else d. ⊎_elim
      (λ e. j_else (sym (one id j v y at was (sym e ∙ a) d)))
      (λ e. j_other (sym (one other j w y w_at was (sym e ∙ a) d))) which)
      (λ _ d. d never) j y there j_else d)
      (λ j y j_else there a d.
      all_set (λ j y. j ≢ id → y.drawing ≡ Alone → ⊥) views other x
      (λ j y j_other was j_else a. ⊎_elim
      (λ e. j_else (one j id y v was at a (λ n. d (e ∙ n))))
      (λ e. j_other (one j other y w was w_at a (λ n. d (e ∙ n)))) which)
      (λ _ a. none a) j y there j_else a))

  -- a view hands its right to draw numbers to one more, and may share it
  pub drawers_handed : (views : List (View E)) (id : ℕ) (v left right : View E) → StandsAt views id v
      → OneDraws views → (right.drawing ≡ Alone → v.drawing ≡ Alone) → (right.drawing ≢ Never → v.drawing ≢ Never)
      → (left.drawing ≡ Alone → ⊥) → (left.drawing ≢ Never → v.drawing ≢ Never)
      → (right.drawing ≡ Alone → left.drawing ≢ Never → ⊥)
      → OneDraws (set views id left ++ right ∷ [])
  drawers_handed views id v left right at one alone draws not_left left_draws apart i j x y at_i at_j =
      let n : ℕ = length (set views id left) in
      ⊎_elim
      (λ (was : StandsAt (set views id left) i x).
      ⊎_elim
      (λ (there : StandsAt (set views id left) j y).
      drawers_set views id left one (λ _ _ _ _ a _. not_left a)
      (λ k u else was a d. else (one k id u v was at a (left_draws d))) i j x y was there)
      (λ (new : (j ≡ n) × (right ≡ y)) a d.
      absurd (all_set (λ _ x. x.drawing ≡ Alone → ⊥) views id left
      (λ k u else there a. else (one k id u v there at a
      (draws (subst (λ (z : View E). z.drawing ≢ Never) (sym new.1) d)))) not_left i x was a))
      (at_end (set views id left) right y j at_j))
      (λ (new : (i ≡ n) × (right ≡ x)) a d.
      ⊎_elim
      (λ (there : StandsAt (set views id left) j y).
      absurd (all_set (λ _ y. y.drawing ≢ Never → ⊥) views id left
      (λ k u else was d. else (sym (one id k v u at was
      (alone (subst (λ (z : View E). z.drawing ≡ Alone) (sym new.1) a)) d)))
      (apart (subst (λ (z : View E). z.drawing ≡ Alone) (sym new.1) a)) j y there d))
      (λ (newer : (j ≡ n) × (right ≡ y)). new.0 ∙ sym newer.0)
      (at_end (set views id left) right y j at_j))
      (at_end (set views id left) right x i at_i)

  -- retired numbers stay so where the view that changes has a number that is none of them, and took in none that is a
  -- view's own
  pub retired_set : (drawn drawn' : ℕ) (views : List (View E)) (id : ℕ) (w : View E) → drawn ≤ drawn'
      → AreRetired drawn views → All (λ m. m.0 < drawn') w.met
      → ((j : ℕ) (u : View E) → j ≢ id → StandsAt views j u → u.numbered ≡ true → All (λ m. m.0 ≢ u.number) w.met)
      → ((j : ℕ) (u : View E) → j ≢ id → StandsAt views j u → w.numbered ≡ true → All (λ m. m.0 ≢ w.number) u.met)
      → (w.numbered ≡ true → All (λ m. m.0 ≢ w.number) w.met) → AreRetired drawn' (set views id w)
  retired_set drawn drawn' views id w le retired below taken own both = record {
    below = all_set (λ _ u. All (λ m. m.0 < drawn') u.met) views id w
        (λ j u _ there. All-weaker (λ m. m.0 < drawn) (λ m. m.0 < drawn') (λ m lt. omega arith) u.met
        (retired.below j u there)) below;
    nobodys = λ i j v u at_i at_j numbered.
        all_set (λ i v. v.numbered ≡ true → All (λ m. m.0 ≢ v.number) u.met) views id w
        (λ i v i_else was nv.
        all_set (λ j u. All (λ m. m.0 ≢ v.number) u.met) views id w
        (λ j u _ there. retired.nobodys i j v u was there nv) (taken i v i_else was nv) j u at_j)
        (λ nw.
        all_set (λ j u. All (λ m. m.0 ≢ w.number) u.met) views id w
        (λ j u j_else there. own j u j_else there nw) (both nw) j u at_j)
        i v at_i numbered;
  }

  pub retired_same : (drawn : ℕ) (views : List (View E)) (id : ℕ) (v w : View E) → StandsAt views id v
      → (w.numbered ≡ true → (v.numbered ≡ true) × (v.number ≡ w.number)) → w.met ≡ v.met → AreRetired drawn views
      → AreRetired drawn (set views id w)
  retired_same drawn views id v w at same met retired =
      retired_set drawn drawn views id w (omega arith) retired
      (subst (All (λ m. m.0 < drawn)) (sym met) (retired.below id v at))
      (λ j u _ there nu. subst (All (λ m. m.0 ≢ u.number)) (sym met) (retired.nobodys j id u v there at nu))
      (λ j u _ there nw. subst (λ n. All (λ m. m.0 ≢ n) u.met) (same nw).1
      (retired.nobodys id j v u at there (same nw).0))
      (λ nw. subst (λ n. All (λ m. m.0 ≢ n) w.met) (same nw).1 (subst (All (λ m. m.0 ≢ v.number)) (sym met)
      (retired.nobodys id id v v at at (same nw).0)))

  pub retired_more : (drawn : ℕ) (views : List (View E)) (w : View E) → AreRetired drawn views → w.numbered ≡ false
      → w.met ≡ [] → AreRetired drawn (views ++ w ∷ [])
  retired_more drawn views w retired bare none = record {
    below = all_more (λ _ u. All (λ m. m.0 < drawn) u.met) views w retired.below
        (λ _. subst (All (λ m. m.0 < drawn)) (sym none) (All-nil (λ m. m.0 < drawn)));
    nobodys = λ i j v u at_i at_j numbered.
        all_more (λ i v. v.numbered ≡ true → All (λ m. m.0 ≢ v.number) u.met) views w
        (λ i v was nv.
        all_more (λ j u. All (λ m. m.0 ≢ v.number) u.met) views w
        (λ j u there. retired.nobodys i j v u was there nv)
        (λ j. subst (All (λ m. m.0 ≢ v.number)) (sym none) (All-nil (λ m. m.0 ≢ v.number))) j u at_j)
        (λ i nw. absurd (true≢false (sym nw ∙ bare)))
        i v at_i numbered;
  }
