-- How a run of device calls goes on.
use Rattle.std.proofs.Common.{inl, inr, ⊎_elim, ℕ, List, arith}
use Rattle.journal_disk.specs.Disk.{Elapses, Stays}
use Rattle.journal_disk.specs.Log.{Each}

module _ {D : Type 0} (moment : D → ℕ) (left_since : D → ℕ → List ℕ → Type 0) (may_leave : D → List ℕ → Type 0) where
  -- before the first call
  pub started : (old : D) (P : List ℕ → Type 0) → ((image : List ℕ) → left_since old (moment old) image
      → may_leave old image) → Each (may_leave old) P → Stays moment left_since may_leave old old P
  started old P only_now here = record {
    moments = record {
      later = omega arith;
      each = λ c left. here c (only_now c left);
      before = λ t c le left. inl left;
    };
    now = here;
  }

  -- one call more, after which each image has P
  pub goes_on : (old mid new : D) (P : List ℕ → Type 0) → Stays moment left_since may_leave old mid P
      → Elapses (moment mid) (moment new) (left_since mid) (left_since new) (may_leave new)
      → Each (may_leave new) P → Stays moment left_since may_leave old new P
  goes_on old mid new P so_far time here = record {
    moments = record {
      later = omega (arith, so_far.moments.later, time.later);
      each = λ c left. ⊎_elim (so_far.moments.each c) (here c)
          (time.nothing_else (moment old) c so_far.moments.later left);
      before = λ t c le left. ⊎_elim (so_far.moments.before t c le) (λ now. inr (here c now))
          (time.nothing_else t c (omega (arith, le, so_far.moments.later)) left);
    };
    now = here;
  }

  -- a run behind a run
  pub then : (old mid new : D) (P : List ℕ → Type 0) → Stays moment left_since may_leave old mid P
      → Stays moment left_since may_leave mid new P → Stays moment left_since may_leave old new P
  then old mid new P first second = record {
    moments = record {
      later = omega (arith, first.moments.later, second.moments.later);
      each = λ c left. ⊎_elim (first.moments.each c) (λ p. p)
          (second.moments.before (moment old) c first.moments.later left);
      before = λ t c le left. ⊎_elim (first.moments.before t c le) (λ p. inr p)
          (second.moments.before t c (omega (arith, le, first.moments.later)) left);
    };
    now = second.now;
  }

  -- what has P has Q, too
  pub weaker : (old new : D) (P Q : List ℕ → Type 0) → Stays moment left_since may_leave old new P
      → ((image : List ℕ) → P image → Q image) → Stays moment left_since may_leave old new Q
  weaker old new P Q stays so = record {
    moments = record {
      later = stays.moments.later;
      each = λ c left. so c (stays.moments.each c left);
      before = λ t c le left. ⊎_elim (λ old_one. inl old_one) (λ p. inr (so c p)) (stays.moments.before t c le left);
    };
    now = λ c left. so c (stays.now c left);
  }
