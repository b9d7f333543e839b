-- What a band becomes where the lines from `a` to `b - 1` of `n` are put before line `d` of the
-- others: `s` to `e - 1` are the band's lines, `s'` to `e' - 1` those of what it becomes.
use Rattle.std.proofs.Common.{◌≡◌, ℕ, ◌+◌, ◌-◌, ◌<◌, ◌≤◌, ◌⊎◌, true, false, arith, refl}
use Rattle.grid_range.proofs.Changes.{before_move, before_move_is}
use Rattle.grid_range.proofs.Arrivals.{Arrives, Settles, Of, Outside, Tears}
use Rattle.grid_range.proofs.Deletions.{ClosedUp}
use Rattle.grid_range.proofs.Spans.{StartOpened, EndOpened}

module _ (a b d n : ℕ) (some : a < b) (within : b ≤ n) (near : d + (b - a) ≤ n) where
  at : (j : ℕ) → ((j < d) × (j < a) × (before_move a b d j ≡ j))
      ⊎ ((j < d) × (a ≤ j) × (before_move a b d j ≡ j + (b - a)))
      ⊎ ((d ≤ j) × (j < d + (b - a)) × (before_move a b d j ≡ a + (j - d)))
      ⊎ ((d + (b - a) ≤ j) × (j - (b - a) < a) × (before_move a b d j ≡ j - (b - a)))
      ⊎ ((d + (b - a) ≤ j) × (a ≤ j - (b - a)) × (before_move a b d j ≡ j))
  at j = before_move_is a b d j (omega arith)

  -- the band doesn't meet the lines that move
  pub beside : (s e s' e' s1 e1 : ℕ) → s < e → e ≤ n → (e ≤ a) ⊎ (b ≤ s)
      → ClosedUp a b s s1 → ClosedUp a b e e1 → StartOpened d (b - a) s1 s' → EndOpened d (b - a) e1 e'
      → Arrives true n (before_move a b d) s e s' e'
  beside s e s' e' s1 e1 line there apart s_up e_up s_open e_open = record {
    some = omega arith;
    there = omega arith;
    first = (omega (arith, at s'), omega (arith, at s'));
    last = (omega (arith, at (e' - 1)), omega (arith, at (e' - 1)));
    all = λ j l x y. (omega (arith, at j), omega (arith, at j));
  }

  pub beside_outside : (s e s' e' s1 e1 : ℕ) → s < e → e ≤ n → (e ≤ a) ⊎ (b ≤ s)
      → ClosedUp a b s s1 → ClosedUp a b e e1 → StartOpened d (b - a) s1 s' → EndOpened d (b - a) e1 e'
      → Outside (before_move a b d) a b s' × Outside (before_move a b d) a b (e' - 1)
  beside_outside s e s' e' s1 e1 line there apart s_up e_up s_open e_open =
      ((λ x y. omega (arith, at s')), (λ x y. omega (arith, at (e' - 1))))

  pub beside_open : (s e s' s1 : ℕ) → s < e → e ≤ n → (e ≤ a) ⊎ (b ≤ s)
      → ClosedUp a b s s1 → StartOpened d (b - a) s1 s'
      → Arrives false n (before_move a b d) s e s' n
  beside_open s e s' s1 line there apart s_up s_open = record {
    some = omega arith;
    there = omega arith;
    first = (omega (arith, at s'), omega (arith, at s'));
    last = refl;
    all = λ j l x y. (omega (arith, at j), l);
  }

  pub beside_open_outside : (s e s' s1 : ℕ) → s < e → e ≤ n → (e ≤ a) ⊎ (b ≤ s)
      → ClosedUp a b s s1 → StartOpened d (b - a) s1 s' → Outside (before_move a b d) a b s'
  beside_open_outside s e s' s1 line there apart s_up s_open = λ x y. omega (arith, at s')

  -- all of the band's lines move
  pub carried : (s e : ℕ) → s < e → a ≤ s → e ≤ b
      → Arrives true n (before_move a b d) s e (d + (s - a)) (d + (e - a))
  carried s e line low high = record {
    some = omega arith;
    there = omega arith;
    first = (omega (arith, at (d + (s - a))), omega (arith, at (d + (s - a))));
    last = (omega (arith, at (d + (e - a) - 1)), omega (arith, at (d + (e - a) - 1)));
    all = λ j l x y. (omega (arith, at j), omega (arith, at j));
  }

  pub carried_open : (s : ℕ) → s < n → a ≤ s → n ≤ b
      → Arrives false n (before_move a b d) s n (d + (s - a)) n
  carried_open s line low high = record {
    some = omega arith;
    there = omega arith;
    first = (omega (arith, at (d + (s - a))), omega (arith, at (d + (s - a))));
    last = refl;
    all = λ j l x y. (omega (arith, at j), l);
  }

  -- lines move from one place in the band to another
  pub kept : (s e : ℕ) → s ≤ a → b ≤ e → e ≤ n → s ≤ d → d + (b - a) ≤ e
      → Arrives true n (before_move a b d) s e s e
  kept s e low high there from until = record {
    some = omega arith;
    there = there;
    first = (omega (arith, at s), omega (arith, at s));
    last = (omega (arith, at (e - 1)), omega (arith, at (e - 1)));
    all = λ j l x y. (omega (arith, at j), omega (arith, at j));
  }

  pub kept_open : (s : ℕ) → s ≤ a → s ≤ d → Arrives false n (before_move a b d) s n s n
  kept_open s low from = record {
    some = omega arith;
    there = omega arith;
    first = (omega (arith, at s), omega (arith, at s));
    last = refl;
    all = λ j l x y. (omega (arith, at j), l);
  }

  pub kept_full : (s e : ℕ) → s ≤ a → b ≤ e → s ≤ d → d + (b - a) ≤ e
      → (j : ℕ) → s ≤ j → j < e → Of (before_move a b d) s e j
  kept_full s e low high from until j x y = (omega (arith, at j), omega (arith, at j))

  -- lines move out of the band, to the front or to the back
  pub left_front : (s e : ℕ) → s ≤ a → b ≤ e → e ≤ n → b - a < e - s → d < s
      → Settles true n (before_move a b d) s e a b (s + (b - a)) e
  left_front s e low high there more front = record {
    some = omega arith;
    there = there;
    first = (omega (arith, at (s + (b - a))), omega (arith, at (s + (b - a))));
    first_outside = λ x y. omega (arith, at (s + (b - a)));
    last = (omega (arith, at (e - 1)), omega (arith, at (e - 1)));
    last_outside = λ x y. omega (arith, at (e - 1));
    all = λ j l x y out. (omega (arith, at j), omega (arith, at j));
  }

  pub left_front_tears : (s e : ℕ) → s ≤ a → b ≤ e → e ≤ n → b - a < e - s → d < s
      → Tears true n (before_move a b d) s e d (d + (b - a))
  left_front_tears s e low high there more front = record {
    below = omega arith;
    there = omega arith;
    of_band = (omega (arith, at d), omega (arith, at d));
    other = λ x y. omega (arith, at (d + (b - a)));
    behind = (e - 1, omega arith, omega arith, (omega (arith, at (e - 1)), omega (arith, at (e - 1))));
  }

  pub left_back : (s e : ℕ) → s ≤ a → b ≤ e → e ≤ n → b - a < e - s → e < d + (b - a)
      → Settles true n (before_move a b d) s e a b s (e - (b - a))
  left_back s e low high there more back = record {
    some = omega arith;
    there = omega arith;
    first = (omega (arith, at s), omega (arith, at s));
    first_outside = λ x y. omega (arith, at s);
    last = (omega (arith, at (e - (b - a) - 1)), omega (arith, at (e - (b - a) - 1)));
    last_outside = λ x y. omega (arith, at (e - (b - a) - 1));
    all = λ j l x y out. (omega (arith, at j), omega (arith, at j));
  }

  pub left_back_tears : (s e : ℕ) → s ≤ a → b ≤ e → e ≤ n → b - a < e - s → e < d + (b - a)
      → Tears true n (before_move a b d) s e s (e - (b - a))
  left_back_tears s e low high there more back = record {
    below = omega arith;
    there = omega arith;
    of_band = (omega (arith, at s), omega (arith, at s));
    other = λ x y. omega (arith, at (e - (b - a)));
    behind = (d, omega arith, omega arith, (omega (arith, at d), omega (arith, at d)));
  }

  pub left_front_open : (s : ℕ) → s ≤ a → b - a < n - s → d < s
      → Settles false n (before_move a b d) s n a b (s + (b - a)) n
  left_front_open s low more front = record {
    some = omega arith;
    there = omega arith;
    first = (omega (arith, at (s + (b - a))), omega (arith, at (s + (b - a))));
    first_outside = λ x y. omega (arith, at (s + (b - a)));
    last = refl;
    last_outside = tt;
    all = λ j l x y out. (omega (arith, at j), l);
  }

  pub left_front_open_tears : (s : ℕ) → s ≤ a → b - a < n - s → d < s
      → Tears false n (before_move a b d) s n d (d + (b - a))
  left_front_open_tears s low more front = record {
    below = omega arith;
    there = omega arith;
    of_band = (omega (arith, at d), omega (arith, at d));
    other = λ x y. omega (arith, at (d + (b - a)));
    behind = tt;
  }

  -- the band's last lines move, with lines behind it
  pub end_front : (s e s' : ℕ) → s < a → a < e → e < b → d < a → StartOpened d (b - a) s s'
      → Settles true n (before_move a b d) s e a b s' b
  end_front s e s' low inside high front s_open = record {
    some = omega arith;
    there = within;
    first = (omega (arith, at s'), omega (arith, at s'));
    first_outside = λ x y. omega (arith, at s');
    last = (omega (arith, at (b - 1)), omega (arith, at (b - 1)));
    last_outside = λ x y. omega (arith, at (b - 1));
    all = λ j l x y out. (omega (arith, at j), omega (arith, at j));
  }

  pub end_front_tears : (s e : ℕ) → s < a → a < e → e < b → d < a
      → Tears true n (before_move a b d) s e d (d + (e - a))
  end_front_tears s e low inside high front = record {
    below = omega arith;
    there = omega arith;
    of_band = (omega (arith, at d), omega (arith, at d));
    other = λ x y. omega (arith, at (d + (e - a)));
    behind = (b - 1, omega arith, omega arith, (omega (arith, at (b - 1)), omega (arith, at (b - 1))));
  }

  pub end_back : (s e : ℕ) → s < a → a < e → e < b → a < d
      → Settles true n (before_move a b d) s e a b s a
  end_back s e low inside high back = record {
    some = omega arith;
    there = omega arith;
    first = (omega (arith, at s), omega (arith, at s));
    first_outside = λ x y. omega (arith, at s);
    last = (omega (arith, at (a - 1)), omega (arith, at (a - 1)));
    last_outside = λ x y. omega (arith, at (a - 1));
    all = λ j l x y out. (omega (arith, at j), omega (arith, at j));
  }

  pub end_back_tears : (s e : ℕ) → s < a → a < e → e < b → a < d
      → Tears true n (before_move a b d) s e (a - 1) a
  end_back_tears s e low inside high back = record {
    below = omega arith;
    there = omega arith;
    of_band = (omega (arith, at (a - 1)), omega (arith, at (a - 1)));
    other = λ x y. omega (arith, at a);
    behind = (d, omega arith, omega arith, (omega (arith, at d), omega (arith, at d)));
  }

  -- the band's first lines move, with lines before it
  pub start_front : (s e : ℕ) → a < s → s < b → b < e → e ≤ n → d < a
      → Settles true n (before_move a b d) s e a b b e
  start_front s e low inside high there front = record {
    some = omega arith;
    there = there;
    first = (omega (arith, at b), omega (arith, at b));
    first_outside = λ x y. omega (arith, at b);
    last = (omega (arith, at (e - 1)), omega (arith, at (e - 1)));
    last_outside = λ x y. omega (arith, at (e - 1));
    all = λ j l x y out. (omega (arith, at j), omega (arith, at j));
  }

  pub start_front_tears : (s e : ℕ) → a < s → s < b → b < e → e ≤ n → d < a
      → Tears true n (before_move a b d) s e (d + (b - a) - 1) (d + (b - a))
  start_front_tears s e low inside high there front = record {
    below = omega arith;
    there = omega arith;
    of_band = (omega (arith, at (d + (b - a) - 1)), omega (arith, at (d + (b - a) - 1)));
    other = λ x y. omega (arith, at (d + (b - a)));
    behind = (b, omega arith, omega arith, (omega (arith, at b), omega (arith, at b)));
  }

  pub start_front_open : (s : ℕ) → a < s → s < b → b < n → d < a
      → Settles false n (before_move a b d) s n a b b n
  start_front_open s low inside high front = record {
    some = omega arith;
    there = omega arith;
    first = (omega (arith, at b), omega (arith, at b));
    first_outside = λ x y. omega (arith, at b);
    last = refl;
    last_outside = tt;
    all = λ j l x y out. (omega (arith, at j), l);
  }

  pub start_front_open_tears : (s : ℕ) → a < s → s < b → b < n → d < a
      → Tears false n (before_move a b d) s n (d + (b - a) - 1) (d + (b - a))
  start_front_open_tears s low inside high front = record {
    below = omega arith;
    there = omega arith;
    of_band = (omega (arith, at (d + (b - a) - 1)), omega (arith, at (d + (b - a) - 1)));
    other = λ x y. omega (arith, at (d + (b - a)));
    behind = tt;
  }

  pub start_back : (s e e' : ℕ) → a < s → s < b → b < e → e ≤ n → a < d
      → EndOpened d (b - a) (e - (b - a)) e'
      → Settles true n (before_move a b d) s e a b a e'
  start_back s e e' low inside high there back e_open = record {
    some = omega arith;
    there = omega arith;
    first = (omega (arith, at a), omega (arith, at a));
    first_outside = λ x y. omega (arith, at a);
    last = (omega (arith, at (e' - 1)), omega (arith, at (e' - 1)));
    last_outside = λ x y. omega (arith, at (e' - 1));
    all = λ j l x y out. (omega (arith, at j), omega (arith, at j));
  }

  pub start_back_tears : (s e : ℕ) → a < s → s < b → b < e → e ≤ n → a < d
      → Tears true n (before_move a b d) s e a d
  start_back_tears s e low inside high there back = record {
    below = back;
    there = omega arith;
    of_band = (omega (arith, at a), omega (arith, at a));
    other = λ x y. omega (arith, at d);
    behind = (
      d + (b - a) - 1,
      omega arith,
      omega arith,
      (omega (arith, at (d + (b - a) - 1)), omega (arith, at (d + (b - a) - 1))),
    );
  }

  pub start_back_open : (s : ℕ) → a < s → s < b → b < n → a < d
      → Settles false n (before_move a b d) s n a b a n
  start_back_open s low inside high back = record {
    some = omega arith;
    there = omega arith;
    first = (omega (arith, at a), omega (arith, at a));
    first_outside = λ x y. omega (arith, at a);
    last = refl;
    last_outside = tt;
    all = λ j l x y out. (omega (arith, at j), l);
  }

  pub start_back_open_tears : (s : ℕ) → a < s → s < b → b < n → a < d
      → Tears false n (before_move a b d) s n a d
  start_back_open_tears s low inside high back = record {
    below = back;
    there = omega arith;
    of_band = (omega (arith, at a), omega (arith, at a));
    other = λ x y. omega (arith, at d);
    behind = tt;
  }
