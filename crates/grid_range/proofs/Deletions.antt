-- What a band becomes where the lines from `a` to `b - 1` go and `n` are left.
use Rattle.std.proofs.Common.{◌≡◌, ℕ, ◌+◌, ◌-◌, ◌<◌, ◌≤◌, true, false, List, length, arith, refl, inl, inr, ◌⊎◌}
use Rattle.std.proofs.lemmas.Bool.{cases_lt}
use Rattle.grid_range.proofs.Changes.{without, skip, skip_is, length-without, get_or-without}
use Rattle.grid_range.proofs.Arrivals.{Came, Arrives, Outside}

-- how many of the first `line` lines are left
abbrev pub ClosedUp : ℕ → ℕ → ℕ → ℕ → Type 0
ClosedUp start end line is = ((line ≤ start) × (is ≡ line))
    ⊎ ((start < line) × (line ≤ end) × (is ≡ start))
    ⊎ ((end < line) × (is ≡ line - (end - start)))

pub closed_up_exists : (a b line : ℕ) → (is : ℕ) × ClosedUp a b line is
closed_up_exists a b line = elim (cases_lt a line) [
  | inl behind ↦ elim (cases_lt b line) [
    | inl far ↦ (line - (b - a), inr (inr (far, refl)))
    | inr inside ↦ (a, inr (inl (behind, inside, refl)))
  ]
  | inr before ↦ (line, inl (before, refl))
]

pub left_count : (order : List ℕ) (a b : ℕ) → a < b → b ≤ length order
    → length (without order a b) + (b - a) ≡ length order
left_count order a b some within = omega (arith, length-without order a b (omega arith) within)

pub left_came : (order : List ℕ) (a b : ℕ) → a < b → b ≤ length order
    → Came order (without order a b) (skip a b)
left_came order a b some within = record {
  within = λ j l. omega (arith, left_count order a b some within, skip_is a b j);
  same = λ j l. get_or-without order a b j (omega arith) within;
}

pub deleted : (a b n s e s' e' : ℕ) → a < b → b ≤ n + (b - a) → s < e → e ≤ n + (b - a) → s' < e'
    → ClosedUp a b s s' → ClosedUp a b e e' → Arrives true n (skip a b) s e s' e'
deleted a b n s e s' e' some within line there left s_up e_up = record {
  some = left;
  there = omega arith;
  first = (omega (arith, skip_is a b s'), omega (arith, skip_is a b s'));
  last = (omega (arith, skip_is a b (e' - 1)), omega (arith, skip_is a b (e' - 1)));
  all = λ j l x y. (omega (arith, skip_is a b j), omega (arith, skip_is a b j));
}

pub deleted_open : (a b n s s' : ℕ) → a < b → b ≤ n + (b - a) → s < n + (b - a) → s' < n
    → ClosedUp a b s s' → Arrives false n (skip a b) s (n + (b - a)) s' n
deleted_open a b n s s' some within line left s_up = record {
  some = left;
  there = omega arith;
  first = (omega (arith, skip_is a b s'), omega (arith, skip_is a b s'));
  last = refl;
  all = λ j l x y. (omega (arith, skip_is a b j), l);
}

pub deleted_none : (a b s e s' e' j : ℕ) → a < b → s < e → e' ≤ s' → ClosedUp a b s s'
    → ClosedUp a b e e' → Outside (skip a b) s e j
deleted_none a b s e s' e' j some line gone s_up e_up x y = omega (arith, skip_is a b j)
