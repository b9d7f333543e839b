-- What the numbers of a band become, case by case.
use Rattle.std.proofs.Common.{◌≡◌, ℕ, ◌+◌, ◌<◌, ◌≤◌, ◌⊎◌, arith}
use Rattle.std.proofs.lemmas.Bool.Decides.{nat_tests}
use Rattle.grid_range.proofs.Deletions.{ClosedUp}
use Rattle.grid_range.specs.Tracking.{closed_up, start_opened, end_opened}

abbrev pub StartOpened : ℕ → ℕ → ℕ → ℕ → Type 0
StartOpened at count line is = ((at ≤ line) × (is ≡ line + count)) ⊎ ((line < at) × (is ≡ line))

abbrev pub EndOpened : ℕ → ℕ → ℕ → ℕ → Type 0
EndOpened at count line is = ((at < line) × (is ≡ line + count)) ⊎ ((line ≤ at) × (is ≡ line))

pub closed_up_is : (start end line : ℕ) → ClosedUp start end line (closed_up start end line)
closed_up_is start end line = grind (arith, nat_tests)

pub start_opened_is : (at count line : ℕ) → StartOpened at count line (start_opened at count line)
start_opened_is at count line = grind (arith, nat_tests)

pub end_opened_is : (at count line : ℕ) → EndOpened at count line (end_opened at count line)
end_opened_is at count line = grind (arith, nat_tests)
