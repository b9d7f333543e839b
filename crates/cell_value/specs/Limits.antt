-- What a cell may hold.
use Rattle.std.specs.Prelude.{ℕ, ◌^◌}

-- the greatest whole number; the least is its negative
abbrev pub largest : ℕ
largest = 2 ^ 53

-- the most bytes of an entered text
abbrev pub longest : ℕ
longest = 50000
