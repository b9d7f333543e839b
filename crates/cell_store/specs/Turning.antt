-- Lists of one number a line, in which two parts that stand side by side change places.
use Rattle.std.specs.Prelude.{ℕ, ◌+◌, ◌-◌, nat_lt, if◌then◌else◌}

-- where the number stood that stands at that index once the part from `middle` to `end` stands
-- before the part from `start` to `middle`
abbrev pub source : ℕ → ℕ → ℕ → ℕ → ℕ
source start middle end index =
    if nat_lt index start then index
    else if nat_lt index (start + (end - middle)) then index + (middle - start)
    else if nat_lt index end then index - (end - middle)
    else index
