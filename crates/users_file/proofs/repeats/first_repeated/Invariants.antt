use Rattle.std.proofs.Common.{take}
use Rattle.std.specs.List.{IsDistinct}
use Rattle.std.specs.Str.{bytes_eq}
use Rattle.users_file.specs.Table.{tokens_of}
use Rattle.users_file.proofs.Tokens.{IsSetOf}
use Rattle.users_file.proofs.repeats.first_repeated.Given as goal

-- so far the tokens differ, and the set has just them
abbrev pub invariant-loop-place : goal.invariant-loop-place
invariant-loop-place l = record {
  differ : IsDistinct bytes_eq (take l.place (tokens_of l.pairs));
  kept : IsSetOf (take l.place (tokens_of l.pairs)) l.tokens;
}
