use Rattle.std.proofs.Common.{◌≡◌, ◌++◌, length, string_bytes}
use Rattle.std.specs.List.{flat_map}
use denote.Text.{Utf8}
use denote.Shadow.{shadow}
use Rattle.a1_notation.specs.Quoted.{doubled}
use Rattle.a1_notation.proofs.quoted.read_quoted.Given as goal

-- the content so far, doubled, and the rest are all that stands behind the opening quote
abbrev pub invariant-loop-plain : goal.invariant-loop-plain
invariant-loop-plain l = record {
  utf8 : shadow (Utf8 l.rest);
  read : flat_map (doubled l.quote) (string_bytes l.content) ++ l.rest ≡ l.fn.inside;
}

-- each turn takes two quotes off the rest
abbrev pub decreases-loop-plain : goal.decreases-loop-plain
decreases-loop-plain l = length l.rest
