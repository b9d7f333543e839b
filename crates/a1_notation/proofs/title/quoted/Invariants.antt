use Rattle.std.proofs.Common.{◌≡◌, ◌++◌, ◌∷◌, length, string_bytes}
use Rattle.std.specs.List.{flat_map}
use denote.Text.{Utf8}
use denote.Shadow.{shadow}
use Rattle.a1_notation.specs.Quoted.{doubled}
use Rattle.a1_notation.proofs.title.quoted.Given as goal

-- what is written, with the rest doubled, is all of the title doubled
abbrev pub invariant-loop-plain : goal.invariant-loop-plain
invariant-loop-plain l = record {
  utf8 : shadow (Utf8 l.rest);
  written : string_bytes l.text ++ flat_map (doubled 39) l.rest ≡ 39 ∷ flat_map (doubled 39) l.fn.title;
}

-- each turn takes a quote off the rest
abbrev pub decreases-loop-plain : goal.decreases-loop-plain
decreases-loop-plain l = length l.rest
