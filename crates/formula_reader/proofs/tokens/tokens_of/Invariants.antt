use Rattle.std.proofs.Common.{length}
use Rattle.std.specs.Prelude.{All}
use denote.Text.{Utf8}
use denote.Shadow.{shadow}
use Rattle.formula_reader.specs.Boundaries.{HasBoundaries}
use Rattle.formula_reader.proofs.Scans.{Scanned}
use Rattle.formula_reader.proofs.tokens.tokens_of.Given as goal

abbrev pub invariant-loop-rest : goal.invariant-loop-rest
invariant-loop-rest l = record {
  utf8 : shadow (Utf8 l.rest);
  scanned : Scanned l.fn.text l.rest l.tokens.items;
  boundaries : All (HasBoundaries l.fn.text) l.tokens.items;
}

-- each turn takes a token off the rest
abbrev pub decreases-loop-rest : goal.decreases-loop-rest
decreases-loop-rest l = length l.rest
