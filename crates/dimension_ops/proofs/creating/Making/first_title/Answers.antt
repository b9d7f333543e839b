use Rattle.std.proofs.Common.{rules}
use Rattle.dimension_ops.proofs.creating.Making.first_title.Goals as goal

pub returns-then-not-branch-clause-first : goal.returns-then-not-branch-clause-first
returns-then-not-branch-clause-first c = record {
  positive = c.loop-number.invariant.0;
  unused = search rules;
  least = c.loop-number.invariant.1;
}
