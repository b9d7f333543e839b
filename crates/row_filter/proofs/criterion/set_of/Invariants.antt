use Rattle.std.proofs.Common.{take}
use Rattle.row_filter.specs.Criteria.{IsSetOf}
use Rattle.row_filter.proofs.criterion.set_of.Given as goal

-- so far the texts before this one
abbrev pub invariant-loop-text : goal.invariant-loop-text
invariant-loop-text l = IsSetOf (take l.text-index l.texts) l.set
