use Rattle.std.proofs.Common.{ap, ◌∙◌, fold, ◌+ℤ◌, pos}
use Rattle.cell_calc.specs.Outcome.{whole, value_by}
use Rattle.cell_calc.proofs.functions.gathering.sum_value.Goals as goal

pub returns : goal.returns
returns c = λ given stand. c.sum_of.ensures
    ∙ ap (value_by (λ numbers. whole (fold ◌+ℤ◌ (pos 0) numbers))) (c.in_ok-gathered.ensures given stand)
