use Rattle.std.proofs.Common.{◌+ℤ◌, pos, fold, map, flat_map, nat_eq, ap, ◌∙◌}
use Rattle.std.specs.HashSet.{contains}
use Rattle.cell_calc.specs.Conversion.{number_of}
use Rattle.cell_calc.specs.Outcome.{whole, value_by}
use Rattle.cell_calc.specs.GatheringFunctions.{all_good}
use Rattle.cell_calc.specs.Taken.{values_of}
use Rattle.cell_calc.specs.Found.{matches_in, value_if}
use Rattle.cell_calc.proofs.LookUps.{sum_is}
use Rattle.cell_calc.proofs.functions.sum_if.sum_beside.Goals as goal

pub returns-in_ok-all_read : goal.returns-in_ok-all_read
returns-in_ok-all_read c = λ x y are are_others.
    let test = contains nat_eq c.in_ok-places.places in
    c.sum_of.ensures
    ∙ ap (value_by (λ numbers. whole (fold ◌+ℤ◌ (pos 0) numbers)))
    (c.in_ok-all_read.ensures
    ∙ ap (λ values. all_good (map number_of values))
    (ap values_of c.as_slice-then-cells-others-2-2.ensures.value
    ∙ c.in_ok-values.ensures
    ∙ ap (flat_map (value_if test)) c.as_slice-then-cells-others-2.ensures.value))
    ∙ sum_is c.args.key.now test c.args.cells.now c.args.others.now x y are are_others
    c.if-cells-others.true c.if-cells-others-2.true
    (λ place. c.in_ok-places.ensures place
    ∙ ap (λ cells. matches_in c.args.key.now cells place) c.as_slice.ensures.value)
