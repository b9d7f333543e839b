use Rattle.std.proofs.Common.{◌≡◌}
use Rattle.std.specs.Iterator.Adapters.{zip_first, zip_second}
use Rattle.std.specs.Slice.Iter.{iter_rest}
use Rattle.row_filter.specs.Criteria.{some_hides}
use Rattle.row_filter.proofs.row_filter.some_hides.Given as goal

-- some cell is hidden just where one of those to come is
abbrev pub invariant-loop-criterion : goal.invariant-loop-criterion
invariant-loop-criterion l =
    some_hides (iter_rest (zip_first l.criterion-iterator)) (iter_rest (zip_second l.criterion-iterator))
    ≡ some_hides l.fn.criteria l.fn.values
