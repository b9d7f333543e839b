use Rattle.std.proofs.Common.{◌≡◌}
use Rattle.std.specs.Iterator.Adapters.{zip_first, zip_second}
use Rattle.std.specs.Slice.Iter.{iter_rest}
use Rattle.basic_filter.specs.Hiding.{hides}
use Rattle.basic_filter.proofs.types.Filter.hides.Given as goal

-- the row is hidden just where the criteria to come hide it
abbrev pub invariant-loop-criterion : goal.invariant-loop-criterion
invariant-loop-criterion l =
    hides (iter_rest (zip_first l.criterion-iterator)) (iter_rest (zip_second l.criterion-iterator))
    ≡ hides l.fn.self.criteria l.fn.values
