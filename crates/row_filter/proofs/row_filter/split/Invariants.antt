use Rattle.std.proofs.Common.{◌≡◌, map, take}
use Rattle.std.specs.List.{AllZip}
use Rattle.row_filter.specs.Criteria.{IsReady, criterion_left}
use Rattle.row_filter.proofs.row_filter.split.Given as goal

-- so far the parts of the criteria before this one
abbrev pub invariant-loop-criterion : goal.invariant-loop-criterion
invariant-loop-criterion l = record {
  ready : AllZip IsReady (take l.criterion-index l.criteria) l.ready.items;
  left : l.left.items ≡ map criterion_left (take l.criterion-index l.criteria);
}
