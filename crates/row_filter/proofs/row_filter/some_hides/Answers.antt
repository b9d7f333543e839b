use Rattle.std.proofs.Common.{◌∙◌, sym}
use Rattle.std.proofs.lemmas.Slice.Zip.{either_empty_from_Zip}
use Rattle.row_filter.proofs.Criteria.{none_hides}
use Rattle.row_filter.proofs.row_filter.some_hides.Goals as goal

pub returns : goal.returns
returns c =
    sym (none_hides _ _ (either_empty_from_Zip _ c.next.new.self _ c.in-None.is c.next.ensures.steps))
    ∙ c.loop-criterion.invariant
