use Rattle.std.proofs.Common.{sym, ◌∙◌}
use Rattle.std.proofs.lemmas.Bool.{false≢true}
use Rattle.merge_ranges.proofs.Merging.{area_is_part}
use Rattle.merge_ranges.proofs.merges.Merges.add.Goals as goal

pub put_in-requires-clause-whole : goal.put_in-requires-clause-whole
put_in-requires-clause-whole c cut = false≢true (sym c.if-are_cut_by.false ∙ c.are_cut_by.ensures.1 cut)

pub put_in-requires-clause-parts : goal.put_in-requires-clause-parts
put_in-requires-clause-parts c = area_is_part c.args.area.now c.requires
