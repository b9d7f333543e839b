use Rattle.std.proofs.Common.{sym, ◌∙◌}
use Rattle.values_api.specs.Ranges.{named}
use Rattle.values_api.proofs.Bands.{part_lines}
use Rattle.values_api.proofs.ranges.resolve.Goals as goal

pub part_of-requires : goal.part_of-requires
part_of-requires c = part_lines 3 c.args.text.now c.in-Ok.range.sheet c.in-Ok.range.part c.in-Ok.ensures.read

pub returns-in-Ok-part_of-clause-resolved : goal.returns-in-Ok-part_of-clause-resolved
returns-in-Ok-part_of-clause-resolved c =
    named c.in-Ok.range c.in-Ok.ensures.read (sym c.in-Ok-part_of.is ∙ c.part_of.ensures.found)

pub returns-in-Ok-clause-resolved : goal.returns-in-Ok-clause-resolved
returns-in-Ok-clause-resolved c =
    named c.in-Ok.range c.in-Ok.ensures.read (sym c.in-Err-part_of.is ∙ c.part_of.ensures.found)
