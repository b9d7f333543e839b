use Rattle.std.proofs.Common.{rules, not}
use Rattle.std.proofs.lemmas.Fn.{filter_same}
use Rattle.merge_ranges.specs.Tests.{holds_all}
use Rattle.merge_ranges.proofs.merges.dissolve.Goals as goal

pub returns-clause-left : goal.returns-clause-left
returns-clause-left c = filter_same _ (λ merge. not (holds_all c.args.area.now merge)) _
    (λ x b f' k. search rules) _ _ c.retain.ensures.filtered
