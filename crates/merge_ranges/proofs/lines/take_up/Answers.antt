use Rattle.std.proofs.Common.{rules, ap, ◌∙◌}
use Rattle.std.specs.Prelude.{filter}
use Rattle.std.proofs.lemmas.Fn.{filter_same}
use Rattle.merge_ranges.specs.Lines.{reaches}
use Rattle.merge_ranges.proofs.lines.take_up.Goals as goal

pub returns-clause-taken : goal.returns-clause-taken
returns-clause-taken c =
    filter_same _ (reaches c.args.axis c.args.line) _ (λ x b f' k. search rules) _ _ c.retain.ensures.filtered
    ∙ ap (filter (reaches c.args.axis c.args.line)) c.in_ok-extend_from_slice.ensures.items
