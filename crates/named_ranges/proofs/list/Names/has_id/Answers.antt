use Rattle.std.proofs.Common.{◌∙◌, ap}
use Rattle.std.specs.Prelude.{is_some}
use Rattle.named_ranges.specs.Listed.{with_id}
use Rattle.named_ranges.proofs.Entries.{lookup-with_id}
use Rattle.named_ranges.proofs.list.Names.has_id.Goals as goal

pub returns : goal.returns
returns c =
    c.contains_key.ensures
    ∙ ap is_some (lookup-with_id c.args.id.now c.self.inside.by_id.entries c.self.invariant.keyed)
    ∙ ap (λ ranges. is_some (with_id c.args.id.now ranges)) c.self.view_is
