use Rattle.std.proofs.Common.{◌∙◌, ap}
use Rattle.std.specs.Prelude.{is_some}
use Rattle.dev_metadata.specs.Listed.{has_id}
use Rattle.dev_metadata.proofs.Entries.{lookup-with_id}
use Rattle.dev_metadata.proofs.by_id.ById.has_id.Goals as goal

pub returns : goal.returns
returns c =
    c.contains_key.ensures
    ∙ ap is_some (lookup-with_id c.args.id c.self.inside.by_id.entries c.self.invariant.keyed)
    ∙ ap (λ items. has_id items c.args.id) c.self.view_is
