use Rattle.std.proofs.Common.{◌∙◌, ap, take, arith}
use Rattle.dev_metadata.specs.declared.types.Item.{Item}
use Rattle.dev_metadata.specs.Listed.{has_id}
use Rattle.dev_metadata.proofs.OwnIds.{new_id_before}
use Rattle.dev_metadata.proofs.by_id.ById.copy.Goals as goal

pub push-requires : goal.push-requires
push-requires c =
    ap (λ items. has_id items c.in_ok-duplicate.field-0.id) c.loop-at.invariant
    ∙ ap (λ (item : Item). has_id (take c.loop-at.at c.args.self.now) item.id)
    (c.in_ok-duplicate.ensures ∙ c.at.ensures.item)
    ∙ new_id_before c.args.self.now c.loop-at.at c.at.result.now c.at.ensures.ids (omega arith)
