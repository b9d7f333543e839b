use Rattle.std.proofs.Common.{◌<◌, length, arith, sym, ap, ◌∙◌, subst}
use Rattle.cell_value.proofs.InTurn.{Turns-read, Turns-more}
use Rattle.cell_value.proofs.update.update_all.Goals as goal

pub update-requires : goal.update-requires
update-requires g c =
    let there : c.loop-item.item-index < length c.args.items.now.items =
    omega (arith, c.loop-item-test.true, ap length c.deref_mut-item-items.ensures.value) in
    let read = Turns-read _ _ _ _ _ _ c.item-item.result there c.loop-item.invariant c.item-item.is in
    subst (λ one. g.T.Update.can_update c.args.change.now one) (sym read ∙ c.item-item.is)
    (c.requires c.loop-item.item-index c.item-item.result there)

pub loop-item-preserved : goal.loop-item-preserved
loop-item-preserved g c =
    let there : c.loop-item.item-index < length c.args.items.now.items =
    omega (arith, c.loop-item-test.true, ap length c.deref_mut-item-items.ensures.value) in
    let read = Turns-read _ _ _ _ _ _ c.item-item.result there c.loop-item.invariant c.item-item.is in
    let was = sym c.item-item.is in
    Turns-more _ _ _ _ _ _ c.item-item.result c.update.new.self there read
    (c.update.ensures.value ∙ ap (g.T.Update.becomes c.args.change.now) was)
    (subst (λ one. g.T.Update.is_updated c.args.change.now one c.update.new.self) was c.update.ensures.is_updated)
    c.update.ensures.has_updated c.loop-item.invariant
