use Rattle.std.proofs.Common.{◌++◌, ◌∷◌, [], ap, ◌∙◌, subst, sym}
use Rattle.dev_metadata.specs.declared.types.Item.{Item}
use Rattle.world_model.specs.Sound.{IsItemWithin}
use Rattle.request_kinds.specs.ListingLaws.{more_listed}
use Rattle.batch_engine.specs.Filtered.{area_of_spot, areas_of_items}
use Rattle.batch_engine.proofs.filtered.areas_of_items.Goals as goal

pub put_area-requires : goal.put_area-requires
put_area-requires c =
    subst (IsItemWithin c.args.book.now.sheets) (sym c.item-item.is)
    (c.requires c.loop-item.item-index c.item-item.result c.loop-item-test.true)

pub loop-item-preserved : goal.loop-item-preserved
loop-item-preserved c =
    let item = c.item-item.result in
    c.in_ok-put_area.ensures
    ∙ ap (λ before. before ++ areas_of_items (item ∷ [])) c.loop-item.invariant
    ∙ more_listed (λ (item : Item). area_of_spot item.spot) c.args.items.now c.loop-item.item-index item
    c.loop-item-test.true c.item-item.is
