use Rattle.std.proofs.Common.{◌<◌, ◌∙◌, sym, ap, subst, ◌∷◌, [], ◌++◌, length, map}
use Rattle.std.specs.Arc.{arc_value}
use Rattle.std.specs.List.{AllZip}
use Rattle.std.proofs.lemmas.Iterator.Adapters.{YieldsList-from_vec}
use Rattle.std.proofs.lemmas.Iterator.Consumers.{YieldsList-turn}
use Rattle.std.proofs.lemmas.List.{get_or-map, length-map}
use Rattle.world_model.specs.PlaceChange.{SheetChanged}
use Rattle.dimension_ops.specs.References.{CanChange}
use Rattle.dimension_ops.proofs.Changed.{zip_more}
use Rattle.dimension_ops.proofs.lines.sheets_changed.Goals as goal

pub sheet_changed-requires-clause-ready : goal.sheet_changed-requires-clause-ready
sheet_changed-requires-clause-ready c =
    let items = c.args.sheets.items in
    let turn = YieldsList-turn (YieldsList-from_vec items c.into_iter-sheet-iterator.ensures.into_iter_gives.0
    (c.into_iter-sheet-iterator.ensures.into_iter_gives.1 ∙ c.args.sheets.ok.0)) c.loop-sheet.yielded
    c.loop-sheet.sheet-iterator c.loop-sheet.yielded_by c.next.result c.next.new.self c.in-Some.sheet c.in-Some.is
    c.next.ensures.steps in
    let k = length c.loop-sheet.yielded in
    subst (CanChange c.args.by.now.sheet c.args.by.now.axis c.args.by.now.count c.args.by.now.change.now)
    (get_or-map arc_value items k c.in-Some.sheet (arc_value c.in-Some.sheet) turn.0 ∙ ap arc_value (sym turn.1))
    (c.requires.ready k (arc_value c.in-Some.sheet)
    (subst (λ n. k < n) (sym (length-map items arc_value)) turn.0))

pub loop-sheet-preserved : goal.loop-sheet-preserved
loop-sheet-preserved c =
    subst (λ items. AllZip (SheetChanged c.args.by.now.sheet c.args.by.now.axis c.args.by.now.count
    c.args.by.now.change.now) (map arc_value (c.loop-sheet.yielded ++ (c.in-Some.sheet ∷ []))) (map arc_value items))
    (sym c.in_ok-push.ensures.items)
    (zip_more (SheetChanged c.args.by.now.sheet c.args.by.now.axis c.args.by.now.count c.args.by.now.change.now)
    arc_value c.loop-sheet.yielded c.loop-sheet.changed.items c.in-Some.sheet c.in_ok-sheet_changed.field-0
    c.loop-sheet.invariant c.in_ok-sheet_changed.ensures)
