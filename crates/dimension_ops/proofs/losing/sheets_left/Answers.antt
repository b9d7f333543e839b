use Rattle.std.proofs.Common.{◌∙◌, sym, ap, subst, ◌∷◌, [], ◌++◌, map}
use Rattle.std.specs.Prelude.{◌==◌}
use Rattle.std.specs.Arc.{arc_value}
use Rattle.std.proofs.lemmas.Bool.{eqb-true, false_from_ne_true}
use Rattle.std.specs.List.{AllZip}
use Rattle.world_model.specs.Sheet.{PlaceSheet}
use Rattle.world_model.specs.SheetChange.{LosesReferences, other_sheets}
use Rattle.dimension_ops.proofs.LostReferences.{lost_more}
use Rattle.dimension_ops.proofs.losing.sheets_left.Goals as goal

pub loop-sheet-preserved-in_ok-push : goal.loop-sheet-preserved-in_ok-push
loop-sheet-preserved-in_ok-push c =
    subst (λ items. AllZip (LosesReferences c.args.deleted)
    (other_sheets c.args.deleted (map arc_value (c.loop-sheet.yielded ++ (c.in-Some.sheet ∷ []))))
    (map arc_value items))
    (sym c.in_ok-push.ensures.items)
    (lost_more arc_value c.args.deleted c.loop-sheet.yielded c.loop-sheet.left.items c.in-Some.sheet
    c.in_ok-sheet_left.field-0
    (ap (λ n. n == c.args.deleted)
    (sym (c.id.ensures ∙ ap (λ (sheet : PlaceSheet). sheet.id) c.deref.ensures))
    ∙ false_from_ne_true (c.id.result == c.args.deleted)
    (λ is. c.if-id-deleted.true (eqb-true c.id.result c.args.deleted is)))
    c.loop-sheet.invariant c.in_ok-sheet_left.ensures)
