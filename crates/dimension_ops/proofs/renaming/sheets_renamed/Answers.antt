use Rattle.std.proofs.Common.{sym, subst, ◌∷◌, [], ◌++◌, map}
use Rattle.std.specs.Arc.{arc_value}
use Rattle.std.specs.List.{AllZip}
use Rattle.world_model.specs.RangeChange.{WordsRenamedIn}
use Rattle.dimension_ops.proofs.Changed.{zip_more}
use Rattle.dimension_ops.proofs.renaming.sheets_renamed.Goals as goal

pub loop-sheet-preserved : goal.loop-sheet-preserved
loop-sheet-preserved c =
    subst (λ items. AllZip (WordsRenamedIn c.args.old.now c.args.new.now)
    (map arc_value (c.loop-sheet.yielded ++ (c.in-Some.sheet ∷ []))) (map arc_value items))
    (sym c.in_ok-push.ensures.items)
    (zip_more (WordsRenamedIn c.args.old.now c.args.new.now) arc_value c.loop-sheet.yielded c.loop-sheet.renamed.items
    c.in-Some.sheet c.in_ok-sheet_renamed.field-0 c.loop-sheet.invariant c.in_ok-sheet_renamed.ensures)
