use Rattle.std.proofs.Common.{ap, ◌∙◌}
use Rattle.std.specs.Arc.{arc_value}
use Rattle.std.specs.Prelude.{IfOk, Ok, Err, Result}
use Rattle.world_model.specs.Sheet.{PlaceSheet}
use Rattle.dimension_ops.specs.FollowLaws.{another_changed}
use Rattle.dimension_ops.proofs.lines.sheet_changed.Goals as goal

also_ok : {A E : Type 0} (P Q : A → Type 0) (answer : Result A E) → ((value : A) → P value → Q value) → IfOk answer P
    → IfOk answer Q
also_ok P Q (Ok value) also holds = also value holds
also_ok P Q (Err error) also holds = tt

pub returns-else-id-by : goal.returns-else-id-by
returns-else-id-by c =
    also_ok _ _ c.another_followed.result (λ followed follows.
    another_changed c.args.by.now.sheet c.args.by.now.axis c.args.by.now.count c.args.by.now.change.now
    (arc_value c.args.sheet) (arc_value followed)
    (λ own. c.if-id-by.false (c.id.ensures ∙ ap (λ (sheet : PlaceSheet). sheet.id) c.deref.ensures ∙ own)) follows)
    c.another_followed.ensures
