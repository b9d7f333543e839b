use Rattle.std.proofs.Common.{◌≡◌, ◌+◌, sym, ap, subst, ◌∙◌, List, [], ◌∷◌, ◌++◌, take}
use Rattle.std.proofs.lemmas.List.{take_more}
use Rattle.cell_value.specs.declared.cell.SheetProperties.{SheetProperties}
use Rattle.dimension_ops.specs.Creating.{AreFaults, ArePlaced, broken_each, sheets_made}
use Rattle.dimension_ops.specs.SheetRequests.{sheet_added_broken}
use Rattle.dimension_ops.proofs.Making.{are_more, each_more, faults_more}
use Rattle.dimension_ops.proofs.creating.make.Goals as goal

pub loop-properties-preserved : goal.loop-properties-preserved
loop-properties-preserved c =
    let asked = c.args.asked.now in
    let k = c.loop-properties.properties-index in
    let one = c.properties-item.result in
    let before = c.loop-properties.making in
    let made = c.in_ok-making.making in
    let (placed, is, more) = c.in_ok-making.ensures in
    let taken : take (k + 1) asked ≡ take k asked ++ one ∷ [] =
    take_more asked k one c.loop-properties-test.true
    ∙ ap (λ (p : SheetProperties). take k asked ++ p ∷ []) (sym c.properties-item.is) in
    let each : broken_each (take (k + 1) asked) [] made
    ≡ broken_each (take k asked) [] before ++ sheet_added_broken one (sheets_made before) ∷ [] =
    ap (λ (list : List SheetProperties). broken_each list [] made) taken
    ∙ ap (broken_each (take k asked ++ one ∷ []) []) more
    ∙ each_more (take k asked) [] before one placed c.loop-properties.invariant.0 in (
      subst (λ (list : List SheetProperties). ArePlaced list [] made) (sym taken)
          (subst (ArePlaced (take k asked ++ one ∷ []) []) (sym more)
          (are_more (take k asked) [] before one placed c.loop-properties.invariant.0 is)),
      subst (AreFaults c.or-faults.result) (sym each)
          (faults_more (broken_each (take k asked) [] before) (sheet_added_broken one (sheets_made before))
          c.loop-properties.faults c.in_ok-judge.field-0 c.or-faults.result c.loop-properties.invariant.1
          c.in_ok-judge.ensures
          c.or-faults.ensures.bad_range c.or-faults.ensures.id_taken c.or-faults.ensures.bad_name
          c.or-faults.ensures.name_taken c.or-faults.ensures.last_line),
    )
