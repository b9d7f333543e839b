use Rattle.std.proofs.Common.{◌≡◌, ◌↔◌, false, subst}
use Rattle.std.specs.Prelude.{IsTrue}
use Rattle.std.proofs.lemmas.List.Sorted.{IsPermutation-sym}
use Rattle.protection.specs.declared.range.Protection.{Protection}
use Rattle.protection.specs.Denial.{DeniesSome}
use Rattle.protection.specs.Editors.{may_edit}
use Rattle.protection.proofs.Sweeping.{DeniesSome-from_free, IsFreeCell-from_denial, IsFreeCell-same}
use Rattle.protection.proofs.indexed.Indexed.denies_some.Goals as goal

pub returns : goal.returns
returns c =
    let off : may_edit c.args.user.now c.args.owner.now c.self.inside.protection ≡ false = cc in
    subst
    (λ (one : Protection). IsTrue c.has_free_cell.result
    ↔ DeniesSome c.args.user.now c.args.owner.now c.args.area.now c.args.rows c.args.cols one)
    c.self.view_is (
      λ yes. DeniesSome-from_free _ _ _ _ _ _ _ _ c.if-protected-area.false off c.shared_lines-rows.ensures
          c.shared_lines-cols.ensures
          (IsFreeCell-same _ _ _ _ _ (IsPermutation-sym _ _ c.self.invariant) (c.has_free_cell.ensures.0 yes)),
      λ some. c.has_free_cell.ensures.1
          (IsFreeCell-same _ _ _ _ _ c.self.invariant
          (IsFreeCell-from_denial _ _ _ _ _ _ _ _ c.shared_lines-rows.ensures c.shared_lines-cols.ensures some)),
    )
