use Rattle.std.proofs.Common.{◌≡◌, ◌≤◌, ◌++◌, ◌∷◌, [], ℕ, Bool, List, cond, get_or, take, length, sym, ap, subst, ◌∙◌, arith}
use Rattle.std.specs.Prelude.{is_some}
use Rattle.std.specs.List.{filter}
use Rattle.std.specs.FinMap as map
use Rattle.std.proofs.lemmas.List.{take_all}
use Rattle.std.proofs.lemmas.List.Elements.{filter_more}
use Rattle.shared_map.specs.Map.{AreKeysWithin}
use Rattle.shared_grid.specs.Cells.{key_of, across_in, AreMarksOnColumn, HasMarks}
use Rattle.shared_grid.proofs.Cleared.{all_marks_on_column, marks_on_column}
use Rattle.shared_grid.proofs.Keys.{as_keys}
use Rattle.shared_grid.proofs.Marks.{lent_is_some}
use Rattle.shared_grid.proofs.cells.Cells.on_column.Goals as goal

pub returns-then-has_items : goal.returns-then-has_items
returns-then-has_items g c =
    subst (λ items. AreMarksOnColumn c.args.column items c.in_ok-marks.marks.items) c.self.view_is
    (all_marks_on_column c.self.inside.items c.self.inside.marks c.self.invariant
    (c.has_items.ensures c.if-has_items.true) c.args.column
    c.key.result c.key-2.result c.in_ok-marks.marks.items (omega arith) c.key.ensures c.key-2.ensures
    (as_keys (AreKeysWithin c.key.result c.key-2.result c.self.inside.marks) c.in_ok-marks.marks.items
    c.in_ok-marks.ensures))

pub loop-mark-preserved : goal.loop-mark-preserved
loop-mark-preserved g c =
    let marks = c.as_slice-mark-items.result.now in
    let mark = get_or c.as_slice-mark-items.result.now c.loop-mark.mark-index 0 in
    let test : ℕ → Bool = λ mark. is_some (map.get c.args.self.now (key_of (across_in mark) c.args.column)) in
    let held : c.is_some.result
    ≡ is_some
    (map.get c.args.self.now
    (key_of (across_in (get_or c.as_slice-mark-items.result.now c.loop-mark.mark-index 0)) c.args.column)) =
    c.is_some.ensures ∙ sym (lent_is_some c.get-item.result) ∙ ap is_some c.get-item.ensures
    ∙ ap (λ (row : ℕ). is_some (map.get c.args.self.now (key_of row c.args.column))) c.across.ensures in
    c.in_ok-push_if.ensures
    ∙ ap (λ (xs : List ℕ). xs ++ cond c.is_some.result (mark ∷ []) []) c.loop-mark.invariant
    ∙ ap (λ b. filter test (take c.loop-mark.mark-index marks) ++ cond b (mark ∷ []) []) held
    ∙ sym (filter_more test marks c.loop-mark.mark-index 0 c.loop-mark-test.true)

pub returns : goal.returns
returns g c =
    let marks = c.as_slice-mark-items.result.now in
    let all : length c.as_slice-mark-items.result.now ≤ c.loop-mark.mark-index =
    omega (arith, c.loop-mark-test.false) in
    marks_on_column c.args.self.now c.self.inside.marks
    (subst (λ items. HasMarks items c.self.inside.marks) c.self.view_is c.self.invariant) c.args.column c.key.result
    c.key-2.result marks c.loop-mark.held.items (omega arith) c.key.ensures c.key-2.ensures
    (subst (AreKeysWithin c.key.result c.key-2.result c.self.inside.marks) (sym c.as_slice-mark-items.ensures.value)
    (as_keys (AreKeysWithin c.key.result c.key-2.result c.self.inside.marks) c.in_ok-marks.marks.items
    c.in_ok-marks.ensures))
    (c.loop-mark.invariant
    ∙ ap (filter (λ (mark : ℕ). is_some (map.get c.args.self.now (key_of (across_in mark) c.args.column))))
    (take_all c.loop-mark.mark-index marks all))
