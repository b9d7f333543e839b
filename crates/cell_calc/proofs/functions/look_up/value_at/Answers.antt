use Rattle.std.proofs.Common.{◌≡◌, ◌+◌, ◌-◌, ◌*◌, true, unsigned_abs, to_z, of_z, w64, subst, ap, sym, ◌∙◌}
use Rattle.std.specs.Prelude.{IfOk}
use Rattle.std.proofs.lemmas.Int.{to_z-of_z}
use Rattle.cell_calc.specs.LookUpFunctions.{is_line_of}
use Rattle.cell_calc.specs.Found.{value_in_place}
use Rattle.cell_calc.proofs.LookUps.{value_found}
use Rattle.cell_calc.proofs.functions.look_up.value_at.Goals as goal

pub returns-then-is_line_of-2 : goal.returns-then-is_line_of-2
returns-then-is_line_of-2 c = λ all are.
    let columns = c.args.cells.now.columns in
    let row = to_z-of_z w64 c.args.row c.ranges.row in
    let column = to_z-of_z w64 c.args.column c.ranges.column in
    let is_row : is_line_of c.args.cells.now.rows c.args.row ≡ true =
    ap (is_line_of c.args.cells.now.rows) (sym row) ∙ sym c.is_line_of.ensures ∙ c.if-is_line_of.true in
    let is_column : is_line_of columns c.args.column ≡ true =
    ap (is_line_of columns) (sym column) ∙ sym c.is_line_of-then-is_line_of.ensures ∙ c.if-is_line_of-2.true in
    subst (λ x. IfOk c.value_in_place.result (λ value. value ≡ x))
    (ap (value_in_place c.place_at-place.result) c.as_slice.ensures.value
    ∙ ap (λ n. value_in_place n c.args.cells.now.filled.items)
    (c.place_at-place.ensures
    ∙ ap (λ n. (unsigned_abs n - 1) * columns + (unsigned_abs (to_z w64 (of_z w64 c.args.column)) - 1)) row
    ∙ ap (λ n. (unsigned_abs c.args.row - 1) * columns + (unsigned_abs n - 1)) column)
    ∙ value_found c.args.cells.now all c.args.row c.args.column are is_row is_column)
    c.value_in_place.ensures
