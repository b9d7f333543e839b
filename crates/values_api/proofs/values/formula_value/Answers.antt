use Rattle.std.proofs.Common.{◌≡◌, [], ◌∷◌, sym, subst, ◌∙◌}
use Rattle.std.proofs.lemmas.Result.{IfOk-weaker}
use Rattle.cell_calc.specs.Calculated.{AreValues, IsValueIn, one_cell}
use Rattle.cell_calc.specs.Marks.{values_of}
use Rattle.values_api.specs.Sheets.{stored_in}
use Rattle.values_api.proofs.CellValues.{calculated_in}
use Rattle.values_api.proofs.values.formula_value.Goals as goal

pub returns-clause-value : goal.returns-clause-value
returns-clause-value c =
    let values = subst (λ book. AreValues (stored_in book)
    (one_cell c.args.sheet c.args.row c.args.column ∷ []) (values_of c.calculate_more.new.table)) c.of.ensures
    c.in_ok-calculate_more.ensures.values in
    IfOk-weaker c.duplicate.result (λ value. value ≡ c.value.result.now)
    (IsValueIn (stored_in c.args.book.now)
    (record { sheet = c.args.sheet; row = c.args.row; column = c.args.column }))
    (λ value same. subst
    (IsValueIn (stored_in c.args.book.now)
    (record { sheet = c.args.sheet; row = c.args.row; column = c.args.column }))
    (sym (same ∙ c.value.ensures))
    (calculated_in (stored_in c.args.book.now) c.args.sheet c.args.row c.args.column
    (values_of c.calculate_more.new.table) values c.requires.formula))
    c.duplicate.ensures
