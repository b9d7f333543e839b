use Rattle.std.proofs.Common.{sym, subst, ◌∙◌}
use Rattle.std.specs.Option.{option_copied}
use Rattle.cell_calc.specs.Contents.{IsStoredFormula}
use Rattle.values_api.specs.Sheets.{stored_in}
use Rattle.values_api.proofs.CellValues.{alone_in, formula_found}
use Rattle.values_api.proofs.values.value_in.Goals as goal

pub returns-in-Some-clause-value : goal.returns-in-Some-clause-value
returns-in-Some-clause-value c =
    alone_in c.stored_values.ensures (stored_in c.args.book.now)
    (record { sheet = c.args.sheet; row = c.args.row; column = c.args.column }) (option_copied c.content.result)
    c.in-Some.value (sym c.content.ensures) (sym c.in-Some.is ∙ c.in_ok-value.ensures)

pub formula_value-requires-clause-formula : goal.formula_value-requires-clause-formula
formula_value-requires-clause-formula c =
    subst IsStoredFormula c.content.ensures
    (formula_found (option_copied c.content.result) (sym c.in-None.is ∙ c.in_ok-value.ensures))
