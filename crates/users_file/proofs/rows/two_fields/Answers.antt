use Rattle.std.proofs.Common.{◌≢◌, ◌∙◌, ap, arith, length, sym}
use Rattle.std.specs.Option.{option_map}
use Rattle.csv.specs.Records.{fields_of}
use Rattle.users_file.proofs.Fields.{first_there, if_none, second_there, two_are}
use Rattle.users_file.proofs.rows.two_fields.Goals as goal

pub returns-in_err-get-clause-other : goal.returns-in_err-get-clause-other
returns-in_err-get-clause-other c =
    if_none c.from_residual.result (length (fields_of c.args.row.now) ≢ 2)
    (first_there (fields_of c.args.row.now)
    (sym c.get.ensures.value ∙ ap (option_map (λ field. field.now)) (c.in_err-get.was)))

pub returns-in_err-get-2-clause-other : goal.returns-in_err-get-2-clause-other
returns-in_err-get-2-clause-other c =
    if_none c.from_residual-in_err-get-2.result (length (fields_of c.args.row.now) ≢ 2)
    (second_there (fields_of c.args.row.now)
    (sym c.get-2.ensures.value ∙ ap (option_map (λ field. field.now)) (c.in_err-get-2.was)))

pub returns-clause-two : goal.returns-clause-two
returns-clause-two c =
    two_are (fields_of c.args.row.now) c.in_ok-get.field-0.now c.in_ok-get-2.field-0.now (omega arith)
    (sym c.get.ensures.value ∙ ap (option_map (λ field. field.now)) (c.in_ok-get.was))
    (sym c.get-2.ensures.value ∙ ap (option_map (λ field. field.now)) (c.in_ok-get-2.was))
