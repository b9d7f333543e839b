use Rattle.std.proofs.Common.{sym}
use Rattle.a1_notation.proofs.Rows.{IsParsedRow, row_parsed, row_not_parsed, parsed_some, parsed_none}
use Rattle.a1_notation.proofs.row.read_row.Goals as goal

parsed : (c : goal.In_ok-number) → IsParsedRow c.args.text.now c.in_ok-number.number
parsed c =
    row_parsed c.args.text.now c.in_ok-number.number
    (c.begins_positive.ensures.0 c.if-not-begins_positive.false) c.if-text-gt-DIGITS.false
    (parsed_some c.args.text.now c.in_ok-number.number c.parse.result
    (sym c.in_ok-number.ensures.value) c.parse.ensures.value.0)

pub overflow_sub-result : goal.overflow_sub-result
overflow_sub-result c = (parsed c).0

pub returns-clause-row : goal.returns-clause-row
returns-clause-row c = (parsed c).1

pub returns-in_err-number-clause-none : goal.returns-in_err-number-clause-none
returns-in_err-number-clause-none c =
    rw c.from_residual.ensures (λ row is. row_not_parsed c.args.text.now row
    (parsed_none c.args.text.now c.parse.result (sym c.in_err-number.ensures.value) c.parse.ensures.value.0)
    (c.begins_positive.ensures.0 c.if-not-begins_positive.false) is)
