use Rattle.std.specs.Char.{is_ascii_digit}
use Rattle.a1_notation.specs.Area.{IsRow}
use Rattle.formula_reader.proofs.Marks.{name_read, no_name_read, digits_all, digits_some, digit_no_dollar, one_row}
use Rattle.formula_reader.proofs.tokens.corner.Coordinate.read_row.Goals as goal

pub returns-in_err-line : goal.returns-in_err-line
returns-in_err-line c =
    rw c.from_residual.ensures
    (no_name_read is_ascii_digit IsRow digits_all digits_some digit_no_dollar one_row
    c.args.text.now c.split_mark-marked.result.1.now c.split.result.0.now c.split.result.1.now
    c.split_mark-marked.result.0
    c.split_mark-marked.ensures.mark c.split_mark-marked.ensures.whole c.split.ensures.whole c.split.ensures.run
    c.in_err-line.ensures.none)

pub returns : goal.returns
returns c =
    name_read is_ascii_digit IsRow digits_all digits_some digit_no_dollar one_row
    c.args.text.now c.split_mark-marked.result.1.now c.split.result.0.now c.split.result.1.now
    c.split_mark-marked.result.0
    c.split_mark-marked.ensures.mark c.split_mark-marked.ensures.whole c.split.ensures.whole c.split.ensures.run
    c.in_ok-line.line c.in_ok-line.ensures.row
