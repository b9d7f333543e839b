use Rattle.std.proofs.Common.{ℕ}
use Rattle.std.specs.Char.{is_ascii_alphabetic}
use Rattle.a1_notation.specs.Column.{IsColumn}
use Rattle.formula_reader.proofs.Marks.{name_read, no_name_read, letters_all, letters_some, letter_no_dollar, one_column}
use Rattle.formula_reader.proofs.tokens.corner.Coordinate.read_column.Goals as goal

pub returns-in_err-line : goal.returns-in_err-line
returns-in_err-line c =
    let none : (column : ℕ) → ¬ (IsColumn 3 c.split.result.0.now column) =
    λ column is. (let same = c.read_column.ensures.only column is in let none = c.in_err-line.was in cc) in
    rw c.from_residual.ensures
    (no_name_read is_ascii_alphabetic (IsColumn 3) letters_all letters_some letter_no_dollar one_column
    c.args.text.now c.split_mark-marked.result.1.now c.split.result.0.now c.split.result.1.now
    c.split_mark-marked.result.0
    c.split_mark-marked.ensures.mark c.split_mark-marked.ensures.whole c.split.ensures.whole c.split.ensures.run none)

pub returns : goal.returns
returns c =
    name_read is_ascii_alphabetic (IsColumn 3) letters_all letters_some letter_no_dollar one_column
    c.args.text.now c.split_mark-marked.result.1.now c.split.result.0.now c.split.result.1.now
    c.split_mark-marked.result.0
    c.split_mark-marked.ensures.mark c.split_mark-marked.ensures.whole c.split.ensures.whole c.split.ensures.run
    c.in_ok-line.line c.in_ok-line.ensures.column
