use Rattle.std.proofs.Common.{sym, ◌∙◌, rules}
use Rattle.a1_notation.proofs.Letters.{AnswersColumn, answers_column}
use Rattle.a1_notation.proofs.column.read_column.Goals as goal

answers : (c : goal.After-then_some) → AnswersColumn c.args.text.now c.then_some.result
answers c =
    let letters = sym c.are_letters.ensures ∙ c.if-not-are_letters.false in
    let found = answers_column c.as_bytes-letters.result.now c.capped_column-column.result c.then_some.result letters
    (search rules) c.capped_column-column.ensures c.then_some.ensures in
    rw c.as_bytes-letters.ensures.value at found

pub returns-clause-column : goal.returns-clause-column
returns-clause-column c = (answers c).column

pub returns-clause-letters : goal.returns-clause-letters
returns-clause-letters c = (answers c).letters

pub returns-clause-only : goal.returns-clause-only
returns-clause-only c = (answers c).only

pub returns-clause-upper_case : goal.returns-clause-upper_case
returns-clause-upper_case c = (answers c).upper_case
