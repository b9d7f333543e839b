use Rattle.std.proofs.Common.{arith}
use Rattle.std.proofs.lemmas.List.{take_all}
use Rattle.a1_notation.proofs.ColumnLetters.{letters_value_bounds}
use Rattle.a1_notation.proofs.Letters.{capped_more}
use Rattle.a1_notation.proofs.column.capped_column.Goals as goal

pub loop-letter-preserved : goal.loop-letter-preserved
loop-letter-preserved c =
    let more = capped_more c.args.letters.now c.loop-letter.letter-index c.loop-letter.number
    c.to_ascii_uppercase.result c.requires.letters
    (omega arith) c.loop-letter.invariant c.to_ascii_uppercase.ensures.value in
    omega (arith, more)

pub overflow_sub-result : goal.overflow_sub-result
overflow_sub-result c =
    let all = take_all c.loop-letter.letter-index c.args.letters.now c.loop-letter-test.false in
    let bounds = letters_value_bounds c.args.letters.now c.requires.letters c.requires.some in
    let number = rw all at c.loop-letter.invariant in
    omega (arith, bounds.0)

pub returns : goal.returns
returns c =
    let all = take_all c.loop-letter.letter-index c.args.letters.now c.loop-letter-test.false in
    let bounds = letters_value_bounds c.args.letters.now c.requires.letters c.requires.some in
    let number = rw all at c.loop-letter.invariant in
    omega (arith, bounds.0)
