use Rattle.std.proofs.Common.{◌<◌, ◌^◌, arith, w64}
use Rattle.std.proofs.lemmas.Int.{to_z_pos}
use Rattle.formula_reader.proofs.Numbers.{number_read, no_number_read, digits_parsed, digits_not_parsed}
use Rattle.formula_reader.proofs.tokens.number.read_number.Goals as goal

pub returns-in_err-number : goal.returns-in_err-number
returns-in_err-number c =
    rw c.from_residual.ensures
    (no_number_read c.args.text.now c.split.result.0.now c.split.result.1.now c.split.ensures.whole c.split.ensures.run
    (digits_not_parsed c.split.result.0.now c.parse.result c.split.ensures.run.all c.parse.ensures.value.0
    c.in_err-number.ensures.value))

pub returns-then-number-gt-LARGEST : goal.returns-then-number-gt-LARGEST
returns-then-number-gt-LARGEST c =
    let parsed =
    digits_parsed c.split.result.0.now c.in_ok-number.number c.parse.result c.split.ensures.run.all
    c.parse.ensures.value.0 c.in_ok-number.ensures.value in
    no_number_read c.args.text.now c.split.result.0.now c.split.result.1.now c.split.ensures.whole c.split.ensures.run
    (λ is. absurd (omega (arith, is.1, parsed.1)))

pub returns : goal.returns
returns c =
    let parsed =
    digits_parsed c.split.result.0.now c.in_ok-number.number c.parse.result c.split.ensures.run.all
    c.parse.ensures.value.0 c.in_ok-number.ensures.value in
    let small : c.in_ok-number.number < 2 ^ 63 = omega arith in
    let cast = to_z_pos w64 c.in_ok-number.number small in
    rw (cast, parsed.1)
    (number_read c.args.text.now c.split.result.0.now c.split.result.1.now c.split.ensures.whole c.split.ensures.run
    (omega (arith, parsed.1)) parsed.0)
