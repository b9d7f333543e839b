use Rattle.std.proofs.Common.{ℕ, ◌<◌, ◌^◌, ◌∙◌, arith, subst}
use Rattle.std.proofs.lemmas.Bool.{iff_false}
use Rattle.command_line.specs.Words.{IsNumber}
use Rattle.command_line.proofs.Given.{never, same_given}
use Rattle.command_line.proofs.Numbers.{number_begins, number_read, number_parsed}
use Rattle.command_line.proofs.number.read_number.Goals as goal

pub returns-then-not-begins_positive : goal.returns-then-not-begins_positive
returns-then-not-begins_positive c = λ number. (
  λ none. absurd (never number none),
  λ is. let small : c.args.most < 2 ^ 32 = omega (arith, c.ranges.most.fits) in
      absurd (iff_false c.begins_positive.ensures c.if-not-begins_positive.true
      (number_begins c.args.most c.args.text.now number small is)),
)

pub returns-in_err-number : goal.returns-in_err-number
returns-in_err-number c = rw c.from_residual.ensures (λ number. (
  λ none. absurd (never number none),
  λ is. let small : c.args.most < 2 ^ 32 = omega (arith, c.ranges.most.fits) in
      c.in_err-number.ensures.value
      ∙ number_parsed c.args.most c.args.text.now number c.parse.result small c.parse.ensures.value.0 is,
))

pub returns-then-number-most : goal.returns-then-number-most
returns-then-number-most c = λ number. (
  λ none. absurd (never number none),
  λ is. let small : c.args.most < 2 ^ 32 = omega (arith, c.ranges.most.fits) in
      let same = same_given c.in_ok-number.number number (c.in_ok-number.ensures.value
      ∙ number_parsed c.args.most c.args.text.now number c.parse.result small c.parse.ensures.value.0 is) in
      absurd (omega (arith, same, is.2, c.if-number-most.true)),
)

pub returns : goal.returns
returns c = λ number. (
  λ some. subst (λ (n : ℕ). IsNumber c.args.most c.args.text.now n) (same_given c.in_ok-number.number number some)
      (number_read c.args.most c.args.text.now c.in_ok-number.number c.parse.result
      (c.begins_positive.ensures.0 c.if-not-begins_positive.false) c.in_ok-number.ensures.value
      c.parse.ensures.value.0 (omega (arith, c.if-number-most.false))),
  λ is. let small : c.args.most < 2 ^ 32 = omega (arith, c.ranges.most.fits) in
      c.in_ok-number.ensures.value
      ∙ number_parsed c.args.most c.args.text.now number c.parse.result small c.parse.ensures.value.0 is,
)
