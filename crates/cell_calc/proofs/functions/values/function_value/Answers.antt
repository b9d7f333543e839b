use Rattle.std.proofs.Common.{◌≡◌, length, get_or, arith, subst, sym, ◌∙◌}
use Rattle.std.specs.Prelude.{IfOk}
use Rattle.cell_value.specs.declared.cell.Value.TheVariants.{Blank}
use Rattle.cell_calc.specs.Arguments.{single}
use Rattle.cell_calc.specs.Lent.{StandsFor}
use Rattle.cell_calc.specs.FunctionValues.{function_value}
use Rattle.cell_calc.proofs.Listed.{as_many, stands_at, of_two_elements, of_three_elements}
use Rattle.cell_calc.proofs.Many.{none_of_many}
use Rattle.cell_calc.proofs.functions.values.function_value.Goals as goal

pub returns-in-len2 : goal.returns-in-len2
returns-in-len2 c = λ given stand.
    let lent = c.args.arguments.now in
    let blank = single Blank in
    let x = get_or given 0 blank in
    let y = get_or given 1 blank in
    let count : length given ≡ 2 =
    omega (arith, as_many lent given stand, c.in-len2.len_at_least, c.in-len2.len_below) in
    let one = stands_at lent given stand 0 c.one-item-then-arguments-lt3.result blank
    (omega (arith, c.in-len2.len_at_least)) in
    let other = stands_at lent given stand 1 c.other-item.result blank (omega (arith, c.in-len2.len_at_least)) in
    subst (λ l. IfOk c.of_two.result (λ value. value ≡ function_value c.args.function l))
    (sym (of_two_elements given blank count))
    (c.of_two.ensures x y
    (subst (λ a. StandsFor a x) (sym c.one-item-then-arguments-lt3.is) one)
    (subst (λ a. StandsFor a y) (sym c.other-item.is) other))

pub returns-in-len3 : goal.returns-in-len3
returns-in-len3 c = λ given stand.
    let lent = c.args.arguments.now in
    let blank = single Blank in
    let x = get_or given 0 blank in
    let y = get_or given 1 blank in
    let z = get_or given 2 blank in
    let count : length given ≡ 3 =
    omega (arith, as_many lent given stand, c.in-len3.len_at_least, c.in-len3.len_below) in
    let one = stands_at lent given stand 0 c.one-item-then-arguments-lt4.result blank
    (omega (arith, c.in-len3.len_at_least)) in
    let other = stands_at lent given stand 1 c.other-item-then-arguments-lt4.result blank
    (omega (arith, c.in-len3.len_at_least)) in
    let third = stands_at lent given stand 2 c.third-item.result blank (omega (arith, c.in-len3.len_at_least)) in
    subst (λ l. IfOk c.of_three.result (λ value. value ≡ function_value c.args.function l))
    (sym (of_three_elements given blank count))
    (c.of_three.ensures x y z
    (subst (λ a. StandsFor a x) (sym c.one-item-then-arguments-lt4.is) one)
    (subst (λ a. StandsFor a y) (sym c.other-item-then-arguments-lt4.is) other)
    (subst (λ a. StandsFor a z) (sym c.third-item.is) third))

pub returns-in-len4-up : goal.returns-in-len4-up
returns-in-len4-up c = λ given stand.
    none_of_many c.args.function (sym c.takes_any.ensures ∙ c.if-takes_any.false) given
    (omega (arith, as_many c.args.arguments.now given stand, c.in-len4-up.len_at_least))
