use Rattle.command_line.proofs.Splits.{value_in, name_in}
use Rattle.command_line.proofs.word.is_option.Goals as goal

pub returns-in-Some : goal.returns-in-Some
returns-in-Some c =
    let is = value_in c.args.text.now c.in-Some.field-0-0 c.in-Some.value c.in-Some.ensures.cases in
    (λ yes. is.1 (c.is_value.ensures.0 yes), λ fits. c.is_value.ensures.1 (is.0 fits))

pub returns-in-None : goal.returns-in-None
returns-in-None c = name_in c.args.text.now c.is_empty.result c.in-None.ensures.cases c.is_empty.ensures
