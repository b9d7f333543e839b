use Rattle.std.specs.Option.{option_copied}
use Rattle.std.specs.Prelude.{codes}
use Rattle.std.proofs.Common.{ap, sym, ◌∙◌, arith}
use Rattle.command_line.specs.Words.{IsOf, serve}
use Rattle.command_line.specs.declared.command.TheConstants.{MOST_PORT, MOST_CONNECTIONS}
use Rattle.command_line.proofs.Commands.{missing, none_found, only, serve_needs, some_only, unread}
use Rattle.command_line.proofs.command.serve.Goals as goal

pub returns-in_err-get_str : goal.returns-in_err-get_str
returns-in_err-get_str c = λ words has. rw c.from_residual.ensures
    (none_found (λ command. IsOf (codes "serve") command words) (λ command of.
    let needs = serve_needs has.0 words has.1 command of in
    missing needs.2.0 _ _ (ap option_copied (sym c.in_err-get_str.was) ∙ c.get_str.ensures) (has.2 (codes "port"))
    needs.2.1))

pub returns-in_err-port : goal.returns-in_err-port
returns-in_err-port c = λ words has. rw c.from_residual-in_err-port.ensures
    (none_found (λ command. IsOf (codes "serve") command words) (λ command of.
    let needs = serve_needs has.0 words has.1 command of in
    unread MOST_PORT needs.0 c.in_ok-get_str.field-0.now needs.2.0 c.read_number.result (sym c.in_err-port.was)
    c.read_number.ensures
    (sym (ap option_copied c.in_ok-get_str.was) ∙ c.get_str.ensures ∙ has.2 (codes "port") ∙ needs.2.1) needs.2.2))

pub returns-in_err-get_str-2 : goal.returns-in_err-get_str-2
returns-in_err-get_str-2 c = λ words has. rw c.from_residual-in_err-get_str-2.ensures
    (none_found (λ command. IsOf (codes "serve") command words) (λ command of.
    let needs = serve_needs has.0 words has.1 command of in
    missing needs.3.0 _ _ (ap option_copied (sym c.in_err-get_str-2.was) ∙ c.get_str-2.ensures) (has.2 (codes "limit"))
    needs.3.1))

pub returns-in_err-limit : goal.returns-in_err-limit
returns-in_err-limit c = λ words has. rw c.from_residual-in_err-limit.ensures
    (none_found (λ command. IsOf (codes "serve") command words) (λ command of.
    let needs = serve_needs has.0 words has.1 command of in
    unread MOST_CONNECTIONS needs.1 c.in_ok-get_str-2.field-0.now needs.3.0 c.read_number-2.result
    (sym c.in_err-limit.was) c.read_number-2.ensures
    (sym (ap option_copied c.in_ok-get_str-2.was) ∙ c.get_str-2.ensures ∙ has.2 (codes "limit") ∙ needs.3.1) needs.3.2))

pub overflow_cast-result : goal.overflow_cast-result
overflow_cast-result c =
    let is = (c.read_number.ensures c.in_ok-port.port).0 c.in_ok-port.was in
    omega (arith, is.2)

pub returns : goal.returns
returns c = λ words has.
    let found = serve c.in_ok-port.port c.in_ok-limit.limit (option_copied c.get_str-3.result)
    (option_copied c.get_str-4.result) in
    some_only found (codes "serve") words (only found words (
      has.0,
      has.1,
      (
        c.in_ok-get_str.field-0.now,
        sym (has.2 (codes "port")) ∙ sym c.get_str.ensures ∙ ap option_copied c.in_ok-get_str.was,
        (c.read_number.ensures c.in_ok-port.port).0 c.in_ok-port.was,
      ),
      (
        c.in_ok-get_str-2.field-0.now,
        sym (has.2 (codes "limit")) ∙ sym c.get_str-2.ensures ∙ ap option_copied c.in_ok-get_str-2.was,
        (c.read_number-2.ensures c.in_ok-limit.limit).0 c.in_ok-limit.was,
      ),
      c.get_str-3.ensures ∙ has.2 (codes "users"),
      c.get_str-4.ensures ∙ has.2 (codes "journal"),
    ))
