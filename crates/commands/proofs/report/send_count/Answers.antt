use Rattle.std.proofs.Common.{◌≡◌, ℕ, List, Ok, Err, codes, subst, ◌∙◌}
use Rattle.std.specs.Fmt.{decimal}
use Rattle.conversation.specs.Exchanges.{Sends}
use Rattle.commands.proofs.SendLemmas.{Sends-then, Sends-cut}
use Rattle.commands.proofs.report.send_count.Goals as goal

-- What is sent first are the digits of the number.

pub returns-in-Ok-clause-sends : goal.returns-in-Ok-clause-sends
returns-in-Ok-clause-sends g c =
    let digits : c.as_bytes.result.now ≡ decimal c.args.count = c.as_bytes.ensures.value ∙ c.format.ensures.text in
    Sends-then _ _ _ (decimal c.args.count) (codes "\n") c.in-Ok.field-0 _
    (subst (λ (d : List ℕ). Sends (g.S.Sink.written c.args.sink.now) (g.S.Sink.written c.send_all.new.sink) d
    (Ok c.in-Ok.field-0)) digits c.in-Ok.ensures.sent)
    c.send_all-in-Ok.ensures.sent

pub returns-in-Err-clause-sends : goal.returns-in-Err-clause-sends
returns-in-Err-clause-sends g c =
    let digits : c.as_bytes.result.now ≡ decimal c.args.count = c.as_bytes.ensures.value ∙ c.format.ensures.text in
    Sends-cut _ _ (decimal c.args.count) (codes "\n") c.in-Err.fault
    (subst (λ (d : List ℕ). Sends (g.S.Sink.written c.args.sink.now) (g.S.Sink.written c.send_all.new.sink) d
    (Err c.in-Err.fault)) digits c.in-Err.ensures.sent)
