use Rattle.std.proofs.Common.{ℕ, subst}
use Rattle.desk.specs.declared.entry.Ask.{Ask}
use Rattle.desk.specs.Points.{Happens}
use Rattle.workload.specs.Work.{ask_number}
use Rattle.workload.proofs.Made.{made}
use Rattle.workload.proofs.calls.make_call.Goals as goal

pub returns-clause-made : goal.returns-clause-made
returns-clause-made g c =
    let plain = g.E.Engine.plain in let before = c.args.state.now in let number = c.args.number in
    let call = c.step-reply in let told = before.list in let after = call.new.self.list in
    made plain before.pair number told after call.result
    (subst (λ (caller : ℕ). Happens plain before.pair caller (ask_number number) told after call.result)
    c.caller_number.ensures
    (subst (λ (ask : Ask). Happens plain before.pair c.caller_number.result ask told after call.result)
    c.in_ok-ask.ensures call.ensures.happens))
    c.if-reply-eq507.false call.ensures.cause
