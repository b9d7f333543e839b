use Rattle.std.proofs.Common.{ap, ◌∙◌}
use Rattle.history_lock.specs.Passes.{seen_by, number_of}
use Rattle.desk.specs.Desks.{pair_at, callers_at}
use Rattle.connections.specs.Calls.{Calling, ask_of}
use Rattle.connections.proofs.Responding.{call_served, said_answer, answered_for_memory}
use Rattle.connections.proofs.caller.CallerReplies.reply.Goals as goal

pub say-said-requires : goal.say-said-requires
say-said-requires g c =
    let self = c.args.self in
    call_served g.E.Engine.plain c.served_outcomes.ensures (pair_at self.desk) (callers_at self.desk)
    (number_of self.pass) c.in-Ok.ask (seen_by self.pass) (seen_by c.call-caller.result.0.pass)
    c.call-caller.result.1 c.call-caller.ensures.call

pub returns-in-Err-clause-said : goal.returns-in-Err-clause-said
returns-in-Err-clause-said g c =
    let self = c.args.self in
    answered_for_memory g.E.Engine.plain g.K.Keeper.failures g.K.Keeper.steady self.desk self.users
    (number_of self.pass) (seen_by self.pass) c.args.request

pub returns-in-Ok-clause-said : goal.returns-in-Ok-clause-said
returns-in-Ok-clause-said g c =
    let self = c.args.self in
    said_answer g.E.Engine.plain g.K.Keeper.failures g.K.Keeper.steady self.desk self.users (number_of self.pass)
    (seen_by self.pass) c.args.request (seen_by c.call-caller.result.0.pass) c.call-caller.result.1 c.in-Ok.ask
    (c.in-Ok.ensures ∙ ap (λ (u : Calling _ _ _ _). ask_of u.users c.args.request) c.self.view_is)
    c.call-caller.ensures.call c.call-caller.ensures.faults c.say-said.result c.say-said.ensures
