use Rattle.std.proofs.Common.{sym, subst}
use Rattle.history_lock.specs.History.{StartsWith}
use Rattle.history_lock.specs.Passes.{seen_by, number_of}
use Rattle.history_lock.specs.declared.pass.Pass.{Pass}
use Rattle.desk.specs.declared.entry.Noted.{Noted}
use Rattle.conversation.specs.Conversation.{at_moment}
use Rattle.connections.proofs.Responding.{served_goes}
use Rattle.connections.proofs.caller.converse.Goals as goal

-- each call leaves a list that begins with what was seen before it
pub returns-clause-begins : goal.returns-clause-begins
returns-clause-begins g c =
    let before = c.args in let after = c.converse-ended in
    subst (λ (p : Pass Noted). StartsWith (seen_by p) (seen_by before.pass)) (sym c.into_pass.ensures.0)
    (served_goes g.E.Engine.plain g.K.Keeper.failures g.K.Keeper.steady before.desk.now before.users.now
    (number_of before.pass) before.most
    (g.L.Source.left before.link.now)
    (at_moment (seen_by before.pass) (g.L.Sink.written before.link.now) (g.L.Sink.sink_shortages before.link.now))
    (at_moment (seen_by after.result.1.pass) (g.L.Sink.written after.new.link)
    (g.L.Sink.sink_shortages after.new.link))
    after.result.0 after.ensures.served)
