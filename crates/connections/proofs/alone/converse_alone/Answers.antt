use Rattle.std.proofs.Common.{ℕ, List, [], Some, refl, ap, ◌∙◌}
use Rattle.history_lock.specs.Passes.{seen_by, number_of}
use Rattle.desk.specs.declared.entry.Entry.{Entry}
use Rattle.desk.specs.Points.{entries_of}
use Rattle.conversation.specs.Conversation.{at_moment}
use Rattle.conversation.specs.Idle.{idle_at_once}
use Rattle.connections.specs.Alone.{IsReply, IsResponse}
use Rattle.connections.proofs.NobodyElse.{served_alone}
use Rattle.connections.proofs.alone.converse_alone.Goals as goal

-- a conversation at a desk of one caller is one behind a history of its own
pub returns-in-Ok-clause-served : goal.returns-in-Ok-clause-served
returns-in-Ok-clause-served g c =
    let made = c.in-Ok in let before = c.args.link.now in let spoken = c.converse-ended in
    let after = at_moment (seen_by spoken.result.1) (g.L.Sink.written spoken.new.link)
    (g.L.Sink.sink_shortages spoken.new.link) in (
      entries_of (seen_by spoken.result.1),
      served_alone g.E.Engine.plain (λ (keeper : List ℕ). 0) _ made.desk c.args.users.now made.ensures.callers
          made.ensures.pair (λ keeper. refl) (number_of made.pass) (seen_by made.pass) c.args.most
          (g.L.Source.left before) (g.L.Sink.written before) (g.L.Sink.sink_shortages before) after spoken.result.0
          made.ensures.pass.2
          (made.ensures.pass.1 ∙ made.ensures.empty (ap Some (c.new-keeper.ensures ∙ c.new.ensures.items)))
          spoken.ensures.served,
    )

-- where there is no memory for a desk, nothing is done
pub returns-clause-served : goal.returns-clause-served
returns-clause-served g c = (
  [],
  idle_at_once (IsResponse {State = List Entry} (IsReply g.E.Engine.plain c.args.users.now)) c.args.most
      (g.L.Source.left c.args.link.now)
      (at_moment {State = List Entry} [] (g.L.Sink.written c.args.link.now) (g.L.Sink.sink_shortages c.args.link.now)),
)
