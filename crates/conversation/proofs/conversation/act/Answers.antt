use Rattle.std.proofs.Common.{sym, subst}
use Rattle.sheets_http.specs.declared.request.Next.{Next}
use Rattle.conversation.specs.Conversation.{at_moment}
use Rattle.conversation.specs.Exchanges.{Acts}
use Rattle.conversation.proofs.conversation.act.Goals as goal

pub returns-in-Request-clause-acts : goal.returns-in-Request-clause-acts
returns-in-Request-clause-acts g c =
    subst (λ (next : Next). Acts (g.P.Replies.answers (g.P.Replies.about c.args.replies)) next
    (at_moment (g.P.Replies.at c.args.replies) (g.S.Sink.written c.args.sink.now)
    (g.S.Sink.sink_shortages c.args.sink.now))
    (at_moment (g.P.Replies.at c.answer.result.0) (g.S.Sink.written c.answer.new.sink)
    (g.S.Sink.sink_shortages c.answer.new.sink)) c.answer.result.1) (sym c.in-Request.is) c.answer.ensures.answers
