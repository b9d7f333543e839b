use Rattle.conversation.specs.Conversation.{at_moment}
use Rattle.conversation.proofs.ConversationLemmas.{ends_as}
use Rattle.conversation.proofs.ExchangeLemmas.{opened}
use Rattle.conversation.specs.Idle.{idle_at_once, left_alone}
use Rattle.conversation.proofs.LeavingLemmas.{left_of}
use Rattle.conversation.proofs.conversation.converse.Goals as goal

-- a new buffer holds nothing
pub returns-in-Ok-clause-served : goal.returns-in-Ok-clause-served
returns-in-Ok-clause-served g c =
    opened (g.P.Replies.answers (g.P.Replies.about c.args.replies)) (g.L.Source.left c.args.link.now) c.in-Ok.buffer
    c.args.most _ _ c.serve.result.0 c.in-Ok.ensures c.serve.ensures.served

pub returns-in-Ok-clause-ends : goal.returns-in-Ok-clause-ends
returns-in-Ok-clause-ends g c =
    ends_as (g.P.Replies.answers (g.P.Replies.about c.args.replies)) c.args.most (g.L.Source.left c.args.link.now)
    (at_moment (g.P.Replies.at c.args.replies) (g.L.Sink.written c.args.link.now)
    (g.L.Sink.sink_shortages c.args.link.now))
    (at_moment (g.P.Replies.at c.serve.result.1) (g.L.Sink.written c.serve.new.link)
    (g.L.Sink.sink_shortages c.serve.new.link))
    c.serve.result.0
    (opened (g.P.Replies.answers (g.P.Replies.about c.args.replies)) (g.L.Source.left c.args.link.now) c.in-Ok.buffer
    c.args.most _ _ c.serve.result.0 c.in-Ok.ensures c.serve.ensures.served)

-- where memory runs out at once, nothing is done
pub returns-in-Err-clause-served : goal.returns-in-Err-clause-served
returns-in-Err-clause-served g c =
    idle_at_once (g.P.Replies.answers (g.P.Replies.about c.args.replies)) c.args.most (g.L.Source.left c.args.link.now)
    (at_moment (g.P.Replies.at c.args.replies) (g.L.Sink.written c.args.link.now)
    (g.L.Sink.sink_shortages c.args.link.now))

pub returns-in-Ok-clause-left : goal.returns-in-Ok-clause-left
returns-in-Ok-clause-left g c =
    left_of c.in-Ok.buffer c.serve.new.buffer (g.L.Source.left c.args.link.now) (g.L.Source.left c.serve.new.link)
    c.in-Ok.ensures c.serve.ensures.left

pub returns-in-Err-clause-left : goal.returns-in-Err-clause-left
returns-in-Err-clause-left g c = left_alone (g.L.Source.left c.args.link.now)
