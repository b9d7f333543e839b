use Rattle.std.proofs.Common.{ℕ, List, Some, refl, subst}
use Rattle.conversation.specs.Responses.{no_memory_text, IsSaid}
use Rattle.conversation.specs.declared.replies.Said.{Said}
use Rattle.conversation.specs.declared.ended.Ended.TheVariants as how
use Rattle.conversation.specs.Exchanges.{SendsOne, responds, loses}
use Rattle.conversation.proofs.conversation.answer.Goals as goal

-- the response is sent
pub returns-in-Response-clause-answers : goal.returns-in-Response-clause-answers
returns-in-Response-clause-answers g c =
    responds c.in-Response.response
    (subst (λ (s : Said). IsSaid (g.P.Replies.answers (g.P.Replies.about c.args.replies) (g.P.Replies.at c.args.replies)
    c.args.request (g.P.Replies.at c.reply-replies.result.0)) c.args.request.close s) c.in-Response.is
    c.reply-replies.ensures.said)
    (subst (λ (bytes : List ℕ). SendsOne bytes c.args.request.close (g.S.Sink.written c.args.sink.now)
    (g.S.Sink.written c.respond.new.sink) (g.S.Sink.sink_shortages c.args.sink.now)
    (g.S.Sink.sink_shortages c.respond.new.sink) c.respond.result) c.as_slice.ensures c.respond.ensures.sends)

-- where memory ran out, the constant one is
pub returns-in-Constant-clause-answers : goal.returns-in-Constant-clause-answers
returns-in-Constant-clause-answers g c =
    responds (no_memory_text c.args.request.close)
    (subst (λ (s : Said). IsSaid (g.P.Replies.answers (g.P.Replies.about c.args.replies) (g.P.Replies.at c.args.replies)
    c.args.request (g.P.Replies.at c.reply-replies.result.0)) c.args.request.close s) c.in-Constant.is
    c.reply-replies.ensures.said)
    (subst (λ (bytes : List ℕ). SendsOne bytes c.args.request.close (g.S.Sink.written c.args.sink.now)
    (g.S.Sink.written c.respond-in-Constant.new.sink) (g.S.Sink.sink_shortages c.args.sink.now)
    (g.S.Sink.sink_shortages c.respond-in-Constant.new.sink) c.respond-in-Constant.result) c.no_memory_reply.ensures
    c.respond-in-Constant.ensures.sends)

-- where none was left for the response, nothing is sent
pub returns-in-Lost-clause-answers : goal.returns-in-Lost-clause-answers
returns-in-Lost-clause-answers g c =
    let lost = subst (λ (s : Said). IsSaid (g.P.Replies.answers (g.P.Replies.about c.args.replies)
    (g.P.Replies.at c.args.replies) c.args.request (g.P.Replies.at c.reply-replies.result.0)) c.args.request.close s)
    c.in-Lost.is c.reply-replies.ensures.said in
    loses lost.0 lost.1 (refl {a = g.S.Sink.written c.args.sink.now}) (refl {a = Some how.NoMemory})
