use Rattle.std.proofs.Common.{◌∙◌, refl, arith}
use Rattle.sheets_http.specs.Requests.{room_of, stream_of}
use Rattle.conversation.specs.Conversation.{at_moment}
use Rattle.conversation.specs.Idle.{HasAnswered-none, left_alone}
use Rattle.conversation.proofs.ConversationLemmas.{HasAnswered-then, IsConversation-behind}
use Rattle.conversation.proofs.ExchangeLemmas.{Counts-then}
use Rattle.conversation.proofs.LeavingLemmas.{left_twice}
use Rattle.conversation.proofs.conversation.serve.Goals as goal

-- no request was answered yet
pub loop-ended-init : goal.loop-ended-init
loop-ended-init g c = record {
  about = refl;
  answered = HasAnswered-none (g.P.Replies.answers (g.P.Replies.about c.args.replies))
      (room_of c.args.most c.args.buffer.now) (stream_of c.args.buffer.now (g.L.Source.left c.args.link.now))
      (at_moment (g.P.Replies.at c.args.replies) (g.L.Sink.written c.args.link.now)
      (g.L.Sink.sink_shortages c.args.link.now));
  input = record { later = omega arith; stays = λ is. (is, refl) };
  output = record { later = omega arith; stays = λ is. (is, refl) };
  shortages = omega arith;
  left = left_alone (stream_of c.args.buffer.now (g.L.Source.left c.args.link.now));
  references = refl;
}

pub loop-ended-preserved : goal.loop-ended-preserved
loop-ended-preserved g c = record {
  about = c.exchange-next.ensures.about ∙ c.loop-ended.invariant.about;
  answered = HasAnswered-then (g.P.Replies.answers (g.P.Replies.about c.args.replies))
      (room_of c.args.most c.args.buffer.now)
      (room_of c.args.most c.loop-ended.buffer) (room_of c.args.most c.exchange-next.new.buffer)
      (stream_of c.args.buffer.now (g.L.Source.left c.args.link.now))
      (stream_of c.loop-ended.buffer (g.L.Source.left c.loop-ended.link))
      (stream_of c.exchange-next.new.buffer (g.L.Source.left c.exchange-next.new.link))
      (at_moment (g.P.Replies.at c.args.replies) (g.L.Sink.written c.args.link.now)
      (g.L.Sink.sink_shortages c.args.link.now))
      (at_moment (g.P.Replies.at c.loop-ended.replies) (g.L.Sink.written c.loop-ended.link)
      (g.L.Sink.sink_shortages c.loop-ended.link))
      (at_moment (g.P.Replies.at c.exchange-next.result.0) (g.L.Sink.written c.exchange-next.new.link)
      (g.L.Sink.sink_shortages c.exchange-next.new.link))
      c.loop-ended.invariant.answered
      (rw (c.loop-ended.invariant.about, c.in-None.is) at c.exchange-next.ensures.exchange);
  input = Counts-then _ _ _ _ _ _ c.loop-ended.invariant.input c.exchange-next.ensures.input;
  output = Counts-then _ _ _ _ _ _ c.loop-ended.invariant.output c.exchange-next.ensures.output;
  shortages = omega (arith, c.loop-ended.invariant.shortages, c.exchange-next.ensures.shortages);
  left = left_twice (stream_of c.args.buffer.now (g.L.Source.left c.args.link.now))
      (stream_of c.loop-ended.buffer (g.L.Source.left c.loop-ended.link))
      (stream_of c.exchange-next.new.buffer (g.L.Source.left c.exchange-next.new.link))
      c.loop-ended.invariant.left c.exchange-next.ensures.left;
  references = c.exchange-next.ensures.references ∙ c.loop-ended.invariant.references;
}

pub returns-in-Some-clause-left : goal.returns-in-Some-clause-left
returns-in-Some-clause-left g c =
    left_twice (stream_of c.args.buffer.now (g.L.Source.left c.args.link.now))
    (stream_of c.loop-ended.buffer (g.L.Source.left c.loop-ended.link))
    (stream_of c.exchange-next.new.buffer (g.L.Source.left c.exchange-next.new.link))
    c.loop-ended.invariant.left c.exchange-next.ensures.left

pub returns-in-Some-clause-served : goal.returns-in-Some-clause-served
returns-in-Some-clause-served g c =
    IsConversation-behind (g.P.Replies.answers (g.P.Replies.about c.args.replies))
    (room_of c.args.most c.args.buffer.now)
    (room_of c.args.most c.loop-ended.buffer)
    (stream_of c.args.buffer.now (g.L.Source.left c.args.link.now))
    (stream_of c.loop-ended.buffer (g.L.Source.left c.loop-ended.link))
    (at_moment (g.P.Replies.at c.args.replies) (g.L.Sink.written c.args.link.now)
    (g.L.Sink.sink_shortages c.args.link.now))
    (at_moment (g.P.Replies.at c.loop-ended.replies) (g.L.Sink.written c.loop-ended.link)
    (g.L.Sink.sink_shortages c.loop-ended.link))
    (at_moment (g.P.Replies.at c.exchange-next.result.0) (g.L.Sink.written c.exchange-next.new.link)
    (g.L.Sink.sink_shortages c.exchange-next.new.link))
    c.in-Some.ended c.loop-ended.invariant.answered
    (rw (c.loop-ended.invariant.about, c.in-Some.is) at c.exchange-next.ensures.exchange)
