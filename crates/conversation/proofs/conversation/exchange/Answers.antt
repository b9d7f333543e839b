use Rattle.std.proofs.Common.{ℕ, ◌≤◌, List, Option, ap, sym, subst}
use Rattle.sheets_http.specs.Outside.{Side}
use Rattle.sheets_http.specs.Requests.{room_of, stream_of}
use Rattle.conversation.specs.Conversation.{LosesFirst}
use Rattle.conversation.proofs.LeavingLemmas.{next_left}
use Rattle.conversation.proofs.Sides.{kept}
use Rattle.conversation.proofs.ExchangeLemmas.{exchanged_beside}
use Rattle.conversation.proofs.conversation.exchange.Goals as goal

-- The read left what was written, and the act what is left to be read.
pub returns-clause-exchange : goal.returns-clause-exchange
returns-clause-exchange g c =
    let same = kept g.L.Source.beside (λ s. s.bytes) g.L.Sink.written
    (λ link. ap (λ (s : Side). s.bytes) (g.met.L.Duplex.reads_beside link))
    c.next_request-next.new.link c.args.link.now c.next_request-next.ensures.beside in
    let count = kept g.L.Source.beside (λ s. s.shortages) g.L.Sink.sink_shortages
    (λ link. ap (λ (s : Side). s.shortages) (g.met.L.Duplex.reads_beside link))
    c.next_request-next.new.link c.args.link.now c.next_request-next.ensures.beside in
    let left = kept g.L.Sink.sink_beside (λ s. s.bytes) g.L.Source.left
    (λ link. ap (λ (s : Side). s.bytes) (g.met.L.Duplex.writes_beside link))
    c.act.new.sink c.next_request-next.new.link c.act.ensures.beside in
    exchanged_beside (g.P.Replies.answers (g.P.Replies.about c.args.replies)) (room_of c.args.most c.args.buffer.now)
    (room_of c.args.most c.next_request-next.new.buffer)
    (stream_of c.args.buffer.now (g.L.Source.left c.args.link.now))
    (stream_of c.next_request-next.new.buffer (g.L.Source.left c.next_request-next.new.link))
    (stream_of c.next_request-next.new.buffer (g.L.Source.left c.act.new.sink)) (g.P.Replies.at c.args.replies)
    (g.P.Replies.at c.act.result.0)
    (g.L.Sink.written c.args.link.now) (g.L.Sink.written c.next_request-next.new.link) (g.L.Sink.written c.act.new.sink)
    (g.L.Sink.sink_shortages c.args.link.now) (g.L.Sink.sink_shortages c.next_request-next.new.link)
    (g.L.Sink.sink_shortages c.act.new.sink)
    c.next_request-next.result c.act.result.1
    c.next_request-next.ensures.answer (ap (stream_of c.next_request-next.new.buffer) left) same count
    c.act.ensures.acts

-- The act takes nothing of what the read left.
pub returns-clause-left : goal.returns-clause-left
returns-clause-left g c =
    let left = kept g.L.Sink.sink_beside (λ s. s.bytes) g.L.Source.left
    (λ link. ap (λ (s : Side). s.bytes) (g.met.L.Duplex.writes_beside link))
    c.act.new.sink c.next_request-next.new.link c.act.ensures.beside in
    subst (λ (s : Option (List ℕ)). LosesFirst (stream_of c.args.buffer.now (g.L.Source.left c.args.link.now))
    (stream_of c.next_request-next.new.buffer s)) (sym left)
    (next_left c.conversation_laws.ensures.parts (room_of c.args.most c.args.buffer.now)
    (room_of c.args.most c.next_request-next.new.buffer)
    (stream_of c.args.buffer.now (g.L.Source.left c.args.link.now))
    (stream_of c.next_request-next.new.buffer (g.L.Source.left c.next_request-next.new.link))
    c.next_request-next.result c.next_request-next.ensures.answer c.next_request-next.ensures.stream)

pub returns-clause-shortages : goal.returns-clause-shortages
returns-clause-shortages g c =
    let count = kept g.L.Source.beside (λ s. s.shortages) g.L.Sink.sink_shortages
    (λ link. ap (λ (s : Side). s.shortages) (g.met.L.Duplex.reads_beside link))
    c.next_request-next.new.link c.args.link.now c.next_request-next.ensures.beside in
    subst (λ (s : ℕ). s ≤ g.L.Sink.sink_shortages c.act.new.sink) count c.act.ensures.shortages
