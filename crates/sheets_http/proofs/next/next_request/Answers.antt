use Rattle.std.proofs.Common.{ap, ◌∙◌, arith}
use Rattle.sheets_http.specs.declared.next.Progress.TheVariants as progress
use Rattle.sheets_http.specs.Requests.{room_of, stream_of}
use Rattle.sheets_http.proofs.AnswerLemmas.{on_stream, not_risen, exact_on_stream}
use Rattle.sheets_http.proofs.next.next_request.Goals as goal

pub returns-in-Answer-clause-answer : goal.returns-in-Answer-clause-answer
returns-in-Answer-clause-answer g c =
    on_stream c.args.most c.args.buffer.now c.loop-next.buffer (g.L.Source.left c.args.link.now)
    (g.L.Source.left c.loop-next.link) (room_of c.args.most c.read_once.new.buffer)
    (stream_of c.read_once.new.buffer (g.L.Source.left c.read_once.new.link)) c.in-Answer.next
    c.loop-next.invariant.stream c.loop-next.invariant.used c.in-Answer.ensures.progress

pub returns-in-Head-clause-answer : goal.returns-in-Head-clause-answer
returns-in-Head-clause-answer g c =
    on_stream c.args.most c.args.buffer.now c.read_once.new.buffer (g.L.Source.left c.args.link.now)
    (g.L.Source.left c.read_once.new.link) (room_of c.args.most c.next_body.new.buffer)
    (stream_of c.next_body.new.buffer (g.L.Source.left c.next_body.new.link)) c.next_body.result
    (c.loop-next.invariant.stream ∙ c.read_once.ensures.stream)
    (c.read_once.ensures.used ∙ c.loop-next.invariant.used) c.next_body.ensures.answer

pub returns-in-Head-clause-unfailing : goal.returns-in-Head-clause-unfailing
returns-in-Head-clause-unfailing g c steady failed =
    let before = c.loop-next.invariant.steady steady in
    let mid = c.read_once.ensures.steady before.0 in
    let after = c.next_body.ensures.steady mid.0 in
    not_risen (g.L.Source.faults c.read_once.new.link) (g.L.Source.faults c.next_body.new.link)
    (g.met.L.Source.steady_low c.read_once.new.link mid.0) after.1 (c.next_body.ensures.fault failed)

pub returns-in-Answer-clause-exactly : goal.returns-in-Answer-clause-exactly
returns-in-Answer-clause-exactly g c =
    exact_on_stream c.args.most c.args.buffer.now c.loop-next.buffer (g.L.Source.left c.args.link.now)
    (g.L.Source.left c.loop-next.link) (room_of c.args.most c.read_once.new.buffer)
    (stream_of c.read_once.new.buffer (g.L.Source.left c.read_once.new.link))
    (g.L.Source.faults c.args.link.now) (g.L.Source.faults c.loop-next.link)
    (g.L.Source.faults c.read_once.new.link) c.in-Answer.next c.loop-next.invariant.stream
    c.loop-next.invariant.used c.loop-next.invariant.later c.in-Answer.ensures.progress
    (λ e. c.in-Answer.ensures.fault (ap progress.Answer e))

pub returns-in-Head-clause-exactly : goal.returns-in-Head-clause-exactly
returns-in-Head-clause-exactly g c =
    exact_on_stream c.args.most c.args.buffer.now c.read_once.new.buffer (g.L.Source.left c.args.link.now)
    (g.L.Source.left c.read_once.new.link) (room_of c.args.most c.next_body.new.buffer)
    (stream_of c.next_body.new.buffer (g.L.Source.left c.next_body.new.link))
    (g.L.Source.faults c.args.link.now) (g.L.Source.faults c.read_once.new.link)
    (g.L.Source.faults c.next_body.new.link) c.next_body.result
    (c.loop-next.invariant.stream ∙ c.read_once.ensures.stream)
    (c.read_once.ensures.used ∙ c.loop-next.invariant.used)
    (omega (arith, c.loop-next.invariant.later, c.read_once.ensures.later))
    c.next_body.ensures.answer c.next_body.ensures.fault
