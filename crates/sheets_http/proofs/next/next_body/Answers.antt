use Rattle.std.proofs.Common.{List, ℕ, take, ap, arith, length-take}
use Rattle.sheets_http.specs.Requests.{Buffered, room_of}
use Rattle.sheets_http.proofs.AnswerLemmas.{answer_request}
use Rattle.sheets_http.proofs.PartLemmas.{whole_has_bytes}
use Rattle.sheets_http.proofs.next.next_body.Goals as goal

pub returns-in-Ok-clause-answer : goal.returns-in-Ok-clause-answer
returns-in-Ok-clause-answer g c =
    let body = c.in-None.ensures.body in
    answer_request c.args.most c.args.buffer.now c.wait_for_body.new.buffer c.take_request.new.buffer
    (g.L.Source.left c.args.link.now) (g.L.Source.left c.wait_for_body.new.link) c.args.end c.args.summary
    c.in-Ok.wire c.wait_for_body.ensures.stream c.wait_for_body.ensures.used body.0 body.1 body.2
    c.in-Ok.ensures.buffer c.in-Ok.ensures.wire

pub returns-in-Ok-clause-shrinks : goal.returns-in-Ok-clause-shrinks
returns-in-Ok-clause-shrinks g c request =
    let body = c.in-None.ensures.body in
    let near : List ℕ = take (room_of c.args.most c.args.buffer.now) c.wait_for_body.new.buffer.pending in
    omega (
      arith,
      ap (λ (buffer : Buffered). buffer.used) c.in-Ok.ensures.buffer,
      c.wait_for_body.ensures.used,
      body.2,
      whole_has_bytes (take c.args.end near) body.0.1.here,
      length-take c.args.end near,
    )
