use Rattle.std.proofs.Common.{◌≡◌, List, length, take, refl, ap, ◌∙◌, sym, subst, arith, ℕ, ◌+◌}
use Rattle.std.specs.Prelude.{Ok}
use Rattle.sheets_http.specs.declared.request.Next.{Next}
use Rattle.sheets_http.specs.Heads.{skip_breaks}
use Rattle.sheets_http.specs.Requests.{room_of, stream_of}
use Rattle.sheets_http.specs.Buffering.{end_answer}
use Rattle.sheets_http.proofs.AnswerLemmas.{Answers, room_is, not_whole, few_bytes, scanned_with_more, body_untold, body_too_long, body_cut}
use Rattle.sheets_http.proofs.next.wait_for_body.Goals as goal

pub overflow_add-whole : goal.overflow_add-whole
overflow_add-whole g c =
    let small = few_bytes (take (room_of c.args.most c.args.buffer.now) c.args.buffer.now.pending) c.args.end
    c.args.summary.now c.requires in
    omega (arith, small)

pub returns-then-room-held-clause-body : goal.returns-then-room-held-clause-body
returns-then-room-held-clause-body g c =
    let room = room_is c.args.most c.saturating_sub-room.result c.used.result c.args.buffer.now
    c.saturating_sub-room.ensures c.used.ensures in
    body_too_long c.args.most c.args.buffer.now c.body.buffer (g.L.Source.left c.args.link.now)
    (g.L.Source.left c.body.link) (stream_of c.body.buffer (g.L.Source.left c.body.link))
    (room_of c.args.most c.body.buffer) c.args.end c.args.summary.now c.body.invariant.stream
    c.body.invariant.used c.body.invariant.head
    (not_whole (room_of c.args.most c.args.buffer.now) c.saturating_sub-room.result c.min.result
    (c.args.end + c.args.summary.now.length) c.body.buffer.pending c.pending.result.now room
    c.pending.ensures (omega (arith, c.min.ensures)) (omega (arith, c.if-whole-min.false)))
    (omega (arith, room, c.if-room-held.true, ap length c.pending.ensures))

pub returns-in-Ok-eq0-clause-body : goal.returns-in-Ok-eq0-clause-body
returns-in-Ok-eq0-clause-body g c =
    let room = room_is c.args.most c.saturating_sub-room.result c.used.result c.args.buffer.now
    c.saturating_sub-room.ensures c.used.ensures in
    let nothing : c.fill.result ≡ Ok 0 = cc (c.in-Ok-eq0.is, c.in-Ok-eq0.field-0-test) in
    let same = c.fill.ensures.end nothing in
    let head = scanned_with_more (room_of c.args.most c.args.buffer.now) c.body.buffer.pending
    c.fill.new.self.pending c.args.end c.args.summary.now c.fill.ensures.kept c.body.invariant.head in
    let cut = body_cut c.args.most c.args.buffer.now c.fill.new.self c.fill.new.self
    (g.L.Source.left c.args.link.now) (g.L.Source.left c.fill.new.source)
    (stream_of c.fill.new.self (g.L.Source.left c.fill.new.source)) (room_of c.args.most c.fill.new.self)
    c.args.end c.args.summary.now (c.body.invariant.stream ∙ c.fill.ensures.stream)
    (c.fill.ensures.used ∙ c.body.invariant.used) head
    (not_whole (room_of c.args.most c.args.buffer.now) c.saturating_sub-room.result c.min.result
    (c.args.end + c.args.summary.now.length) c.fill.new.self.pending c.pending.result.now room
    (c.pending.ensures ∙ sym same) (omega (arith, c.min.ensures)) (omega (arith, c.if-whole-min.false)))
    (omega (arith, room, c.if-room-held.false, ap length c.pending.ensures, ap length same))
    refl (c.fill.ensures.no_more nothing) in
    let told : c.end_of.result ≡ end_answer (skip_breaks c.fill.new.self.pending) =
    c.end_of.ensures ∙ ap (λ (t : List ℕ). end_answer (skip_breaks t)) c.pending-in-Ok-eq0.ensures in
    subst (λ (a : Next). Answers c.args.most c.args.buffer.now (g.L.Source.left c.args.link.now)
    (room_of c.args.most c.fill.new.self) (stream_of c.fill.new.self (g.L.Source.left c.fill.new.source)) a)
    (sym told) cut

pub returns-in-Ok-eq0-clause-held : goal.returns-in-Ok-eq0-clause-held
returns-in-Ok-eq0-clause-held g c holds =
    let room = room_is c.args.most c.saturating_sub-room.result c.used.result c.args.buffer.now
    c.saturating_sub-room.ensures c.used.ensures in
    absurd (body_untold c.args.most c.args.buffer.now c.body.buffer c.args.end c.args.summary.now
    (c.body.invariant.held holds).1 c.body.invariant.head
    (not_whole (room_of c.args.most c.args.buffer.now) c.saturating_sub-room.result c.min.result
    (c.args.end + c.args.summary.now.length) c.body.buffer.pending c.pending.result.now room
    c.pending.ensures (omega (arith, c.min.ensures)) (omega (arith, c.if-whole-min.false))) holds)

pub returns-in-Err-Failed-clause-held : goal.returns-in-Err-Failed-clause-held
returns-in-Err-Failed-clause-held g c holds =
    let room = room_is c.args.most c.saturating_sub-room.result c.used.result c.args.buffer.now
    c.saturating_sub-room.ensures c.used.ensures in
    absurd (body_untold c.args.most c.args.buffer.now c.body.buffer c.args.end c.args.summary.now
    (c.body.invariant.held holds).1 c.body.invariant.head
    (not_whole (room_of c.args.most c.args.buffer.now) c.saturating_sub-room.result c.min.result
    (c.args.end + c.args.summary.now.length) c.body.buffer.pending c.pending.result.now room
    c.pending.ensures (omega (arith, c.min.ensures)) (omega (arith, c.if-whole-min.false))) holds)

pub returns-in-Err-NoMemory-clause-held : goal.returns-in-Err-NoMemory-clause-held
returns-in-Err-NoMemory-clause-held g c holds =
    let room = room_is c.args.most c.saturating_sub-room.result c.used.result c.args.buffer.now
    c.saturating_sub-room.ensures c.used.ensures in
    absurd (body_untold c.args.most c.args.buffer.now c.body.buffer c.args.end c.args.summary.now
    (c.body.invariant.held holds).1 c.body.invariant.head
    (not_whole (room_of c.args.most c.args.buffer.now) c.saturating_sub-room.result c.min.result
    (c.args.end + c.args.summary.now.length) c.body.buffer.pending c.pending.result.now room
    c.pending.ensures (omega (arith, c.min.ensures)) (omega (arith, c.if-whole-min.false))) holds)

pub body-preserved : goal.body-preserved
body-preserved g c = record {
  stream = c.body.invariant.stream ∙ c.fill.ensures.stream;
  used = c.fill.ensures.used ∙ c.body.invariant.used;
  head = scanned_with_more (room_of c.args.most c.args.buffer.now) c.body.buffer.pending c.fill.new.self.pending
      c.args.end c.args.summary.now c.fill.ensures.kept c.body.invariant.head;
  held = λ holds.
      let room = room_is c.args.most c.saturating_sub-room.result c.used.result c.args.buffer.now
      c.saturating_sub-room.ensures c.used.ensures in
      absurd (body_untold c.args.most c.args.buffer.now c.body.buffer c.args.end c.args.summary.now
      (c.body.invariant.held holds).1 c.body.invariant.head
      (not_whole (room_of c.args.most c.args.buffer.now) c.saturating_sub-room.result c.min.result
      (c.args.end + c.args.summary.now.length) c.body.buffer.pending c.pending.result.now room
      c.pending.ensures (omega (arith, c.min.ensures)) (omega (arith, c.if-whole-min.false))) holds);
  later = omega (arith, c.body.invariant.later, c.fill.ensures.later);
  steady = λ s.
      let before = c.body.invariant.steady s in
      let after = c.fill.ensures.steady before.0 in
      (after.0, after.1 ∙ before.1);
  beside = c.fill.ensures.beside ∙ c.body.invariant.beside;
}
