use Rattle.std.proofs.Common.{◌∙◌, arith, length-take, length-drop, ℕ}
use Rattle.sheets_http.proofs.OutputLemmas.{sent_more, sent_some}
use Rattle.sheets_http.proofs.sending.send_all.Goals as goal

pub loop-sent-preserved : goal.loop-sent-preserved
loop-sent-preserved g c = record {
  within = omega (arith, c.in-Ok.ensures.bound, length-take {A = ℕ}, length-drop {A = ℕ});
  written = sent_more (g.S.Sink.written c.args.sink.now) (g.S.Sink.written c.loop-sent.sink)
      (g.S.Sink.written c.write.new.self) c.args.bytes.now c.loop-sent.sent c.in-Ok.count
      c.loop-sent.invariant.written c.in-Ok.ensures.bytes;
  later = omega (arith, c.loop-sent.invariant.later, c.write.ensures.later);
  short_later = omega (arith, c.loop-sent.invariant.short_later, c.write.ensures.short_later);
  steady = λ s.
      let before = c.loop-sent.invariant.steady s in
      let after = c.write.ensures.steady before.0 in
      (after.0, after.1 ∙ before.1);
  beside = c.write.ensures.beside ∙ c.loop-sent.invariant.beside;
}

pub returns-in-Err-clause-sent : goal.returns-in-Err-clause-sent
returns-in-Err-clause-sent g c =
    sent_some (g.S.Sink.written c.args.sink.now) (g.S.Sink.written c.loop-sent.sink)
    (g.S.Sink.written c.write.new.self) c.args.bytes.now c.loop-sent.sent c.in-Err.fault
    c.loop-sent.invariant.written c.in-Err.ensures.bytes
