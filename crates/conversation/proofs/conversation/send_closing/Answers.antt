use Rattle.std.proofs.Common.{true, ℕ, List, refl, subst}
use Rattle.conversation.specs.Responses.{no_memory_text}
use Rattle.conversation.specs.Conversation.{says_why, closed_for_memory}
use Rattle.conversation.specs.Exchanges.{Sends}
use Rattle.conversation.proofs.conversation.send_closing.Goals as goal

-- where memory ran out, the constant response is sent
pub returns-in-Err-clause-response : goal.returns-in-Err-clause-response
returns-in-Err-clause-response g c = record {
  response = no_memory_text true;
  is_closing = closed_for_memory refl;
  sends = subst (λ (bytes : List ℕ). Sends (g.S.Sink.written c.args.sink.now)
      (g.S.Sink.written c.send_all-in-Err.new.sink) bytes c.send_all-in-Err.result)
      c.no_memory_reply.ensures c.send_all-in-Err.ensures.sent;
  counts = record { later = c.send_all-in-Err.ensures.short_later; cause = c.send_all-in-Err.ensures.short };
}

-- else the closing one
pub returns-in-Ok-clause-response : goal.returns-in-Ok-clause-response
returns-in-Ok-clause-response g c = record {
  response = c.in-Ok.closing;
  is_closing = says_why c.in-Ok.ensures;
  sends = subst (λ (bytes : List ℕ). Sends (g.S.Sink.written c.args.sink.now) (g.S.Sink.written c.send_all.new.sink)
      bytes c.send_all.result)
      c.as_slice.ensures c.send_all.ensures.sent;
  counts = record { later = c.send_all.ensures.short_later; cause = c.send_all.ensures.short };
}
