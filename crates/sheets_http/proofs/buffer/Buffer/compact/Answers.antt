use Rattle.std.proofs.Common.{◌∙◌, List, ℕ, arith, sym, ap, subst}
use Rattle.sheets_http.specs.Requests.{Buffered}
use Rattle.sheets_http.specs.Buffering.{IsReady}
use Rattle.sheets_http.proofs.ListLemmas.{moved_to_front}
use Rattle.sheets_http.proofs.buffer.Buffer.compact.Goals as goal

pub invariant_of-self : goal.invariant_of-self
invariant_of-self c = (
  omega arith,
  omega arith,
  subst (λ (t : List ℕ). IsReady c.self.inside.scan t)
      (sym (moved_to_front c.self.inside.bytes.items c.copy_within.new.self.items c.self.inside.start
      c.self.inside.end (omega arith) c.copy_within.ensures.items))
      c.self.invariant.2,
)

pub returns-then-self-gt0 : goal.returns-then-self-gt0
returns-then-self-gt0 c =
    let held : List ℕ → Buffered = λ t. record { pending = t; used = c.self.inside.used } in
    ap held (moved_to_front c.self.inside.bytes.items c.copy_within.new.self.items c.self.inside.start
    c.self.inside.end (omega arith) c.copy_within.ensures.items)
    ∙ c.self.view_is
