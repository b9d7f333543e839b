use Rattle.std.proofs.Common.{◌∙◌, List, ℕ, take, sym, ap, subst}
use Rattle.sheets_http.specs.Requests.{Buffered}
use Rattle.sheets_http.specs.Buffering.{IsReady, IsScanned}
use Rattle.sheets_http.proofs.ListLemmas.{lent_part}
use Rattle.sheets_http.proofs.buffer.Buffer.scan_head.Goals as goal

pub scan_on-requires : goal.scan_on-requires
scan_on-requires c =
    let lent = lent_part c.deref.result.now c.self.inside.bytes.items c.self.inside.start c.self.inside.end
    c.deref.ensures.value in
    subst (λ (t : List ℕ). IsReady c.self.inside.scan t) (sym lent) c.self.invariant.2

pub invariant_of-self : goal.invariant_of-self
invariant_of-self c =
    let lent = lent_part c.deref.result.now c.self.inside.bytes.items c.self.inside.start c.self.inside.end
    c.deref.ensures.value in (
      c.self.invariant.0,
      c.self.invariant.1,
      subst (λ (t : List ℕ). IsReady c.scan_on.new.scan t) lent c.scan_on.ensures.ready,
    )

pub returns-clause-scanned : goal.returns-clause-scanned
returns-clause-scanned c =
    let lent = lent_part c.deref.result.now c.self.inside.bytes.items c.self.inside.start c.self.inside.end
    c.deref.ensures.value in
    subst (λ (t : List ℕ). IsScanned (take c.args.room t) c.scan_on.result)
    (lent ∙ ap (λ (h : Buffered). h.pending) c.self.view_is) c.scan_on.ensures.scanned
