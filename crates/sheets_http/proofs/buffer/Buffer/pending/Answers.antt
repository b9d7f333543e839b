use Rattle.std.proofs.Common.{◌∙◌, ap}
use Rattle.sheets_http.specs.Requests.{Buffered}
use Rattle.sheets_http.proofs.ListLemmas.{lent_part}
use Rattle.sheets_http.proofs.buffer.Buffer.pending.Goals as goal

pub returns : goal.returns
returns c =
    lent_part c.deref.result.now c.self.inside.bytes.items c.self.inside.start c.self.inside.end c.deref.ensures.value
    ∙ ap (λ (h : Buffered). h.pending) c.self.view_is
