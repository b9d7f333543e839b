use Rattle.std.proofs.Common.{List, ℕ, ap, subst}
use Rattle.std.specs.Prelude.{is_some}
use Rattle.memchr.specs.Find.{IsFirstByte, is_byte2}
use Rattle.sheets_http.proofs.QueryLemmas.{none_found, plain_is}
use Rattle.sheets_http.proofs.query.plain_text.Goals as goal

pub returns-in-None : goal.returns-in-None
returns-in-None c =
    let first = subst (λ (t : List ℕ). IsFirstByte (is_byte2 43 37) t c.memchr2.result) c.as_bytes.ensures.value
    c.memchr2.ensures in
    plain_is c.args.raw.now (none_found c.args.raw.now c.memchr2.result first (ap is_some c.in-None.is)) c.utf8.raw
