use Rattle.std.specs.Prelude.{string_bytes}
use Rattle.sheets_http.proofs.OutputLemmas.{whole_text}
use Rattle.sheets_http.proofs.response.response_text.Goals as goal

pub returns : goal.returns
returns c =
    whole_text c.args.close c.args.status c.phrase.result.now c.close_line.result.now
    (string_bytes c.in_ok-head.head) c.args.body.now _ c.phrase.ensures c.close_line.ensures
    c.in_ok-head.ensures (cc (c.in_ok-extend_from_slice.ensures.items, c.in_ok-text.ensures.items))
