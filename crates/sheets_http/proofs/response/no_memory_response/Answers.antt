use Rattle.std.proofs.Common.{Bool, ap, sym}
use Rattle.std.specs.Fmt.{digits}
use Rattle.sheets_http.specs.Responses.{text_of_response, no_memory_body}
use Rattle.sheets_http.proofs.response.no_memory_response.Goals as goal

pub returns-then-close : goal.returns-then-close
unfolding digits
returns-then-close c = ap (λ (b : Bool). text_of_response 507 b no_memory_body) (sym c.if-close.true)

pub returns-else-close : goal.returns-else-close
unfolding digits
returns-else-close c = ap (λ (b : Bool). text_of_response 507 b no_memory_body) (sym c.if-close.false)
