use Rattle.sheets_http.proofs.OneCall.{one_call}
use Rattle.sheets_http.proofs.laws.one_call.Goals as goal

pub returns : goal.returns
returns c = one_call
