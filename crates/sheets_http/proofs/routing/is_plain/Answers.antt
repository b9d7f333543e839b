use Rattle.std.proofs.Common.{rules}
use Rattle.sheets_http.proofs.RouteLemmas.{none_found}
use Rattle.sheets_http.proofs.routing.is_plain.Goals as goal

pub returns : goal.returns
returns c = λ plain. none_found c.args.path.now c.contains.result c.contains.ensures.cases (search rules)
