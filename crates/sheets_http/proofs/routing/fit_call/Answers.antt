use Rattle.std.proofs.Common.{Some, rules}
use Rattle.sheets_http.proofs.RouteLemmas.{fits_call, stripped, plain_before, plain_segments}
use Rattle.sheets_http.proofs.routing.fit_call.Goals as goal

pub fit_segments-requires : goal.fit_segments-requires
fit_segments-requires c = λ plain.
    plain_segments c.in-Some.before.now
    (plain_before c.in-Some.before.now c.line-line.result.verb.now c.args.path.now
    (stripped c.line-line.result.verb.now c.args.path.now (Some c.in-Some.before) c.in-Some.ensures.cases)
    (c.requires plain))

pub returns-in-Some : goal.returns-in-Some
returns-in-Some c =
    fits_call c.args.verb c.in-Some.before.now c.args.method.now c.args.path.now c.line-line.result.verb.now
    c.line-line.result.path.now c.fit_segments.result (search rules) c.line-line.ensures.verb
    (stripped c.line-line.result.verb.now c.args.path.now (Some c.in-Some.before) c.in-Some.ensures.cases)
    c.line-line.ensures.path c.fit_segments.ensures
