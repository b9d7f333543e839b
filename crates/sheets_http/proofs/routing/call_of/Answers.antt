use Rattle.std.proofs.Common.{arith}
use Rattle.sheets_http.proofs.RouteLemmas.{none_behind}
use Rattle.sheets_http.proofs.routing.call_of.Goals as goal

pub returns : goal.returns
returns c =
    c.loop-verb.invariant (none_behind c.args.verbs.now c.loop-verb.verb-index c.args.method.now c.args.path.now
    (omega (arith, c.loop-verb-test.false)))
