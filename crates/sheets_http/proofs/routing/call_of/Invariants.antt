use Rattle.std.proofs.Common.{drop}
use Rattle.sheets_http.specs.Routing.{IsNone}
use Rattle.sheets_http.proofs.routing.call_of.Given as goal

-- the request is none of the calls so far
abbrev pub invariant-loop-verb : goal.invariant-loop-verb
invariant-loop-verb l = IsNone (drop l.verb-index l.verbs) l.method l.path → IsNone l.verbs l.method l.path
