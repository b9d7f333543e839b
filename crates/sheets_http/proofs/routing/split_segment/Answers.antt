use Rattle.std.proofs.Common.{◌==◌}
use Rattle.std.proofs.lemmas.List.Splits.{slice_split_first}
use Rattle.sheets_http.specs.Routes.{slash}
use Rattle.sheets_http.proofs.RouteLemmas.{no_slash}
use Rattle.sheets_http.proofs.routing.split_segment.Goals as goal

pub returns-in-Some : goal.returns-in-Some
returns-in-Some c =
    let parts = c.in-Some.ensures in
    rw (parts.0, parts.1) (slice_split_first (λ b. b == slash) c.args.path.now 0 parts.2)

pub returns-in-None : goal.returns-in-None
returns-in-None c = no_slash c.args.path.now c.in-None.ensures
