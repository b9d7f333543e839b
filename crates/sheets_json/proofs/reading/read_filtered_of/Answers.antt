use Rattle.sheets_json.specs.Calls.{many_filtered}
use Rattle.sheets_json.proofs.CallLemmas.{after_ok, after_err}
use Rattle.sheets_json.proofs.reading.read_filtered_of.Goals as goal

pub returns-in-Ok : goal.returns-in-Ok
returns-in-Ok c =
    after_ok (many_filtered c.args.route.now) _ c.in-Ok.said _ c.in-Ok.ensures c.many_filtered.ensures

pub returns-in-Err : goal.returns-in-Err
returns-in-Err c = after_err _ (many_filtered c.args.route.now) _ c.in-Err.fault c.in-Err.ensures
