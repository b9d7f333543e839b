use Rattle.sheets_json.specs.Calls.{many_cleared}
use Rattle.sheets_json.proofs.CallLemmas.{after_ok, after_err}
use Rattle.sheets_json.proofs.reading.clear_many_of.Goals as goal

pub returns-in-Ok : goal.returns-in-Ok
returns-in-Ok c =
    after_ok (many_cleared c.args.route.now) _ c.in-Ok.ranges _ c.in-Ok.ensures c.many_cleared.ensures

pub returns-in-Err : goal.returns-in-Err
returns-in-Err c = after_err _ (many_cleared c.args.route.now) _ c.in-Err.fault c.in-Err.ensures
