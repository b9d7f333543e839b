use Rattle.sheets_json.specs.Calls.{many_asked}
use Rattle.sheets_json.proofs.CallLemmas.{after_ok, after_err}
use Rattle.sheets_json.proofs.reading.batch_of.Goals as goal

pub returns-in-Ok : goal.returns-in-Ok
returns-in-Ok c = after_ok (many_asked c.args.route.now) _ c.in-Ok.steps _ c.in-Ok.ensures c.many_asked.ensures

pub returns-in-Err : goal.returns-in-Err
returns-in-Err c = after_err _ (many_asked c.args.route.now) _ c.in-Err.fault c.in-Err.ensures
