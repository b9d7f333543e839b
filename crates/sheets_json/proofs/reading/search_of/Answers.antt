use Rattle.sheets_json.specs.Calls.{many_searched}
use Rattle.sheets_json.proofs.CallLemmas.{after_ok, after_err}
use Rattle.sheets_json.proofs.reading.search_of.Goals as goal

pub returns-in-Ok : goal.returns-in-Ok
returns-in-Ok c =
    after_ok (many_searched c.args.route.now) _ c.in-Ok.filters _ c.in-Ok.ensures c.many_searched.ensures

pub returns-in-Err : goal.returns-in-Err
returns-in-Err c = after_err _ (many_searched c.args.route.now) _ c.in-Err.fault c.in-Err.ensures
