use Rattle.std.specs.Prelude.{Ok}
use Rattle.sheets_json.specs.Calls.{clear_call}
use Rattle.sheets_json.proofs.CallLemmas.{after_ok, after_err}
use Rattle.sheets_json.proofs.reading.clear_with.Goals as goal

pub returns-in-Ok : goal.returns-in-Ok
returns-in-Ok c =
    after_ok (λ _. Ok (clear_call c.args.route.now)) _ tt _ c.in-Ok.ensures c.clear_call.ensures

pub returns-in-Err : goal.returns-in-Err
returns-in-Err c = after_err _ (λ _. Ok (clear_call c.args.route.now)) _ c.in-Err.fault c.in-Err.ensures
