use Rattle.std.specs.Prelude.{Ok}
use Rattle.sheets_json.specs.Calls.{append_call}
use Rattle.sheets_json.proofs.CallLemmas.{after_ok, after_err}
use Rattle.sheets_json.proofs.reading.append_of.Goals as goal

pub returns-in-Ok : goal.returns-in-Ok
returns-in-Ok c =
    after_ok (λ values. Ok (append_call c.args.route.now values)) _ c.in-Ok.values _ c.in-Ok.ensures
    c.append_call.ensures

pub returns-in-Err : goal.returns-in-Err
returns-in-Err c = after_err _ (λ values. Ok (append_call c.args.route.now values)) _ c.in-Err.fault c.in-Err.ensures
