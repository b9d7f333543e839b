use Rattle.sheets_json.proofs.BodyLemmas.{json_of-some, no_json_is}
use Rattle.sheets_json.proofs.bodies.json_of.Goals as goal

pub returns-in-Ok : goal.returns-in-Ok
returns-in-Ok c = json_of-some c.args.body.now _ c.in-Ok.ensures.ok.0 c.in-Ok.ensures.ok.1

pub returns-in-Err : goal.returns-in-Err
returns-in-Err c =
    no_json_is _ c.args.body.now c.no_json.result c.in-Err.ensures.err c.no_json.ensures
