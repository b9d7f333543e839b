use Rattle.std.proofs.Common.{refl, inl}
use Rattle.std.specs.Prelude.{Ok}
use Rattle.sheets_json.specs.Calls.{create_call}
use Rattle.sheets_json.proofs.CallLemmas.{after_ok, after_err}
use Rattle.sheets_json.proofs.reading.create_of.Goals as goal

pub returns-in-Ok : goal.returns-in-Ok
returns-in-Ok c =
    after_ok (λ spreadsheet. Ok (create_call spreadsheet)) _ c.in-Ok.spreadsheet _ c.in-Ok.ensures (inl refl)

pub returns-in-Err : goal.returns-in-Err
returns-in-Err c = after_err _ (λ spreadsheet. Ok (create_call spreadsheet)) _ c.in-Err.fault c.in-Err.ensures
