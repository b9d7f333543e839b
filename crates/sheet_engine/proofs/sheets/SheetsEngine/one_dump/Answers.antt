use Rattle.sheet_engine.proofs.Once.{one_dump}
use Rattle.sheet_engine.proofs.sheets.SheetsEngine.one_dump.Goals as goal

pub returns : goal.returns
returns c = one_dump c.one_call.ensures c.calls_answered_once.ensures c.stands_for_apart.ensures
