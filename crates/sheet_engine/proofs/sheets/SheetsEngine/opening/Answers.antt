use Rattle.sheet_engine.proofs.Answering.{opens}
use Rattle.sheet_engine.proofs.sheets.SheetsEngine.opening.Goals as goal

pub returns : goal.returns
returns c = opens c.opening.result c.opening.ensures c.opening_stands.ensures
