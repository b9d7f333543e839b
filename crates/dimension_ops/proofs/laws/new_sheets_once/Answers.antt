use Rattle.dimension_ops.proofs.NewSheets.{new_sheet_once}
use Rattle.dimension_ops.proofs.laws.new_sheets_once.Goals as goal

pub returns : goal.returns
returns c = record { once = new_sheet_once }
