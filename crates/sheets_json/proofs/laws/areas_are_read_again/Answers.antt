use Rattle.sheets_json.proofs.ReadAgain.{areas_again}
use Rattle.sheets_json.proofs.laws.areas_are_read_again.Goals as goal

pub returns : goal.returns
returns c = areas_again
