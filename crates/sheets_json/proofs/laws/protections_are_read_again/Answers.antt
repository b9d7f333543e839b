use Rattle.sheets_json.proofs.ProtectionsAgain.{protections_again}
use Rattle.sheets_json.proofs.laws.protections_are_read_again.Goals as goal

pub returns : goal.returns
returns c = protections_again
