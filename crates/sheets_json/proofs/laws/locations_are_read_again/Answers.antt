use Rattle.sheets_json.proofs.MetadataAgain.{locations_again}
use Rattle.sheets_json.proofs.laws.locations_are_read_again.Goals as goal

pub returns : goal.returns
returns c = locations_again
