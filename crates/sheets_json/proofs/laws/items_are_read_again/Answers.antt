use Rattle.sheets_json.proofs.MetadataAgain.{items_again}
use Rattle.sheets_json.proofs.laws.items_are_read_again.Goals as goal

pub returns : goal.returns
returns c = items_again
