use Rattle.sheets_json.proofs.FiltersAgain.{filters_again}
use Rattle.sheets_json.proofs.laws.filters_are_read_again.Goals as goal

pub returns : goal.returns
returns c = filters_again
