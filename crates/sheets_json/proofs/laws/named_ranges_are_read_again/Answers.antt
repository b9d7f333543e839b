use Rattle.sheets_json.proofs.ReadAgain.{named_ranges_again}
use Rattle.sheets_json.proofs.laws.named_ranges_are_read_again.Goals as goal

pub returns : goal.returns
returns c = named_ranges_again
