use Rattle.values_api.specs.Sheets.{stored_in}
use Rattle.values_api.proofs.Readable.{cells_sound}
use Rattle.values_api.proofs.laws.cells_have_one_value.Goals as goal

pub returns : goal.returns
returns c = record {
  once = λ book place one other sound is is'.
      c.values_once.ensures (stored_in book) (cells_sound book sound) place one other is is';
}
