use Rattle.values_api.proofs.Readable.{cells_sound}
use Rattle.values_api.proofs.sheets.BookCellsCellsOf.stay_sound.Goals as goal

pub returns : goal.returns
returns c = cells_sound c.args.self.now.book.now c.stays_sound.ensures
