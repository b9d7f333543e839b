use Rattle.world_model.specs.Sheet.{PlaceSheet}
use Rattle.world_model.proofs.Found as found
use Rattle.world_model.proofs.laws.ids_find.Goals as goal

pub returns : goal.returns
returns c =
    record { finds = λ book sound. found.each_found (λ (sheet : PlaceSheet). sheet.id) book.sheets sound.distinct }
