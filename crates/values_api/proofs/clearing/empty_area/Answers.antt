use Rattle.values_api.specs.Updates.{cleared}
use Rattle.values_api.proofs.Kept.{stays_there}
use Rattle.values_api.proofs.clearing.empty_area.Goals as goal

pub returns-clause-there : goal.returns-clause-there
returns-clause-there c =
    stays_there c.args.area.now.sheet (cleared c.args.area.now) c.args.area.now c.args.book.now.sheets
    c.empty_places.new.book.sheets c.in_ok-empty_places.ensures.places.sheets c.requires
