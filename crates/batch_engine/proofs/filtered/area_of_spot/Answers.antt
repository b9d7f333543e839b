use Rattle.std.proofs.Common.{◌<◌, arith, subst}
use Rattle.world_model.specs.declared.limits.TheConstants.{MOST_ROWS}
use Rattle.world_model.specs.Sound.{IsSpotWithin}
use Rattle.batch_engine.proofs.Filtering.{few_lines}
use Rattle.batch_engine.proofs.filtered.area_of_spot.Goals as goal

pub overflow_add-line : goal.overflow_add-line
overflow_add-line c =
    let few : c.in-Line.place < MOST_ROWS =
    few_lines c.args.book.now c.stays_sound.ensures c.in-Line.sheet_id c.in-Line.dimension c.in-Line.place
    (subst (IsSpotWithin c.args.book.now.sheets) c.in-Line.is c.requires) in
    omega (arith, few)
