use Rattle.std.proofs.Common.{◌∙◌, ap, sym}
use Rattle.std.specs.Option.{option_copied}
use Rattle.values_api.specs.FoundLaws.{sound_sheet}
use Rattle.request_kinds.proofs.merge_cells.merge_on.Goals as goal

pub rectangle_on-area-requires-clause-rows : goal.rectangle_on-area-requires-clause-rows
rectangle_on-area-requires-clause-rows c =
    (sound_sheet c.args.book.now c.stays_sound.ensures c.args.area.now.sheet c.unwrap-sheet.result.now
    (sym c.sheet.ensures ∙ ap option_copied c.unwrap-sheet.ensures)).rows.0

pub rectangle_on-area-requires-clause-cols : goal.rectangle_on-area-requires-clause-cols
rectangle_on-area-requires-clause-cols c =
    (sound_sheet c.args.book.now c.stays_sound.ensures c.args.area.now.sheet c.unwrap-sheet.result.now
    (sym c.sheet.ensures ∙ ap option_copied c.unwrap-sheet.ensures)).cols.0
