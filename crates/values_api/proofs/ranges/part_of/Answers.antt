use Rattle.std.proofs.Common.{not}
use Rattle.std.specs.Str.{str_eq_ignore_ascii_case}
use Rattle.world_model.specs.Sheet.{PlaceSheet}
use Rattle.values_api.proofs.Finding.{answer_there}
use Rattle.values_api.proofs.ranges.part_of.Goals as goal

pub returns-in-Some-clause-there : goal.returns-in-Some-clause-there
returns-in-Some-clause-there c =
    answer_there (λ (sheet : PlaceSheet). str_eq_ignore_ascii_case sheet.title c.as_str.result.now)
    c.args.book.now.sheets
    _ c.part_of_sheet.result (c.ids_find.ensures.finds c.args.book.now c.stays_sound.ensures) c.titled.ensures
    c.part_of_sheet.ensures.there

pub returns-in-Cells-clause-there : goal.returns-in-Cells-clause-there
returns-in-Cells-clause-there c =
    answer_there (λ (sheet : PlaceSheet). not sheet.hidden) c.args.book.now.sheets
    _ c.on_found.result (c.ids_find.ensures.finds c.args.book.now c.stays_sound.ensures) c.visible.ensures
    c.on_found.ensures.there
