use Rattle.std.proofs.Common.{◌∙◌, ap, get_or}
use Rattle.world_model.specs.Sound.{place_sheet_with}
use Rattle.sheet_engine.proofs.Dumping.{sheet_there}
use Rattle.sheet_engine.proofs.dump.sheet_at.Goals as goal

pub unwrap-requires : goal.unwrap-requires
unwrap-requires c =
    sheet_there c.args.book.now c.ids_find.ensures c.stays_sound.ensures c.args.at c.requires c.sheet.result
    (c.sheet.ensures
    ∙ ap (λ ids. place_sheet_with (get_or ids c.args.at 0) c.args.book.now.sheets)
    (c.as_slice-ids.ensures ∙ c.sheets.ensures))
