use Rattle.std.proofs.Common.{◌≡◌, ◌<◌, length, subst, sym, ap, ◌∙◌, arith}
use Rattle.std.specs.Prelude.{Some}
use Rattle.std.specs.Option.{option_copied}
use Rattle.a1_notation.specs.declared.column.TheConstants.{NAMED_COLUMNS}
use Rattle.a1_notation.specs.declared.row.TheConstants.{NUMBERED_ROWS}
use Rattle.grid_range.specs.Band.{Within, first_line, end_line}
use Rattle.world_model.specs.Sound.{place_sheet_with}
use Rattle.values_api.specs.FoundLaws.{sound_sheet}
use Rattle.values_api.proofs.AreaText.{on_sheet, pair_is, stretch, text_is}
use Rattle.values_api.proofs.printed.range_text.Goals as goal

pub ends-rows-requires : goal.ends-rows-requires
ends-rows-requires c =
    let found : place_sheet_with c.args.area.now.sheet c.args.book.now.sheets ≡ Some c.in-Some.sheet.now =
    sym c.sheet.ensures ∙ ap option_copied c.in-Some.is in
    let within = on_sheet c.args.book.now.sheets c.args.area.now c.in-Some.sheet.now c.requires found in
    subst (Within c.args.area.now.rows) (sym c.rows.ensures) within.0

pub ends-cols-requires : goal.ends-cols-requires
ends-cols-requires c =
    let found : place_sheet_with c.args.area.now.sheet c.args.book.now.sheets ≡ Some c.in-Some.sheet.now =
    sym c.sheet.ensures ∙ ap option_copied c.in-Some.is in
    let within = on_sheet c.args.book.now.sheets c.args.area.now c.in-Some.sheet.now c.requires found in
    subst (Within c.args.area.now.cols) (sym c.cols.ensures) within.1

pub write_a1-requires-clause-title : goal.write_a1-requires-clause-title
write_a1-requires-clause-title c =
    let found : place_sheet_with c.args.area.now.sheet c.args.book.now.sheets ≡ Some c.in-Some.sheet.now =
    sym c.sheet.ensures ∙ ap option_copied c.in-Some.is in
    let own = sound_sheet c.args.book.now c.stays_sound.ensures c.args.area.now.sheet c.in-Some.sheet.now found in
    subst (λ title. 0 < length title) (sym (c.as_str.ensures ∙ c.title.ensures)) own.titled

pub write_a1-requires-clause-rows : goal.write_a1-requires-clause-rows
write_a1-requires-clause-rows c =
    let found : place_sheet_with c.args.area.now.sheet c.args.book.now.sheets ≡ Some c.in-Some.sheet.now =
    sym c.sheet.ensures ∙ ap option_copied c.in-Some.is in
    let within = on_sheet c.args.book.now.sheets c.args.area.now c.in-Some.sheet.now c.requires found in
    let own = sound_sheet c.args.book.now c.stays_sound.ensures c.args.area.now.sheet c.in-Some.sheet.now found in
    let few = own.rows.1 in
    stretch c.args.area.now.rows c.ends-rows.result c.in-Some.sheet.now.table.rows NUMBERED_ROWS within.0 own.rows.0
    (omega (arith, few)) c.ends-rows.ensures.first
    (c.ends-rows.ensures.end ∙ ap (end_line c.args.area.now.rows) c.rows.ensures)

pub write_a1-requires-clause-cols : goal.write_a1-requires-clause-cols
write_a1-requires-clause-cols c =
    let found : place_sheet_with c.args.area.now.sheet c.args.book.now.sheets ≡ Some c.in-Some.sheet.now =
    sym c.sheet.ensures ∙ ap option_copied c.in-Some.is in
    let within = on_sheet c.args.book.now.sheets c.args.area.now c.in-Some.sheet.now c.requires found in
    let own = sound_sheet c.args.book.now c.stays_sound.ensures c.args.area.now.sheet c.in-Some.sheet.now found in
    let few = own.cols.1 in
    stretch c.args.area.now.cols c.ends-cols.result c.in-Some.sheet.now.table.cols NAMED_COLUMNS within.1 own.cols.0
    (omega (arith, few)) c.ends-cols.ensures.first
    (c.ends-cols.ensures.end ∙ ap (end_line c.args.area.now.cols) c.cols.ensures)

pub returns-in-Some : goal.returns-in-Some
returns-in-Some c =
    let found : place_sheet_with c.args.area.now.sheet c.args.book.now.sheets ≡ Some c.in-Some.sheet.now =
    sym c.sheet.ensures ∙ ap option_copied c.in-Some.is in
    let sheet = c.in-Some.sheet.now in
    text_is c.args.book.now.sheets c.args.area.now sheet c.as_str.result.now c.ends-rows.result c.ends-cols.result
    c.write_a1.result found (c.as_str.ensures ∙ c.title.ensures)
    (pair_is c.ends-rows.result (first_line c.args.area.now.rows) (end_line c.args.area.now.rows sheet.table.rows)
    c.ends-rows.ensures.first (c.ends-rows.ensures.end ∙ ap (end_line c.args.area.now.rows) c.rows.ensures))
    (pair_is c.ends-cols.result (first_line c.args.area.now.cols) (end_line c.args.area.now.cols sheet.table.cols)
    c.ends-cols.ensures.first (c.ends-cols.ensures.end ∙ ap (end_line c.args.area.now.cols) c.cols.ensures))
    c.write_a1.ensures.canonical
