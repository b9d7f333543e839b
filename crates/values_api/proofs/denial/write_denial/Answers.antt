use Rattle.std.proofs.Common.{◌∙◌, subst, rules}
use Rattle.grid_range.specs.declared.area.Area.{Area}
use Rattle.world_model.specs.Sound.{place_sheet_with}
use Rattle.values_api.specs.Denials.{AreaCells, IsDenial}
use Rattle.values_api.proofs.Told.{same_uncovered}
use Rattle.values_api.proofs.Reached.{none_reached, listed_denied}
use Rattle.values_api.proofs.WriteEnds.{given_as, has_room, within_sheet, written_is}
use Rattle.values_api.proofs.denial.write_denial.Goals as goal

pub reached-requires : goal.reached-requires
reached-requires c =
    has_room (given_as c.args.alloc c.args.area c.args.block c.ends-end_row.result) c.args.one_cell c.args.book.now
    c.stays_sound.ensures c.requires c.ends-end_row.ensures

pub uncovered_cells-requires-clause-room : goal.uncovered_cells-requires-clause-room
uncovered_cells-requires-clause-room c =
    has_room (given_as c.args.alloc c.args.area c.args.block c.ends-end_row.result) c.args.one_cell c.args.book.now
    c.stays_sound.ensures c.requires c.ends-end_row.ensures

pub uncovered_cells-requires-clause-sheet : goal.uncovered_cells-requires-clause-sheet
uncovered_cells-requires-clause-sheet c =
    within_sheet (given_as c.args.alloc c.args.area c.args.block c.ends-end_row.result) c.args.one_cell c.args.book.now
    c.stays_sound.ensures c.requires c.ends-end_row.ensures

pub returns-then-is_none : goal.returns-then-is_none
returns-then-is_none c =
    let given = given_as c.args.alloc c.args.area c.args.block c.ends-end_row.result in
    none_reached c.args.user.now given c.args.one_cell c.args.book.now
    (within_sheet given c.args.one_cell c.args.book.now c.stays_sound.ensures c.requires c.ends-end_row.ensures)
    (written_is given c.args.one_cell c.args.book.now c.stays_sound.ensures c.requires c.ends-end_row.ensures)
    c.area_denial.result (search rules)
    (subst (λ (area : Area). IsDenial c.args.user.now c.args.book.now (AreaCells c.args.book.now.sheets area)
    c.area_denial.result) c.reached.ensures.area c.area_denial.ensures)

pub returns : goal.returns
returns c =
    let given = given_as c.args.alloc c.args.area c.args.block c.ends-end_row.result in
    listed_denied c.args.user.now given c.args.one_cell c.args.book.now
    (within_sheet given c.args.one_cell c.args.book.now c.stays_sound.ensures c.requires c.ends-end_row.ensures)
    (written_is given c.args.one_cell c.args.book.now c.stays_sound.ensures c.requires c.ends-end_row.ensures)
    c.as_str-owner.result.now c.protections.result.now (c.as_str-owner.ensures ∙ c.owner.ensures) c.protections.ensures
    c.as_slice.result.now
    (same_uncovered given c.as_slice.result.now
    (place_sheet_with c.args.area.now.sheet c.args.book.now.sheets) _ c.as_slice.ensures c.in_ok-cells.ensures)
    c.first_denial_listed.result c.first_denial_listed.ensures.denied c.first_denial_listed.ensures.allowed
