use Rattle.std.proofs.Common.{sym, subst}
use Rattle.std.specs.Prelude.{true, Ok, Err, IsSomeAnd}
use Rattle.grid_range.specs.declared.area.Area.{Area}
use Rattle.world_model.specs.Sound.{place_sheet_with}
use Rattle.dimension_ops.specs.Rules.{IsUnlessNoMemory}
use Rattle.values_api.specs.Denials.{IsWriteBy}
use Rattle.values_api.specs.Ranges.{IsThere}
use Rattle.values_api.proofs.Planning.{cell_col_few, cell_is_there, cell_row_few, done_refused, done_told, lines_can, table_stays}
use Rattle.values_api.proofs.appending.append_values.Goals as goal

pub add_lines-requires : goal.add_lines-requires
add_lines-requires c =
    lines_can c.args.insert c.args.area.now c.args.block.now c.args.book.now c.in_ok-plan.plan c.in_ok-plan.ensures

pub cell_area-cell-requires-clause-rows : goal.cell_area-cell-requires-clause-rows
cell_area-cell-requires-clause-rows c =
    cell_row_few c.args.insert c.args.area.now c.args.block.now c.args.book.now c.in_ok-plan.plan c.in_ok-plan.ensures

pub cell_area-cell-requires-clause-cols : goal.cell_area-cell-requires-clause-cols
cell_area-cell-requires-clause-cols c =
    cell_col_few c.args.insert c.args.area.now c.args.block.now c.args.book.now c.in_ok-plan.plan c.in_ok-plan.ensures

pub write_values-requires : goal.write_values-requires
write_values-requires c =
    subst (λ (area : Area). IsThere c.add_lines.new.book.sheets area) (sym c.cell_area-cell.ensures)
    (cell_is_there c.args.insert c.args.area.now c.args.block.now c.args.book.now c.in_ok-plan.plan c.in_ok-plan.ensures
    c.add_lines.new.book c.in_ok-add_lines.ensures.added)

pub returns-in-Ok-clause-appended : goal.returns-in-Ok-clause-appended
returns-in-Ok-clause-appended c =
    done_told c.args.insert c.args.area.now c.args.block.now c.args.book.now c.in_ok-plan.plan c.in_ok-plan.ensures
    c.add_lines.new.book c.in_ok-add_lines.ensures.added c.args.user.now c.changes_in_turn.ensures
    c.updates_are_changes.ensures
    c.write_values.new.book c.in-Ok.written c.table_area-table.result c.table_area-table.ensures
    (subst (λ (area : Area). IsSomeAnd (place_sheet_with area.sheet c.add_lines.new.book.sheets)
    (λ own. IsWriteBy c.args.user.now true area c.args.block.now own c.add_lines.new.book c.write_values.new.book
    (Ok c.in-Ok.written)))
    c.cell_area-cell.ensures c.in-Ok.ensures.written)

pub returns-in-Ok-clause-table : goal.returns-in-Ok-clause-table
returns-in-Ok-clause-table c =
    table_stays c.args.insert c.args.area.now c.args.block.now c.args.book.now c.in_ok-plan.plan c.in_ok-plan.ensures
    c.add_lines.new.book c.in_ok-add_lines.ensures.added c.args.user.now c.stays_sound.ensures c.write_values.new.book
    c.in-Ok.written
    c.table_area-table.result c.table_area-table.ensures
    (subst (λ (area : Area). IsSomeAnd (place_sheet_with area.sheet c.add_lines.new.book.sheets)
    (λ own. IsWriteBy c.args.user.now true area c.args.block.now own c.add_lines.new.book c.write_values.new.book
    (Ok c.in-Ok.written)))
    c.cell_area-cell.ensures c.in-Ok.ensures.written)

pub returns-in-Err-clause-appended : goal.returns-in-Err-clause-appended
returns-in-Err-clause-appended c =
    done_refused c.args.insert c.args.area.now c.args.block.now c.args.book.now c.in_ok-plan.plan c.in_ok-plan.ensures
    c.add_lines.new.book c.in_ok-add_lines.ensures.added c.args.user.now c.changes_in_turn.ensures
    c.updates_are_changes.ensures
    c.write_values.new.book c.in-Err.fault
    (subst (λ (area : Area). IsSomeAnd (place_sheet_with area.sheet c.add_lines.new.book.sheets)
    (λ own. IsUnlessNoMemory
    (IsWriteBy c.args.user.now true area c.args.block.now own c.add_lines.new.book c.write_values.new.book)
    (Err c.in-Err.fault)))
    c.cell_area-cell.ensures c.in-Err.ensures.written)
