use Rattle.std.proofs.Common.{true, sym, subst}
use Rattle.std.proofs.lemmas.Result.{err_from_is_err_and}
use Rattle.std.specs.Prelude.{Err, IsSomeAnd, Ok}
use Rattle.grid_range.specs.declared.area.Area.{Area}
use Rattle.world_model.specs.Sound.{place_sheet_with}
use Rattle.dimension_ops.specs.Rules.{IsUnlessNoMemory}
use Rattle.values_api.specs.Blocks.{IsWrite}
use Rattle.values_api.specs.Denials.{IsDenial, WriteCells}
use Rattle.values_api.specs.Ranges.{IsThere}
use Rattle.request_kinds.proofs.RowsAppended.{found_denied, found_refused, found_there, found_told}
use Rattle.request_kinds.proofs.append_cells.write_from.Goals as goal

pub write_denial-requires : goal.write_denial-requires
write_denial-requires c =
    subst (λ (area : Area). IsThere c.add_rows.new.book.sheets area) (sym c.from_row-area.ensures)
    (found_there c.args.user.now c.args.sheet c.args.row c.args.rows.now c.args.book.now c.rows_missing-missing.result
    c.requires.there c.rows_missing-missing.ensures c.add_rows.new.book c.in_ok-add_rows.ensures c.stays_sound.ensures
    c.requires.some)

pub put_values-requires : goal.put_values-requires
put_values-requires c =
    subst (λ (area : Area). IsThere c.add_rows.new.book.sheets area) (sym c.from_row-area.ensures)
    (found_there c.args.user.now c.args.sheet c.args.row c.args.rows.now c.args.book.now c.rows_missing-missing.result
    c.requires.there c.rows_missing-missing.ensures c.add_rows.new.book c.in_ok-add_rows.ensures c.stays_sound.ensures
    c.requires.some)

pub returns-in_err-put_values : goal.returns-in_err-put_values
returns-in_err-put_values c =
    let p = err_from_is_err_and c.from_residual-in_err-put_values.result c.from_residual-in_err-put_values.ensures.1 in
    rw (p.1, p.2)
    (found_refused c.args.user.now c.args.sheet c.args.row c.args.rows.now c.args.book.now c.rows_missing-missing.result
    c.requires.there c.rows_missing-missing.ensures c.add_rows.new.book c.in_ok-add_rows.ensures c.in_ok-denied.denied
    (subst (λ (area : Area). IsDenial c.args.user.now c.add_rows.new.book
    (WriteCells c.add_rows.new.book.sheets true area c.args.rows.now) c.in_ok-denied.denied) c.from_row-area.ensures
    c.in_ok-denied.ensures)
    c.put_values.new.book c.in_err-put_values.field-0.0
    (subst (λ (area : Area). IsSomeAnd (place_sheet_with area.sheet c.add_rows.new.book.sheets)
    (λ own. IsUnlessNoMemory (IsWrite true area c.args.rows.now own c.add_rows.new.book c.put_values.new.book)
    (Err c.in_err-put_values.field-0.0)))
    c.from_row-area.ensures c.in_err-put_values.ensures.written))

pub returns-in-None : goal.returns-in-None
returns-in-None c =
    found_told c.args.user.now c.args.sheet c.args.row c.args.rows.now c.args.book.now c.rows_missing-missing.result
    c.requires.there c.rows_missing-missing.ensures c.add_rows.new.book c.in_ok-add_rows.ensures c.in_ok-denied.denied
    (subst (λ (area : Area). IsDenial c.args.user.now c.add_rows.new.book
    (WriteCells c.add_rows.new.book.sheets true area c.args.rows.now) c.in_ok-denied.denied) c.from_row-area.ensures
    c.in_ok-denied.ensures)
    c.changes_in_turn.ensures c.updates_are_changes.ensures c.put_values.new.book c.in_ok-put_values.field-0
    (subst (λ (area : Area). IsSomeAnd (place_sheet_with area.sheet c.add_rows.new.book.sheets)
    (λ own. IsUnlessNoMemory (IsWrite true area c.args.rows.now own c.add_rows.new.book c.put_values.new.book)
    (Ok c.in_ok-put_values.field-0)))
    c.from_row-area.ensures c.in_ok-put_values.ensures.written)
    c.in-None.is

pub returns-in-Some : goal.returns-in-Some
returns-in-Some c =
    found_denied c.args.user.now c.args.sheet c.args.row c.args.rows.now c.args.book.now c.rows_missing-missing.result
    c.requires.there c.rows_missing-missing.ensures c.add_rows.new.book c.in_ok-add_rows.ensures c.in_ok-denied.denied
    (subst (λ (area : Area). IsDenial c.args.user.now c.add_rows.new.book
    (WriteCells c.add_rows.new.book.sheets true area c.args.rows.now) c.in_ok-denied.denied) c.from_row-area.ensures
    c.in_ok-denied.ensures)
    c.changes_in_turn.ensures c.updates_are_changes.ensures c.put_values.new.book c.in_ok-put_values.field-0
    (subst (λ (area : Area). IsSomeAnd (place_sheet_with area.sheet c.add_rows.new.book.sheets)
    (λ own. IsUnlessNoMemory (IsWrite true area c.args.rows.now own c.add_rows.new.book c.put_values.new.book)
    (Ok c.in_ok-put_values.field-0)))
    c.from_row-area.ensures c.in_ok-put_values.ensures.written)
    c.in-Some.id c.in-Some.is
