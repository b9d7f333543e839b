use Rattle.std.proofs.Common.{◌+◌, ◌-◌, sym, subst, take, get_or}
use Rattle.world_model.specs.Sound.{place_sheet_with}
use Rattle.values_api.specs.Blocks.{contents_of, input_at, IsEntry}
use Rattle.values_api.specs.Given.{entry_of, value_by, first_row, first_col}
use Rattle.values_api.specs.Sheets.{formula_sheets}
use Rattle.values_api.proofs.Entering.{AreEntered, none_entered}
use Rattle.values_api.proofs.Listed.{listed_of}
use Rattle.values_api.proofs.PutCells.{some_there, listed_inside, listed_there, value_given, put_next, put_all}
use Rattle.values_api.proofs.SameSheets.{same_sheets}
use Rattle.values_api.proofs.given.Given.put.Goals as goal

pub loop-cell-init : goal.loop-cell-init
loop-cell-init c =
    none_entered (formula_sheets c.args.book.now.sheets) c.args.self.now.area.now.sheet c.updates_are_writes.ensures
    c.args.book.now

pub entry-requires-clause-row : goal.entry-requires-clause-row
entry-requires-clause-row c =
    (listed_inside c.args.self.now c.args.cells.now c.requires.cells c.loop-cell.cell-index
    c.loop-cell-test.true).row_from

pub entry-requires-clause-col : goal.entry-requires-clause-col
entry-requires-clause-col c =
    (listed_inside c.args.self.now c.args.cells.now c.requires.cells c.loop-cell.cell-index
    c.loop-cell-test.true).col_from

pub entry-requires-clause-given : goal.entry-requires-clause-given
entry-requires-clause-given c =
    value_given c.args.self.now c.args.cells.now c.requires.cells c.loop-cell.cell-index c.loop-cell-test.true

pub put-requires-clause-there : goal.put-requires-clause-there
put-requires-clause-there c =
    listed_there c.args.self.now c.args.cells.now c.requires.cells c.loop-cell.cell-index c.loop-cell-test.true
    c.args.book.now c.loop-cell.book c.requires.sheet
    (c.updates_are_writes.ensures.sizes c.args.book.now c.loop-cell.book c.args.self.now.area.now.sheet
    c.args.self.now.area.now.sheet _ c.loop-cell.invariant.updated)

pub entry-requires-clause-there : goal.entry-requires-clause-there
entry-requires-clause-there c =
    some_there (place_sheet_with c.args.self.now.area.now.sheet c.loop-cell.book.sheets) _
    (listed_there c.args.self.now c.args.cells.now c.requires.cells c.loop-cell.cell-index c.loop-cell-test.true
    c.args.book.now c.loop-cell.book c.requires.sheet
    (c.updates_are_writes.ensures.sizes c.args.book.now c.loop-cell.book c.args.self.now.area.now.sheet
    c.args.self.now.area.now.sheet _ c.loop-cell.invariant.updated))

pub loop-cell-preserved : goal.loop-cell-preserved
loop-cell-preserved c =
    let given = c.args.self.now in
    let id = given.area.now.sheet in
    let cells = c.args.cells.now in
    let k = c.loop-cell.cell-index in
    let cell = get_or cells k (0, 0) in
    let sheets = formula_sheets c.args.book.now.sheets in
    let so_far = c.loop-cell.invariant in
    let entry = entry_of (c.in_ok-content.content, c.in_ok-content.limit) in
    subst (AreEntered sheets id (listed_of (value_by given) (take (k + 1) cells)) c.args.book.now c.put.new.self)
    (sym c.first_of-first.ensures)
    (put_next given cells c.requires.cells k c.loop-cell-test.true c.reads_once.ensures
    c.updates_are_writes.ensures sheets
    c.args.book.now c.loop-cell.book c.put.new.self c.loop-cell.first entry
    (subst (λ seen. IsEntry seen id
    (input_at given.block.now (cell.0 - first_row given) (cell.1 - first_col given)) entry)
    (same_sheets id (contents_of so_far.entries) c.args.book.now c.loop-cell.book so_far.updated)
    c.in_ok-content.ensures.entry)
    c.in_ok-put.ensures.put so_far)

pub returns : goal.returns
returns c =
    let given = c.args.self.now in
    let id = given.area.now.sheet in
    let all =
    put_all given c.args.cells.now c.requires.cells (formula_sheets c.args.book.now.sheets) c.loop-cell.cell-index
    c.args.book.now c.loop-cell.book c.loop-cell.first c.loop-cell-test.false c.loop-cell.invariant in
    record {
      entries = all.entries;
      entered = all.entered;
      updated = record {
        places = all.updated;
        names = λ model stands. c.updates_follow.ensures.follows c.args.book.now c.loop-cell.book model id
            (contents_of all.entries) stands c.stays_sound-2.ensures all.updated;
      };
      first = all.first;
    }
