use Rattle.std.proofs.Common.{arith}
use Rattle.shared_grid.proofs.Moved.{rows_fit, rows_room, rows_sheet, rows_go, rows_fewer, rows_steps, on_rows}
use Rattle.shared_grid.proofs.grid.SharedGrid.change_rows.Goals as goal

pub lines_after-requires : goal.lines_after-requires
lines_after-requires g c = record {
  order = c.self.invariant.rows_are;
  fits = rows_fit c.args.change.now c.self.inside.rows c.self.inside.columns c.self.inside.cells c.args.self.now
      c.self.view_is
      c.requires.fits;
  room = omega (
    arith,
    rows_room c.args.change.now c.self.inside.rows c.self.inside.columns c.self.inside.cells c.args.self.now
        c.self.view_is c.requires.room,
  );
}

pub drop_deleted-requires : goal.drop_deleted-requires
drop_deleted-requires g c = record {
  order = c.self.invariant.rows_are;
  fits = rows_fit c.args.change.now c.self.inside.rows c.self.inside.columns c.self.inside.cells c.args.self.now
      c.self.view_is
      c.requires.fits;
  there = on_rows c.self.inside.rows c.self.inside.columns c.self.inside.cells c.self.invariant;
}

pub invariant_of-self-2 : goal.invariant_of-self-2
invariant_of-self-2 g c =
    rows_sheet c.tables_by_items.ensures c.places_stay_below.ensures c.args.change.now c.self.inside.rows
    c.self.inside.columns c.in_ok-rows.rows c.self.inside.cells c.drop_deleted.new.cells c.self.invariant
    c.args.self.now
    c.self.view_is c.in_ok-rows.ensures.order
    (rows_fit c.args.change.now c.self.inside.rows c.self.inside.columns c.self.inside.cells c.args.self.now
    c.self.view_is
    c.requires.fits)
    c.in_ok-rows.ensures.moved c.in_ok-drop_deleted.ensures.cleared
    (rows_room c.args.change.now c.self.inside.rows c.self.inside.columns c.self.inside.cells c.args.self.now
    c.self.view_is
    c.requires.room)

pub returns-clause-moved : goal.returns-clause-moved
returns-clause-moved g c =
    rows_go c.tables_by_items.ensures c.places_stay_below.ensures c.args.change.now c.self.inside.rows
    c.self.inside.columns c.in_ok-rows.rows c.self.inside.cells c.drop_deleted.new.cells c.self.invariant
    c.args.self.now
    c.self.view_is c.in_ok-rows.ensures.order
    (rows_fit c.args.change.now c.self.inside.rows c.self.inside.columns c.self.inside.cells c.args.self.now
    c.self.view_is
    c.requires.fits)
    c.in_ok-rows.ensures.moved c.in_ok-drop_deleted.ensures.cleared
    (rows_room c.args.change.now c.self.inside.rows c.self.inside.columns c.self.inside.cells c.args.self.now
    c.self.view_is
    c.requires.room)

pub returns-clause-filled : goal.returns-clause-filled
returns-clause-filled g c =
    rows_fewer c.tables_by_items.ensures c.places_stay_below.ensures c.args.change.now c.self.inside.rows
    c.self.inside.columns c.in_ok-rows.rows c.self.inside.cells c.drop_deleted.new.cells c.self.invariant
    c.args.self.now
    c.self.view_is c.in_ok-rows.ensures.order
    (rows_fit c.args.change.now c.self.inside.rows c.self.inside.columns c.self.inside.cells c.args.self.now
    c.self.view_is
    c.requires.fits)
    c.in_ok-rows.ensures.moved c.in_ok-drop_deleted.ensures.cleared
    (rows_room c.args.change.now c.self.inside.rows c.self.inside.columns c.self.inside.cells c.args.self.now
    c.self.view_is
    c.requires.room)

pub returns-clause-steps : goal.returns-clause-steps
returns-clause-steps g c =
    rows_steps c.tables_by_items.ensures c.places_stay_below.ensures c.args.change.now c.self.inside.rows
    c.self.inside.columns c.in_ok-rows.rows c.self.inside.cells c.drop_deleted.new.cells c.self.invariant
    c.args.self.now
    c.self.view_is c.in_ok-rows.ensures.order
    (rows_fit c.args.change.now c.self.inside.rows c.self.inside.columns c.self.inside.cells c.args.self.now
    c.self.view_is
    c.requires.fits)
    c.in_ok-rows.ensures.moved c.in_ok-drop_deleted.ensures.cleared
    (rows_room c.args.change.now c.self.inside.rows c.self.inside.columns c.self.inside.cells c.args.self.now
    c.self.view_is
    c.requires.room)
    c.args.steps.now c.lines_after.new.steps c.drop_deleted.new.steps c.lines_after.ensures.steps
    c.in_ok-drop_deleted.ensures.steps
