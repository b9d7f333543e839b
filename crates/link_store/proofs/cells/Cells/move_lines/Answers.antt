use Rattle.std.proofs.Common.{◌+◌, ◌≤◌, sym, subst, arith}
use Rattle.grid_range.specs.Change.{Fits}
use Rattle.cell_store.specs.Moved.{lines_on, size_after}
use Rattle.cell_store.specs.Table.{most_lines}
use Rattle.link_store.specs.Lines.{AreMoved, AreSameLines}
use Rattle.link_store.specs.Crossings.{GoesAlong, TakesListsAgain}
use Rattle.link_store.proofs.Transferred.{rows_grid, rows_same, rows_moved, columns_grid, columns_same, columns_moved}
use Rattle.link_store.proofs.Transferred.{either_end, ok_then, err_then}
use Rattle.link_store.proofs.cells.Cells.move_lines.Goals as goal

-- the size of the sheet stays within the limit
rows_size_moved : (g : _) (c : goal.After-change g)
    → AreMoved c.args.change.now c.args.self.now.rows c.change.new.self
    → c.change.new.self.count + c.args.self.now.columns.count ≤ most_lines
rows_size_moved g c moved =
    let room = subst (λ axis. (size_after axis c.args.change.now c.args.self.now.rows.count
    c.args.self.now.columns.count).0
    + (size_after axis c.args.change.now c.args.self.now.rows.count c.args.self.now.columns.count).1 ≤ most_lines)
    c.in-Rows.is c.requires.room in
    omega (arith, moved.count, room)

rows_size_same : (g : _) (c : goal.After-change g) → AreSameLines c.args.self.now.rows c.change.new.self
    → c.change.new.self.count + c.args.self.now.columns.count ≤ most_lines
rows_size_same g c same = omega (arith, same.count, c.requires.grid.size)

pub returns-in-Rows-clause-grid : goal.returns-in-Rows-clause-grid
returns-in-Rows-clause-grid g c =
    rows_grid c.args.self.now c.change.new.self c.requires.grid c.change.ensures.lines c.change.ensures.entries
    (either_end c.change.result _ _ _ c.change.ensures.moved c.change.ensures.unchanged (rows_size_moved g c)
    (rows_size_same g c))

pub returns-in-Rows-clause-moved : goal.returns-in-Rows-clause-moved
returns-in-Rows-clause-moved g c = ok_then c.change.result _ _ c.change.ensures.moved (λ moved.
    subst (λ axis. GoesAlong axis c.args.change.now c.args.self.now
    (record c.args.self.now { rows = c.change.new.self })) (sym c.in-Rows.is)
    (rows_moved c.args.self.now c.change.new.self c.requires.grid c.change.ensures.lines c.change.ensures.entries
    c.places_stay_below.ensures c.args.change.now
    (subst (λ axis. Fits c.args.change.now (lines_on axis c.args.self.now.rows.count
    c.args.self.now.columns.count)) c.in-Rows.is c.requires.fits) moved (rows_size_moved g c moved)))

pub returns-in-Rows-clause-unchanged : goal.returns-in-Rows-clause-unchanged
returns-in-Rows-clause-unchanged g c = err_then c.change.result _ _ c.change.ensures.unchanged (λ same.
    rows_same c.args.self.now c.change.new.self c.requires.grid c.change.ensures.lines c.change.ensures.entries
    same (rows_size_same g c same))

-- the size of the sheet stays within the limit
columns_size_moved : (g : _) (c : goal.After-change-in-Columns g)
    → AreMoved c.args.change.now c.args.self.now.columns c.change-in-Columns.new.self
    → c.args.self.now.rows.count + c.change-in-Columns.new.self.count ≤ most_lines
columns_size_moved g c moved =
    let room = subst (λ axis. (size_after axis c.args.change.now c.args.self.now.rows.count
    c.args.self.now.columns.count).0
    + (size_after axis c.args.change.now c.args.self.now.rows.count c.args.self.now.columns.count).1 ≤ most_lines)
    c.in-Columns.is c.requires.room in
    omega (arith, moved.count, room)

columns_size_same : (g : _) (c : goal.After-change-in-Columns g)
    → AreSameLines c.args.self.now.columns c.change-in-Columns.new.self
    → c.args.self.now.rows.count + c.change-in-Columns.new.self.count ≤ most_lines
columns_size_same g c same = omega (arith, same.count, c.requires.grid.size)

pub returns-in-Columns-clause-grid : goal.returns-in-Columns-clause-grid
returns-in-Columns-clause-grid g c =
    columns_grid c.args.self.now c.change-in-Columns.new.self c.requires.grid c.change-in-Columns.ensures.lines
    c.change-in-Columns.ensures.entries
    (either_end c.change-in-Columns.result _ _ _ c.change-in-Columns.ensures.moved
    c.change-in-Columns.ensures.unchanged (columns_size_moved g c) (columns_size_same g c))

pub returns-in-Columns-clause-moved : goal.returns-in-Columns-clause-moved
returns-in-Columns-clause-moved g c = ok_then c.change-in-Columns.result _ _ c.change-in-Columns.ensures.moved (λ moved.
    subst (λ axis. GoesAlong axis c.args.change.now c.args.self.now
    (record c.args.self.now { columns = c.change-in-Columns.new.self })) (sym c.in-Columns.is)
    (columns_moved c.args.self.now c.change-in-Columns.new.self c.requires.grid c.change-in-Columns.ensures.lines
    c.change-in-Columns.ensures.entries c.places_stay_below.ensures c.args.change.now
    (subst (λ axis. Fits c.args.change.now (lines_on axis c.args.self.now.rows.count
    c.args.self.now.columns.count)) c.in-Columns.is c.requires.fits) moved (columns_size_moved g c moved)))

pub returns-in-Columns-clause-unchanged : goal.returns-in-Columns-clause-unchanged
returns-in-Columns-clause-unchanged g c = err_then c.change-in-Columns.result _ _
    c.change-in-Columns.ensures.unchanged (λ same.
    columns_same c.args.self.now c.change-in-Columns.new.self c.requires.grid c.change-in-Columns.ensures.lines
    c.change-in-Columns.ensures.entries same (columns_size_same g c same))

pub returns-in-Rows-clause-lists : goal.returns-in-Rows-clause-lists
returns-in-Rows-clause-lists g c =
    subst (λ axis. TakesListsAgain axis c.args.change.now c.args.self.now
    (record c.args.self.now { rows = c.change.new.self })) (sym c.in-Rows.is)
    (record { rows = c.change.ensures.lists; columns = omega arith })

pub returns-in-Columns-clause-lists : goal.returns-in-Columns-clause-lists
returns-in-Columns-clause-lists g c =
    subst (λ axis. TakesListsAgain axis c.args.change.now c.args.self.now
    (record c.args.self.now { columns = c.change-in-Columns.new.self })) (sym c.in-Columns.is)
    (record { rows = omega arith; columns = c.change-in-Columns.ensures.lists })
