use Rattle.batch_engine.proofs.Looking.{none_asked, rows_asked}
use Rattle.batch_engine.proofs.looks.grid_shown.Goals as goal

pub returns-in_ok-row_metadata-clause-grid : goal.returns-in_ok-row_metadata-clause-grid
returns-in_ok-row_metadata-clause-grid c =
    rows_asked c.args.wanted c.args.book.now c.args.sheet.now c.in_ok-row_metadata.row_metadata c.if-wanted.true
    c.in_ok-row_metadata.ensures.rows

pub returns-else-wanted-clause-grid : goal.returns-else-wanted-clause-grid
returns-else-wanted-clause-grid c = none_asked c.args.wanted c.args.book.now c.args.sheet.now c.if-wanted.false
