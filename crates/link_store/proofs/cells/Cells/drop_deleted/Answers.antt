use Rattle.std.proofs.Common.{◌≤◌, sym, subst}
use Rattle.grid_range.specs.Change.{Fits}
use Rattle.cell_store.specs.Moved.{lines_on}
use Rattle.link_store.specs.Crossings.{HasDeletedEmpty}
use Rattle.link_store.proofs.Emptied.{deleted_empty, same_lines_on}
use Rattle.link_store.proofs.cells.Cells.drop_deleted.Goals as goal

pub returns-in-Delete-clause-deleted : goal.returns-in-Delete-clause-deleted
returns-in-Delete-clause-deleted g c =
    let lost = c.empty_lines.ensures.lost in
    let fits = subst (λ change. Fits change (lines_on c.args.axis c.args.self.now.rows.count
    c.args.self.now.columns.count)) c.in-Delete.is c.requires.fits in
    subst (λ change. HasDeletedEmpty c.args.axis change c.empty_lines.new.self) (sym c.in-Delete.is)
    (deleted_empty c.args.axis c.in-Delete.start c.in-Delete.end c.empty_lines.new.self c.empty_lines.ensures.grid
    (subst (λ n. c.in-Delete.end ≤ n) (sym (same_lines_on c.args.axis c.args.self.now c.empty_lines.new.self
    lost.lines)) fits.1) lost.gone)
