use Rattle.std.proofs.Common.{◌∙◌}
use Rattle.shared_grid.proofs.Views.{filled-view}
use Rattle.shared_grid.proofs.grid.SharedGridCellStore.filled.Goals as goal

pub returns : goal.returns
returns g c = c.count.ensures
    ∙ filled-view c.tables_by_items.ensures c.self.inside.rows c.self.inside.columns c.self.inside.cells
    c.self.invariant
    c.args.self.now c.self.view_is
