use Rattle.std.proofs.Common.{◌∙◌}
use Rattle.cell_store.proofs.Tables.{item-view, inside-view}
use Rattle.cell_store.proofs.tree.TreeGridGrid.get.Goals as goal

pub returns-clause-item : goal.returns-clause-item
returns-clause-item g c = c.get.ensures.value
    ∙ item-view c.self.inside.rows c.self.inside.cols c.self.inside.items.entries c.self.view_is c.args.row
    c.args.column

pub returns-clause-inside : goal.returns-clause-inside
returns-clause-inside g c = inside-view c.self.inside.rows c.self.inside.cols c.self.inside.items.entries
    c.self.view_is c.self.invariant
