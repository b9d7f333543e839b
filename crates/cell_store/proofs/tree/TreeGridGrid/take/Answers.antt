use Rattle.std.proofs.Common.{◌∙◌}
use Rattle.cell_store.proofs.Tables.{item-view, taken-view, inside-taken}
use Rattle.cell_store.proofs.tree.TreeGridGrid.take.Goals as goal

pub invariant_of-self : goal.invariant_of-self
invariant_of-self g c =
    inside-taken c.self.inside.rows c.self.inside.cols c.self.inside.items.entries c.remove.new.self.entries
    c.self.invariant
    c.args.row c.args.column c.remove.ensures.updates.0

pub returns-clause-item : goal.returns-clause-item
returns-clause-item g c = c.remove.ensures.value
    ∙ item-view c.self.inside.rows c.self.inside.cols c.self.inside.items.entries c.self.view_is c.args.row
    c.args.column

pub returns-clause-taken : goal.returns-clause-taken
returns-clause-taken g c = taken-view c.self.inside.rows c.self.inside.cols c.self.inside.items.entries
    c.self.view_is c.remove.new.self.entries c.args.row c.args.column c.remove.ensures.updates.0
