use Rattle.std.proofs.Common.{◌∙◌, sym, subst}
use Rattle.cell_store.specs.Table.{HasPlace}
use Rattle.cell_store.proofs.Tables.{item-view, put-view, inside-put, inside-unchanged}
use Rattle.cell_store.proofs.tree.TreeGridGrid.put.Goals as goal
use Rattle.cell_store.proofs.tree.TreeGridGrid.put.Goals.{in-Ok, in-Err}

pub invariant_of-self : goal.invariant_of-self
invariant_of-self g c = elim c.match-insert.branch [
  | in-Ok w ↦
      inside-put c.self.inside.rows c.self.inside.cols c.self.inside.items.entries c.insert.new.self.entries
      c.self.invariant c.args.row c.args.column c.args.item
      (subst (λ t. HasPlace t c.args.row c.args.column) (sym c.self.view_is) c.requires.inside)
      w.in-Ok.ensures.updates.0
  | in-Err w ↦ inside-unchanged c.self.inside.rows c.self.inside.cols c.self.inside.items.entries
      c.insert.new.self.entries c.self.invariant w.in-Err.ensures.err
]

pub returns-clause-old : goal.returns-clause-old
returns-clause-old g c = elim c.match-insert.branch [
  | in-Ok w ↦ rw w.result-is (w.in-Ok.ensures.old
      ∙ item-view c.self.inside.rows c.self.inside.cols c.self.inside.items.entries c.self.view_is c.args.row
      c.args.column)
  | in-Err w ↦ rw w.result-is tt
]

pub returns-clause-put : goal.returns-clause-put
returns-clause-put g c = elim c.match-insert.branch [
  | in-Ok w ↦ rw w.result-is (put-view c.self.inside.rows c.self.inside.cols c.self.inside.items.entries
      c.self.view_is c.insert.new.self.entries c.args.row c.args.column c.args.item w.in-Ok.ensures.updates.0)
  | in-Err w ↦ rw w.result-is tt
]

pub returns-clause-was_empty : goal.returns-clause-was_empty
returns-clause-was_empty g c = elim c.match-insert.branch [
  | in-Ok w ↦ rw w.result-is tt
  | in-Err w ↦ rw w.result-is (sym (item-view c.self.inside.rows c.self.inside.cols c.self.inside.items.entries
      c.self.view_is c.args.row c.args.column) ∙ w.in-Err.ensures.absent)
]
