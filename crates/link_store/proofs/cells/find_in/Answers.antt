use Rattle.std.proofs.Common.{◌∙◌}
use Rattle.link_store.specs.Lists.{entries_of}
use Rattle.link_store.proofs.Search.{all_left, one_less, found_first, none_left}
use Rattle.link_store.proofs.cells.find_in.Goals as goal

pub loop-node-init : goal.loop-node-init
loop-node-init g c =
    all_left (entries_of c.args.rows.now.links c.args.list) c.into_iter-node-iterator.result c.args.column
    (c.into_iter-node-iterator.ensures.into_iter_gives ∙ c.entries-node-items.ensures.entries)

pub returns-then-cell-column-clause-found : goal.returns-then-cell-column-clause-found
returns-then-cell-column-clause-found g c = (
  c.in-Some.cell.now,
  found_first (entries_of c.args.rows.now.links c.args.list) c.loop-node.node-iterator c.next.new.self
      c.args.column (c.in-Some.node, c.in-Some.cell.now)
      c.loop-node.invariant c.in-Some.ensures.steps,
  c.if-cell-column.true,
)

pub loop-node-preserved : goal.loop-node-preserved
loop-node-preserved g c =
    one_less (entries_of c.args.rows.now.links c.args.list) c.loop-node.node-iterator c.next.new.self c.args.column
    (c.in-Some.node, c.in-Some.cell.now)
    c.loop-node.invariant c.in-Some.ensures.steps c.if-cell-column.false

pub returns-clause-missed : goal.returns-clause-missed
returns-clause-missed g c = λ node cell has same.
    none_left (entries_of c.args.rows.now.links c.args.list) c.loop-node.node-iterator c.args.column node cell
    c.loop-node.invariant c.in-None.ensures.steps.0 has same
