use Rattle.std.proofs.Common.{◌≡◌, ◌∙◌, ap}
use Rattle.link_store.specs.Lists.{with_item_at}
use Rattle.link_store.specs.declared.cells.Cell.{Cell}
use Rattle.link_store.proofs.Rewritten.{grid_put, changes_put}
use Rattle.link_store.proofs.cells.Cells.replace.Goals as goal

-- the cell of the node
held : (g : _) (c : goal.After-replace g) (cell : Cell _) → c.item-cell.result.now ≡ cell
    → c.replace.new.self ≡ with_item_at c.args.self.now.rows.links c.args.node (record cell { item = c.args.item })
held g c cell is = c.replace.ensures.replaced
    ∙ ap (λ (one : Cell _). with_item_at c.args.self.now.rows.links c.args.node (record one { item = c.args.item })) is

pub returns-clause-grid : goal.returns-clause-grid
returns-clause-grid g c =
    let live = c.requires.live in
    grid_put c.args.self.now c.replace.new.self live.1.0 c.args.node live.0 c.args.item c.requires.grid live.1.1
    c.replace.ensures.once
    (held g c live.0 (c.item-cell.ensures live.0 live.1)) (c.replace.ensures.count ∙ c.requires.grid.filled)

pub returns-clause-old : goal.returns-clause-old
returns-clause-old g c = λ row column cell at. ap (λ one. one.item) (c.replace.ensures.old cell (_, at.stands))

pub returns-clause-put : goal.returns-clause-put
returns-clause-put g c = λ row column cell at.
    changes_put c.args.self.now c.replace.new.self _ c.args.node cell c.args.item c.requires.grid at.stands
    c.replace.ensures.once
    (held g c cell (c.item-cell.ensures cell (_, at.stands))) (c.replace.ensures.count ∙ c.requires.grid.filled)
    row column at
