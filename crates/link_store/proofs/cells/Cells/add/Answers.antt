use Rattle.std.proofs.Common.{◌≡◌, ◌<◌, ◌∙◌, ℕ, List, refl, sym, ap, subst, length, arith}
use Rattle.link_store.specs.Lists.{with_entry, with_item_at, without_node}
use Rattle.link_store.specs.Lines.{list_of}
use Rattle.link_store.specs.declared.cells.Cell.{Cell}
use Rattle.link_store.specs.declared.cells.Link.{Link}
use Rattle.link_store.specs.Crossings.{IsGrid, HasSameItems}
use Rattle.link_store.proofs.Added.{push_undone, grid_added, changes_added}
use Rattle.link_store.proofs.cells.Cells.add.Goals as goal

rows_made : (g : _) (c : goal.After-self-1 g)
    → c.push-2.new.self ≡ with_entry c.args.self.now.rows.links (list_of c.args.self.now.rows c.args.row)
    c.in-Ok-push.row_node
    (record { item = c.args.item; column = list_of c.args.self.now.columns c.args.column; column_node = c.in-Ok.node })
rows_made g c =
    c.in-Ok-push.ensures.pushed
    ∙ ap (λ (p : ℕ × ℕ). with_entry c.args.self.now.rows.links p.0 c.in-Ok-push.row_node
    (record { item = c.args.item; column = p.1; column_node = c.in-Ok.node }))
    (λ i. (c.list.ensures.value i, c.list-column.ensures.value i))

columns_made : (g : _) (c : goal.After-self-1 g)
    → c.replace.new.self ≡ with_item_at (with_entry c.args.self.now.columns.links
    (list_of c.args.self.now.columns c.args.column) c.in-Ok.node
    (record { row = list_of c.args.self.now.rows c.args.row; row_node = 0 })) c.in-Ok.node
    (record { row = list_of c.args.self.now.rows c.args.row; row_node = c.in-Ok-push.row_node })
columns_made g c =
    c.replace.ensures.replaced
    ∙ ap (λ all. with_item_at all c.in-Ok.node (record { row = c.list.result; row_node = c.in-Ok-push.row_node }))
    c.in-Ok.ensures.pushed
    ∙ ap (λ (p : ℕ × ℕ). with_item_at (with_entry c.args.self.now.columns.links p.1 c.in-Ok.node
    (record { row = p.0; row_node = 0 })) c.in-Ok.node (record { row = p.0; row_node = c.in-Ok-push.row_node }))
    (λ i. (c.list.ensures.value i, c.list-column.ensures.value i))

pub returns-in-Ok-push-clause-grid : goal.returns-in-Ok-push-clause-grid
returns-in-Ok-push-clause-grid g c =
    grid_added c.args.self.now c.push-2.new.self c.replace.new.self c.args.row c.args.column c.args.item
    c.in-Ok-push.row_node c.in-Ok.node 0
    c.requires.grid c.requires.there c.requires.empty c.in-Ok-push.ensures.fresh c.in-Ok.ensures.fresh
    (rows_made g c) (columns_made g c)
    (subst (λ list. list < length c.args.self.now.rows.links) c.list.ensures.value c.list.ensures.within)
    (subst (λ list. list < length c.args.self.now.columns.links) c.list-column.ensures.value
    c.list-column.ensures.within)
    (omega (arith, c.in-Ok-push.ensures.count, c.requires.grid.filled))
    (omega (arith, c.replace.ensures.count, c.in-Ok.ensures.count, c.requires.grid.linked))

pub returns-in-Ok-push-clause-put : goal.returns-in-Ok-push-clause-put
returns-in-Ok-push-clause-put g c =
    changes_added c.args.self.now c.push-2.new.self c.replace.new.self c.args.row c.args.column c.args.item
    c.in-Ok-push.row_node c.in-Ok.node 0
    c.requires.grid c.requires.there c.requires.empty c.in-Ok-push.ensures.fresh c.in-Ok.ensures.fresh
    (rows_made g c) (columns_made g c)
    (subst (λ list. list < length c.args.self.now.rows.links) c.list.ensures.value c.list.ensures.within)
    (subst (λ list. list < length c.args.self.now.columns.links) c.list-column.ensures.value
    c.list-column.ensures.within)
    (omega (arith, c.in-Ok-push.ensures.count, c.requires.grid.filled))
    (omega (arith, c.replace.ensures.count, c.in-Ok.ensures.count, c.requires.grid.linked))

-- the link that was added goes again
undone : (g : _) (c : goal.After-unlink g) → c.unlink.new.self ≡ c.args.self.now.columns.links
undone g c =
    c.unlink.ensures.taken ∙ ap (λ all. without_node all c.in-Ok.node) c.in-Ok.ensures.pushed
    ∙ push_undone c.args.self.now.columns.links c.list-column.result c.in-Ok.node
    (record { row = c.list.result; row_node = 0 }) c.list-column.ensures.within c.in-Ok.ensures.fresh

pub returns-in-Err-push-clause-grid : goal.returns-in-Err-push-clause-grid
returns-in-Err-push-clause-grid g c =
    let old = c.args.self.now in
    subst (λ (p : List (List (ℕ × Cell _)) × List (List (ℕ × Link))). IsGrid
    (record old { rows = record old.rows { links = p.0 }; columns = record old.columns { links = p.1 } }))
    (λ i. (sym c.in-Err-push.ensures.unchanged i, sym (undone g c) i)) c.requires.grid

pub returns-in-Err-push-clause-unchanged : goal.returns-in-Err-push-clause-unchanged
returns-in-Err-push-clause-unchanged g c =
    let old = c.args.self.now in
    subst (λ (p : List (List (ℕ × Cell _)) × List (List (ℕ × Link))). HasSameItems old
    (record old { rows = record old.rows { links = p.0 }; columns = record old.columns { links = p.1 } }))
    (λ i. (sym c.in-Err-push.ensures.unchanged i, sym (undone g c) i)) (λ place. refl)
