use Rattle.std.proofs.Common.{ℕ, ◌≡◌, ◌∙◌, sym, ap, arith}
use Rattle.link_store.specs.declared.cells.Cell.{Cell}
use Rattle.link_store.specs.Lists.{entries_of}
use Rattle.link_store.specs.Lines.{list_of}
use Rattle.link_store.proofs.Sheets.{has_column}
use Rattle.link_store.proofs.Gathered.{in_row, left_first, line_begins, line_ends, line_goes_on, list_noted}
use Rattle.link_store.proofs.Gathered.{none_yet, on_lines, place_read, rows_gathered}
use Rattle.link_store.proofs.cells.Cells.places_on_rows.Goals as goal

pub loop-row-init : goal.loop-row-init
loop-row-init g c = c.new-places.ensures.items
    ∙ sym (none_yet c.args.self.now.rows (in_row c.args.self.now) c.args.start)

pub loop-cell-init : goal.loop-cell-init
loop-cell-init g c =
    line_begins c.args.self.now.rows (in_row c.args.self.now) c.args.start c.loop-row.row c.loop-row.places.items
    c.into_iter-cell-iterator.result
    c.loop-row.auto.row c.loop-row.invariant
    (c.into_iter-cell-iterator.ensures.into_iter_gives ∙ c.entries-cell-items.ensures.entries
    ∙ ap (entries_of c.args.self.now.rows.links) c.list.ensures.value)

pub index-requires : goal.index-requires
index-requires g c =
    let cells = c.args.self.now in
    let entry : ℕ × Cell _ = (c.in-Some.field-0-0, c.in-Some.cell.now) in
    let has = left_first cells.rows (in_row cells) c.args.start c.loop-row.row c.loop-cell.places.items
    c.loop-cell.cell-iterator c.next.new.self entry
    c.loop-cell.invariant c.in-Some.ensures.steps in
    let its = has_column cells c.requires.grid (list_of cells.rows c.loop-row.row) entry.0 entry.1 has in
    let there = list_noted cells.columns c.requires.grid.columns_are c.in_ok-columns.columns.items
    c.in_ok-columns.ensures entry.1.column its.0 its.1 its.2 in
    omega (arith, there, c.in_ok-columns.columns.ok.0)

pub loop-cell-preserved : goal.loop-cell-preserved
loop-cell-preserved g c =
    let cells = c.args.self.now in
    let entry : ℕ × Cell _ = (c.in-Some.field-0-0, c.in-Some.cell.now) in
    let has = left_first cells.rows (in_row cells) c.args.start c.loop-row.row c.loop-cell.places.items
    c.loop-cell.cell-iterator c.next.new.self entry
    c.loop-cell.invariant c.in-Some.ensures.steps in
    let its = has_column cells c.requires.grid (list_of cells.rows c.loop-row.row) entry.0 entry.1 has in
    line_goes_on cells.rows (in_row cells) c.args.start c.loop-row.row c.loop-cell.places.items
    c.push.new.self.items c.loop-cell.cell-iterator c.next.new.self entry _
    c.loop-cell.invariant c.in-Some.ensures.steps
    (ap (λ k. (c.loop-row.row, k)) (place_read cells.columns c.requires.grid.columns_are
    c.in_ok-columns.columns.items c.in_ok-columns.ensures entry.1.column its.0 its.1 its.2 c.index.result.now
    c.index.ensures))
    c.in_ok-push.ensures.items

pub loop-row-preserved : goal.loop-row-preserved
loop-row-preserved g c =
    line_ends c.args.self.now.rows (in_row c.args.self.now) c.args.start c.loop-row.row c.loop-cell.places.items
    c.loop-cell.cell-iterator
    c.loop-cell.invariant c.in-None.ensures.steps.0

pub returns : goal.returns
returns g c =
    let cells = c.args.self.now in
    let last : c.loop-row.row ≡ c.args.end = omega
    (arith, c.loop-row.auto.row-end c.requires.there.0, c.loop-row-test.false) in
    rows_gathered cells c.requires.grid c.args.start c.args.end c.loop-row.places.items c.requires.there.0
    c.requires.there.1
    (c.loop-row.invariant ∙ ap (on_lines cells.rows (in_row cells) c.args.start) last)
