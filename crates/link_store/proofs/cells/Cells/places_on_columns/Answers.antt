use Rattle.std.proofs.Common.{ℕ, ◌≡◌, ◌∙◌, sym, ap, arith}
use Rattle.link_store.specs.declared.cells.Link.{Link}
use Rattle.link_store.specs.Lists.{entries_of}
use Rattle.link_store.specs.Lines.{list_of}
use Rattle.link_store.proofs.Gathered.{in_column, has_row, left_first, line_begins, line_ends, line_goes_on}
use Rattle.link_store.proofs.Gathered.{list_noted, none_yet, on_lines, place_read, columns_gathered}
use Rattle.link_store.proofs.cells.Cells.places_on_columns.Goals as goal

pub loop-column-init : goal.loop-column-init
loop-column-init g c = c.new-places.ensures.items
    ∙ sym (none_yet c.args.self.now.columns (in_column c.args.self.now) c.args.start)

pub loop-link-init : goal.loop-link-init
loop-link-init g c =
    line_begins c.args.self.now.columns (in_column c.args.self.now) c.args.start c.loop-column.column
    c.loop-column.places.items c.into_iter-link-iterator.result
    c.loop-column.auto.column c.loop-column.invariant
    (c.into_iter-link-iterator.ensures.into_iter_gives ∙ c.entries-link-items.ensures.entries
    ∙ ap (entries_of c.args.self.now.columns.links) c.list.ensures.value)

pub index-requires : goal.index-requires
index-requires g c =
    let cells = c.args.self.now in
    let entry : ℕ × Link = (c.in-Some.field-0-0, c.in-Some.link.now) in
    let has = left_first cells.columns (in_column cells) c.args.start c.loop-column.column c.loop-link.places.items
    c.loop-link.link-iterator c.next.new.self entry
    c.loop-link.invariant c.in-Some.ensures.steps in
    let its = has_row cells c.requires.grid (list_of cells.columns c.loop-column.column) entry.0 entry.1 has in
    let there = list_noted cells.rows c.requires.grid.rows_are c.in_ok-rows.rows.items c.in_ok-rows.ensures
    entry.1.row its.0 its.1 its.2 in
    omega (arith, there, c.in_ok-rows.rows.ok.0)

pub loop-link-preserved : goal.loop-link-preserved
loop-link-preserved g c =
    let cells = c.args.self.now in
    let entry : ℕ × Link = (c.in-Some.field-0-0, c.in-Some.link.now) in
    let has = left_first cells.columns (in_column cells) c.args.start c.loop-column.column c.loop-link.places.items
    c.loop-link.link-iterator c.next.new.self entry
    c.loop-link.invariant c.in-Some.ensures.steps in
    let its = has_row cells c.requires.grid (list_of cells.columns c.loop-column.column) entry.0 entry.1 has in
    line_goes_on cells.columns (in_column cells) c.args.start c.loop-column.column c.loop-link.places.items
    c.push.new.self.items c.loop-link.link-iterator c.next.new.self entry _
    c.loop-link.invariant c.in-Some.ensures.steps
    (ap (λ k. (k, c.loop-column.column)) (place_read cells.rows c.requires.grid.rows_are c.in_ok-rows.rows.items
    c.in_ok-rows.ensures entry.1.row its.0 its.1 its.2 c.index.result.now c.index.ensures))
    c.in_ok-push.ensures.items

pub loop-column-preserved : goal.loop-column-preserved
loop-column-preserved g c =
    line_ends c.args.self.now.columns (in_column c.args.self.now) c.args.start c.loop-column.column
    c.loop-link.places.items c.loop-link.link-iterator
    c.loop-link.invariant c.in-None.ensures.steps.0

pub returns : goal.returns
returns g c =
    let cells = c.args.self.now in
    let last : c.loop-column.column ≡ c.args.end = omega
    (arith, c.loop-column.auto.column-end c.requires.there.0, c.loop-column-test.false) in
    columns_gathered cells c.requires.grid c.nodes_once.ensures c.args.start c.args.end c.loop-column.places.items
    c.requires.there.0 c.requires.there.1
    (c.loop-column.invariant ∙ ap (on_lines cells.columns (in_column cells) c.args.start) last)
