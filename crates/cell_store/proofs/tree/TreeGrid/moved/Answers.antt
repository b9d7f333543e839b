use Rattle.std.proofs.Common.{◌≡◌, ◌+◌, ◌≤◌, ℕ, suc, Bool, true, false, length, [], sym, ap, subst, arith}
use Rattle.std.specs.Prelude.{if◌then◌else◌}
use Rattle.std.specs.Option.{is_some}
use Rattle.std.specs.Map.Iter.{deref_pair}
use Rattle.std.proofs.lemmas.Map.Iter.{btree_map_turn}
use Rattle.std.proofs.lemmas.Map.Keys.{IsDistinct-from_sorted}
use Rattle.grid_range.specs.Change.{Fits}
use Rattle.cell_store.specs.Moved.{GoesWithLines, lines_on}
use Rattle.grid_range.specs.Area.{by_rows}
use Rattle.grid_range.specs.ByRows.{by_rows_total}
use Rattle.cell_store.specs.Entries.{HasEntriesInside, table_of}
use Rattle.cell_store.proofs.Cells.{len-cells-most}
use Rattle.cell_store.proofs.Tables.{filled-view}
use Rattle.cell_store.proofs.Filling.{FillsTo}
use Rattle.cell_store.proofs.Moving.{moved, fills_moved, inside-moved, goes_with_lines}
use Rattle.cell_store.proofs.tree.TreeGrid.moved.Goals as goal

-- one entry was moved, and at most one made of it
few_more : (there : Bool) (made after rest more all : ℕ) → after ≡ made + (if there then 0 else 1) → rest ≡ suc more
    → made + rest ≤ all → after + more ≤ all
few_more true made after rest more all grew less few = omega arith
few_more false made after rest more all grew less few = omega arith

pub place_after-requires-clause-there : goal.place_after-requires-clause-there
place_after-requires-clause-there g c =
    let turn = btree_map_turn deref_pair c.loop-place.yielded c.into_iter-place-iterator.result
    c.loop-place.place-iterator c.next.new.self c.next.result
    (c.in-Some.place, c.in-Some.item) c.loop-place.yielded_by c.in-Some.is c.next.ensures.steps by_rows_total
    c.self.inside.items
    c.into_iter-place-iterator.ensures.into_iter_gives.0 c.into_iter-place-iterator.ensures.into_iter_gives.5 in
    c.self.invariant c.in-Some.place.now (ap is_some turn.1)

pub loop-place-preserved-in_ok-insert : goal.loop-place-preserved-in_ok-insert
loop-place-preserved-in_ok-insert g c = record {
  fills = fills_moved c.args.axis c.args.change.now c.loop-place.items.entries c.insert.new.self.entries
      c.in-Some.place.now c.in-Some-place_after.now c.in-Some.item.now
      c.in_ok-duplicate.field-0 c.loop-place.place-iterator c.next.new.self
      (moved c.args.axis c.args.change.now c.self.inside.items.entries)
      c.in-Some.ensures.steps (sym c.in-Some-place_after.ensures) c.in_ok-duplicate.ensures
      c.in_ok-insert.ensures.updates.0 c.loop-place.invariant.fills;
  few = few_more (is_some c.in_ok-insert.field-0) (length c.loop-place.items.entries) (length c.insert.new.self.entries)
      (length c.loop-place.place-iterator) (length c.next.new.self) (length c.self.inside.items.entries)
      c.in_ok-insert.ensures.len (ap length c.in-Some.ensures.steps) c.loop-place.invariant.few;
}

pub loop-place-preserved-in_ok-insert-2 : goal.loop-place-preserved-in_ok-insert-2
loop-place-preserved-in_ok-insert-2 g c = record {
  fills = fills_moved c.args.axis c.args.change.now c.loop-place.items.entries c.insert.new.self.entries
      c.in-Some.place.now c.in-Some-place_after.now c.in-Some.item.now
      c.in_ok-duplicate.field-0 c.loop-place.place-iterator c.next.new.self
      (moved c.args.axis c.args.change.now c.self.inside.items.entries)
      c.in-Some.ensures.steps (sym c.in-Some-place_after.ensures) c.in_ok-duplicate.ensures
      c.in_ok-insert.ensures.updates.0 c.loop-place.invariant.fills;
  few = few_more (is_some c.in_ok-insert.field-0) (length c.loop-place.items.entries) (length c.insert.new.self.entries)
      (length c.loop-place.place-iterator) (length c.next.new.self) (length c.self.inside.items.entries)
      c.in_ok-insert.ensures.len (ap length c.in-Some.ensures.steps) c.loop-place.invariant.few;
}

pub invariant_of-result : goal.invariant_of-result
invariant_of-result g c = λ place.
    let fits : Fits c.args.change.now (lines_on c.args.axis c.self.inside.rows c.self.inside.cols) =
    subst (λ t. Fits c.args.change.now (lines_on c.args.axis t.rows t.cols)) (sym c.self.view_is) c.requires in
    let filled : FillsTo c.loop-place.items.entries []
    (moved c.args.axis c.args.change.now c.self.inside.items.entries) =
    subst (λ es. FillsTo c.loop-place.items.entries (moved c.args.axis c.args.change.now es)
    (moved c.args.axis c.args.change.now c.self.inside.items.entries))
    c.in-None.ensures.steps.0 c.loop-place.invariant.fills in
    subst (λ (s : ℕ × ℕ). HasEntriesInside s.0 s.1 c.loop-place.items.entries) (sym c.size_after-rows.ensures)
    (inside-moved c.args.axis c.args.change.now c.places_stay_apart.ensures c.self.inside.rows c.self.inside.cols
    c.self.inside.items.entries c.loop-place.items.entries fits
    (IsDistinct-from_sorted by_rows _ c.into_iter-place-iterator.ensures.into_iter_gives.5) c.self.invariant filled
    c.places_stay_below.ensures) place

pub returns-clause-moved : goal.returns-clause-moved
returns-clause-moved g c =
    let fits : Fits c.args.change.now (lines_on c.args.axis c.self.inside.rows c.self.inside.cols) =
    subst (λ t. Fits c.args.change.now (lines_on c.args.axis t.rows t.cols)) (sym c.self.view_is) c.requires in
    let filled : FillsTo c.loop-place.items.entries []
    (moved c.args.axis c.args.change.now c.self.inside.items.entries) =
    subst (λ es. FillsTo c.loop-place.items.entries (moved c.args.axis c.args.change.now es)
    (moved c.args.axis c.args.change.now c.self.inside.items.entries))
    c.in-None.ensures.steps.0 c.loop-place.invariant.fills in
    subst (λ (s : ℕ × ℕ). GoesWithLines c.args.axis c.args.change.now c.args.self.now
    (table_of s.0 s.1 c.loop-place.items.entries)) (sym c.size_after-rows.ensures)
    (goes_with_lines c.args.axis c.args.change.now c.places_stay_apart.ensures c.self.inside.rows
    c.self.inside.cols c.self.inside.items.entries c.loop-place.items.entries fits
    (IsDistinct-from_sorted by_rows _ c.into_iter-place-iterator.ensures.into_iter_gives.5) c.self.invariant filled
    c.self.view_is)

pub returns-clause-filled : goal.returns-clause-filled
returns-clause-filled g c = omega (
  arith,
  c.loop-place.invariant.few,
  len-cells-most c.loop-place.items.entries,
  filled-view c.self.inside.rows c.self.inside.cols c.self.inside.items.entries c.self.view_is
      (IsDistinct-from_sorted by_rows _ c.into_iter-place-iterator.ensures.into_iter_gives.5),
)
