use Rattle.std.proofs.Common.{◌≡◌, ap, sym, subst, ◌∙◌, map, arith}
use Rattle.shared_grid.specs.Sheets.{AreNumbered, AreOnRows, place_in, pair_place}
use Rattle.shared_grid.proofs.Listed.{all_rows, are_places, halves_numbered, halves_placed}
use Rattle.shared_grid.proofs.Views.{inside-view}
use Rattle.shared_grid.proofs.grid.SharedGrid.places_of_all.Goals as goal

pub placed-requires : goal.placed-requires
placed-requires g c =
    let listed = c.in_ok-keys.ensures in
    let numbered =
    halves_numbered c.tables_by_items.ensures c.self.inside.rows c.self.inside.columns c.self.inside.cells
    c.self.invariant c.args.self.now c.self.view_is listed.keys listed.are in
    subst (λ order. AreNumbered order c.value-columns.result.now c.in_ok-keys.keys.items) (sym c.value-rows.ensures)
    (subst (λ order. AreNumbered c.self.inside.rows order c.in_ok-keys.keys.items) (sym c.value-columns.ensures)
    (subst (AreNumbered c.self.inside.rows c.self.inside.columns) (sym listed.is) numbered))

pub held_by_rows-requires : goal.held_by_rows-requires
held_by_rows-requires g c =
    let rows = c.self.inside.rows in
    let columns = c.self.inside.columns in
    let listed = c.in_ok-keys.ensures in
    let same : c.in_ok-places.places.items
    ≡ map (place_in c.self.inside.rows c.self.inside.columns) c.in_ok-keys.ensures.keys =
    c.in_ok-places.ensures
    ∙ (λ i. map (pair_place (c.value-rows.ensures i) (c.value-columns.ensures i)) (c.in_ok-keys.ensures.is i))
    ∙ halves_placed c.tables_by_items.ensures rows columns c.self.inside.cells c.self.invariant c.args.self.now
    c.self.view_is
    listed.keys listed.are in
    let are : AreOnRows 0 c.self.inside.rows.count c.args.self.now.table c.in_ok-places.places.items =
    subst (AreOnRows 0 rows.count c.args.self.now.table) (sym same)
    (all_rows c.tables_by_items.ensures rows columns c.self.inside.cells c.self.invariant
    c.args.self.now c.self.view_is listed.keys listed.are) in
    record { distinct = are.distinct }

pub returns : goal.returns
returns g c =
    let rows = c.self.inside.rows in
    let columns = c.self.inside.columns in
    let listed = c.in_ok-keys.ensures in
    let same : c.in_ok-places.places.items
    ≡ map (place_in c.self.inside.rows c.self.inside.columns) c.in_ok-keys.ensures.keys =
    c.in_ok-places.ensures
    ∙ (λ i. map (pair_place (c.value-rows.ensures i) (c.value-columns.ensures i)) (c.in_ok-keys.ensures.is i))
    ∙ halves_placed c.tables_by_items.ensures rows columns c.self.inside.cells c.self.invariant c.args.self.now
    c.self.view_is
    listed.keys listed.are in
    let are : AreOnRows 0 c.self.inside.rows.count c.args.self.now.table c.in_ok-places.places.items =
    subst (AreOnRows 0 rows.count c.args.self.now.table) (sym same)
    (all_rows c.tables_by_items.ensures rows columns c.self.inside.cells c.self.invariant
    c.args.self.now c.self.view_is listed.keys listed.are) in
    are_places c.args.area.now c.args.self.now.table rows.count 0 rows.count c.in_ok-places.places.items
    c.held_by_rows.result
    (inside-view c.tables_by_items.ensures rows columns c.self.inside.cells c.self.invariant c.args.self.now
    c.self.view_is)
    (ap (λ s. s.table.rows) c.self.view_is) (omega arith) (omega arith)
    are c.held_by_rows.ensures.in_order c.held_by_rows.ensures.exactly
