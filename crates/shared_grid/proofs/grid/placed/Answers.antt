use Rattle.std.proofs.Common.{◌≡◌, ℕ, sym, ◌∙◌}
use Rattle.std.proofs.lemmas.List.{map-id}
use Rattle.shared_grid.specs.Orders.{place_noted}
use Rattle.shared_grid.specs.Sheets.{pair_place}
use Rattle.shared_grid.proofs.Keys.{map_alike}
use Rattle.shared_grid.proofs.grid.placed.Goals as goal

pub returns-then-is_plain-2 : goal.returns-then-is_plain-2
returns-then-is_plain-2 c =
    let rows = c.is_plain.ensures c.if-is_plain.true in
    let columns = c.is_plain-then-is_plain.ensures c.if-is_plain-2.true in
    sym (map_alike (pair_place c.args.rows.now c.args.columns.now) (λ (pair : ℕ × ℕ). pair) c.args.keys.items
    (λ pair has.
    let there = c.requires.each pair has in
    let row : place_noted c.args.rows.now pair.0 ≡ pair.0 = rows.places pair.0 there.0 in
    let column : place_noted c.args.columns.now pair.1 ≡ pair.1 = columns.places pair.1 there.1 in
    λ i. (row i, column i))
    ∙ map-id c.args.keys.items)
