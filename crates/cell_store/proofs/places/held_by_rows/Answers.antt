use Rattle.std.proofs.Common.{rules, ◌≡◌, sym, subst}
use Rattle.std.specs.Prelude.{Contains, ◌↔◌}
use Rattle.std.specs.List.{filter}
use Rattle.std.specs.List.Sorted.{IsPermutation, IsStrictlySortedBy}
use Rattle.std.proofs.lemmas.Fn.{filter_same}
use Rattle.grid_range.specs.Area.{Holds}
use Rattle.grid_range.specs.Area.{by_rows}
use Rattle.cell_store.proofs.Listed.{holds_place, told}
use Rattle.cell_store.proofs.Ordered.{held_in_order, held_exactly}
use Rattle.cell_store.proofs.places.held_by_rows.Goals as goal

-- what is left, before it is sorted
left : (c : goal.After-of-2) → c.retain.new.self.items ≡ filter (holds_place c.args.area.now) c.args.places.items
left c = filter_same _ (holds_place c.args.area.now) _
    (λ x b f' k. (told c.args.area.now x b (search rules), search rules)) _ _ c.retain.ensures.filtered

moved : (c : goal.After-of-2) → IsPermutation (filter (holds_place c.args.area.now) c.args.places.items)
    c.sort_unstable.new.self.items
moved c = subst (λ xs. IsPermutation xs c.sort_unstable.new.self.items) (left c) c.sort_unstable.ensures.permutation

pub returns-clause-in_order : goal.returns-clause-in_order
returns-clause-in_order c =
    subst (IsStrictlySortedBy by_rows) (sym c.of-2.ensures)
    (held_in_order c.args.area.now c.args.places.items c.sort_unstable.new.self.items (moved c)
    c.sort_unstable.ensures.sorted c.requires.distinct)

pub returns-clause-exactly : goal.returns-clause-exactly
returns-clause-exactly c = λ row col.
    subst (λ xs. Contains xs (row, col) ↔ (Holds c.args.area.now row col × Contains c.args.places.items
    (row, col))) (sym c.of-2.ensures)
    (held_exactly c.args.area.now c.args.places.items c.sort_unstable.new.self.items (moved c) row col)
