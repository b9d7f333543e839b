use Rattle.std.proofs.Common.{◌≡◌, ◌+◌, ◌-◌, ◌*◌, ℕ, length}
use Rattle.std.specs.List.Sorted.{IsPermutation}
use Rattle.link_store.proofs.Opening.{StoodAt}
use Rattle.link_store.proofs.lines.Lines.open.Given as goal

-- the lists of the last lines went on
abbrev pub invariant-loop-moved : goal.invariant-loop-moved
invariant-loop-moved g l = record {
  links : l.self.links ≡ l.initial.self.links;
  count : l.self.count ≡ l.initial.self.count;
  long : length l.self.lists.items ≡ length l.initial.self.lists.items;
  numbers : IsPermutation l.initial.self.lists.items l.self.lists.items;
  order : (index : ℕ) → StoodAt l.initial.self.lists.items l.self.lists.items (l.initial.self.count - l.moved)
      l.count l.initial.self.count index;
  steps : l.steps ≡ l.initial.steps + 2 * l.moved;
}
