use Rattle.std.proofs.Common.{◌≡◌, ◌+◌, ◌-◌, ◌*◌, ◌≤◌, length}
use Rattle.std.specs.Prelude.{max}
use Rattle.link_store.specs.Lines.{AreLines, AreSameLines, HasSameEntries}
use Rattle.link_store.proofs.lines.Lines.reserve.Given as goal

-- the lines are the same, with so many lists
abbrev pub invariant-loop : goal.invariant-loop
invariant-loop g l = record {
  lines : AreLines l.self;
  same : AreSameLines l.initial.self l.self;
  entries : HasSameEntries l.initial.self l.self;
  lists : length l.initial.self.lists.items ≤ l.room → length l.self.lists.items ≡ l.counter;
  most : length l.self.lists.items ≤ max (length l.initial.self.lists.items) l.room;
  more : length l.initial.self.lists.items ≤ length l.self.lists.items;
  steps : l.steps + 2 * (l.room - l.counter) ≤ l.initial.steps + 2 * (l.room - length l.initial.self.lists.items);
}
