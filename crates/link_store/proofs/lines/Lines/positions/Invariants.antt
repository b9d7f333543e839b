use Rattle.std.proofs.Common.{◌≡◌, ◌<◌, ℕ, length, get_or}
use Rattle.link_store.specs.Lines.{list_of}
use Rattle.link_store.proofs.lines.Lines.positions.Given as goal

-- the lines so far have their places
abbrev pub invariant-loop-line : goal.invariant-loop-line
invariant-loop-line g l = record {
  long : length l.positions.items ≡ length l.self.lists.items;
  lines : (line : ℕ) → line < l.line → get_or l.positions.items (list_of l.self line) 0 ≡ line;
}
