use Rattle.std.proofs.Common.{◌≡◌, ◌≤◌, ◌-◌, ◌++◌, ℕ, take}
use Rattle.std.specs.List.{concat}
use Rattle.journal_disk.specs.Disk.{OnlyRead}
use Rattle.journal_disk.specs.Records.{IsFront}
use Rattle.journal_disk.proofs.loading.read_pieces.Given as goal

abbrev pub invariant-loop-count : goal.invariant-loop-count
invariant-loop-count g l = record {
  held : ℕ;
  front : IsFront (g.D.Disk.seen l.fn.disk) l.place held;
  within : l.place ≤ l.size;
  left : l.left ≡ l.most - held;
  bytes : l.into ≡ l.fn.into ++ take l.most (concat front.pieces);
  read : OnlyRead g.D.Disk.seen g.D.Disk.may_leave g.D.Disk.moment g.D.Disk.left_since l.fn.disk l.disk;
  faults : g.D.Disk.faults l.fn.disk ≤ g.D.Disk.faults l.disk;
}

abbrev pub decreases-loop-count : goal.decreases-loop-count
decreases-loop-count g l = l.size - l.place
