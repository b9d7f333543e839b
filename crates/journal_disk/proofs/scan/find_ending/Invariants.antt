use Rattle.std.proofs.Common.{◌≤◌, ◌<◌, ◌-◌}
use Rattle.journal_disk.specs.Disk.{OnlyRead}
use Rattle.journal_disk.specs.Records.{IsFront}
use Rattle.journal_disk.proofs.scan.find_ending.Given as goal

abbrev pub invariant-loop-count : goal.invariant-loop-count
invariant-loop-count g l = record {
  front : IsFront (g.D.Disk.seen l.fn.disk) l.place l.held;
  within : l.place < l.size;
  small : l.held ≤ l.place;
  read : OnlyRead g.D.Disk.seen g.D.Disk.may_leave g.D.Disk.moment g.D.Disk.left_since l.fn.disk l.disk;
  faults : g.D.Disk.faults l.fn.disk ≤ g.D.Disk.faults l.disk;
}

abbrev pub decreases-loop-count : goal.decreases-loop-count
decreases-loop-count g l = l.size - l.place
