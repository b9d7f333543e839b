use Rattle.std.proofs.Common.{◌≡◌, ◌≤◌, ◌-◌, ◌++◌, length, take, drop}
use Rattle.journal_disk.specs.Disk.{OnlyRead}
use Rattle.journal_disk.proofs.loading.append_range.Given as goal

abbrev pub invariant-loop-done : goal.invariant-loop-done
invariant-loop-done g l = record {
  within : l.done ≤ l.count;
  room : length l.room ≡ 4096;
  bytes : l.into ≡ l.fn.into ++ take l.done (drop l.at (g.D.Disk.seen l.fn.disk));
  read : OnlyRead g.D.Disk.seen g.D.Disk.may_leave g.D.Disk.moment g.D.Disk.left_since l.fn.disk l.disk;
  faults : g.D.Disk.faults l.fn.disk ≤ g.D.Disk.faults l.disk;
}

abbrev pub decreases-loop-done : goal.decreases-loop-done
decreases-loop-done g l = l.count - l.done
