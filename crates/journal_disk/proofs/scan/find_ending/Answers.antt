use Rattle.std.proofs.Common.{◌+◌, ℕ, List, drop, subst, arith}
use Rattle.journal_disk.specs.Records.{IsRecord, IsFront}
use Rattle.journal_disk.proofs.Scanning.{read_then, front_more}
use Rattle.journal_disk.proofs.scan.find_ending.Goals as goal

pub loop-count-preserved : goal.loop-count-preserved
loop-count-preserved g c =
    let inv = c.loop-count.invariant in
    let image = g.D.Disk.seen c.args.disk.now in
    let found = rw c.in-Some.is at c.in_ok-count.ensures.found in
    let room = rw c.in-Some.is at c.in_ok-count.ensures.room in
    let stands = subst (λ (l : List ℕ). IsRecord (drop c.loop-count.place l) found.0 found.1) inv.read.same found.3 in
    let longer = front_more image c.loop-count.place c.loop-count.held found.0 found.1 inv.front stands in
    record {
      front = subst (λ (n : ℕ). IsFront image (c.loop-count.place + (9 + n)) (c.loop-count.held + n)) found.2 longer;
      within = omega (arith, room);
      small = omega (arith, inv.small);
      read = read_then g.D.Disk.seen g.D.Disk.may_leave g.D.Disk.moment g.D.Disk.left_since c.args.disk.now
          c.loop-count.disk c.record_at.new.disk inv.read c.record_at.ensures.read;
      faults = omega (arith, inv.faults, c.record_at.ensures.cause.later);
    }
