use Rattle.std.proofs.Common.{◌+◌, ◌≡◌, ◌++◌, length, drop, take, sym, ◌∙◌, ap, arith, length-append, length-drop, ℕ}
use Rattle.std.proofs.Common.{List}
use Rattle.std.proofs.lemmas.List.{drop-drop, length-take-le}
use Rattle.journal_disk.proofs.Joining.{reads_on}
use Rattle.journal_disk.proofs.Scanning.{read_then}
use Rattle.journal_disk.proofs.loading.append_range.Goals as goal

pub loop-done-preserved : goal.loop-done-preserved
loop-done-preserved g c =
    let inv = c.loop-done.invariant in
    let seen = g.D.Disk.seen c.args.disk.now in
    let d = c.loop-done.done in
    let n = c.min-next.result in
    let e = c.in_ok-append_exact.ensures in
    let long = length-drop c.args.at seen in
    let asked : length (take n c.loop-done.room) ≡ n = length-take-le n c.loop-done.room
    (omega (arith, inv.room, c.min-next.ensures)) in
    let part = ap (λ (l : List ℕ). drop (c.args.at + d) l) inv.read.same ∙ sym (drop-drop d c.args.at seen) in
    record {
      within = omega (arith, c.min-next.ensures, inv.within);
      room = omega (
        arith,
        length-append c.append_exact.new.room (drop n c.loop-done.room),
        length-drop n c.loop-done.room,
        c.append_exact.auto.room,
        asked,
        inv.room,
        c.min-next.ensures,
      );
      bytes = reads_on c.args.into.now c.loop-done.into c.append_exact.new.into (drop c.args.at seen) _ d n
          (omega (arith, long, inv.within, c.requires.within)) inv.bytes part
          (e.all ∙ ap (λ (m : ℕ). c.loop-done.into
          ++ take m (drop (c.args.at + d) (g.D.Disk.seen c.loop-done.disk))) asked);
      read = read_then g.D.Disk.seen g.D.Disk.may_leave g.D.Disk.moment g.D.Disk.left_since c.args.disk.now
          c.loop-done.disk c.append_exact.new.disk inv.read c.append_exact.ensures.read;
      faults = omega (arith, inv.faults, c.append_exact.ensures.cause.later);
    }
