use Rattle.std.proofs.Common.{◌≡◌, ◌+◌, ◌-◌, ◌≤◌, ℕ, List, ◌++◌, length, take, drop, sym, ◌∙◌, ap, arith, length-drop}
use Rattle.std.proofs.lemmas.List.{drop-drop}
use Rattle.journal_disk.proofs.Scanning.{read_more, front_grows, front_within}
use Rattle.journal_disk.proofs.scan.read_exact.Goals as goal

pub loop-done-preserved : goal.loop-done-preserved
loop-done-preserved g c =
    let source = drop c.args.at (g.D.Disk.seen c.args.disk.now) in
    let d = c.loop-done.done in
    let n = c.in_ok-done.field-0 in
    let inv = c.loop-done.invariant in
    let same_size : length c.loop-done.into ≡ length c.args.into.now = omega arith in
    let long : length source ≡ length (g.D.Disk.seen c.args.disk.now) - c.args.at =
    length-drop c.args.at (g.D.Disk.seen c.args.disk.now) in
    let seen_as : drop (c.args.at + d) (g.D.Disk.seen c.loop-done.disk) ≡ drop d source = ap
    (λ (l : List ℕ). drop (c.args.at + d) l) inv.read.same
    ∙ sym (drop-drop d c.args.at (g.D.Disk.seen c.args.disk.now)) in
    let is = c.in_ok-done.ensures.bytes ∙ ap (λ (l : List ℕ). take n l
    ++ drop n (take (length c.loop-done.into - d) (drop d c.loop-done.into))) seen_as in
    let d_in : d ≤ length source = omega (arith, long, same_size, inv.within, c.requires.within) in
    let n_in : n ≤ length source - d = omega (arith, long, ap length inv.read.same, c.in_ok-done.ensures.count.1) in
    let grows = front_grows c.loop-done.into c.read.new.into source
    (drop n (take (length c.loop-done.into - d) (drop d c.loop-done.into))) d
    (length c.loop-done.into - d) n inv.within d_in n_in is inv.bytes in
    record {
      within = front_within _ source (d + n) grows (omega (arith, d_in, n_in));
      bytes = grows;
      read = read_more g.D.Disk.seen g.D.Disk.may_leave g.D.Disk.moment g.D.Disk.left_since c.args.disk.now
          c.loop-done.disk c.read.new.self inv.read c.in_ok-done.ensures.seen c.in_ok-done.ensures.crash
          c.in_ok-done.ensures.time;
      faults = omega (arith, inv.faults, c.in_ok-done.ensures.cause.later);
    }
