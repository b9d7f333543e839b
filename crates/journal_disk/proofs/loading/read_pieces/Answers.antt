use Rattle.std.proofs.Common.{◌≤◌, ◌+◌, ◌++◌, inl, inr, ⊎_elim, ℕ, List, [], length, take, drop, refl, sym, ◌∙◌, ap}
use Rattle.std.proofs.Common.{subst, arith}
use Rattle.std.proofs.lemmas.List.{append-nil, take_all}
use Rattle.std.specs.List.{concat}
use Rattle.journal_disk.specs.Records.{IsRecord, NoRecord}
use Rattle.journal_disk.proofs.Kept.{on_err_of}
use Rattle.journal_disk.proofs.Joining.{all_read, some_read, front_and_more, behind_head, part_read, next_read}
use Rattle.journal_disk.proofs.Joining.{next_is_front}
use Rattle.journal_disk.proofs.Scanning.{read_more, read_then, nothing_read}
use Rattle.journal_disk.proofs.loading.read_pieces.Goals as goal

pub loop-count-init : goal.loop-count-init
loop-count-init g c =
    let image = g.D.Disk.seen c.args.disk.now in
    record {
      held = 0;
      front = record {
        pieces = [];
        rest = image;
        split = refl;
        followed = c.requires.some;
        fit = tt;
        at = refl;
        bytes = refl;
      };
      within = omega arith;
      left = omega arith;
      bytes = sym (ap (λ (l : List ℕ). c.args.into.now ++ l) (take_all c.args.most [] (omega arith))
          ∙ append-nil c.args.into.now);
      read = read_more g.D.Disk.seen g.D.Disk.may_leave g.D.Disk.moment g.D.Disk.left_since c.args.disk.now
          c.args.disk.now c.size.new.self
          (nothing_read g.D.Disk.seen g.D.Disk.may_leave g.D.Disk.moment g.D.Disk.left_since c.args.disk.now)
          c.size.ensures.seen c.size.ensures.crash c.size.ensures.time;
      faults = c.size.ensures.cause.later;
    }

pub returns-in_err-count-clause-fewer : goal.returns-in_err-count-clause-fewer
returns-in_err-count-clause-fewer g c = on_err_of c.from_residual-in_err-count.result (λ pieces has.
    let inv = c.loop-count.invariant in
    let some = some_read (g.D.Disk.seen c.args.disk.now) c.loop-count.place inv.held inv.front pieces has c.args.most in
    (some.0, some.1, inv.bytes ∙ ap (λ (l : List ℕ). c.args.into.now ++ l) some.2))

pub returns-in_err-append_range-clause-fewer : goal.returns-in_err-append_range-clause-fewer
returns-in_err-append_range-clause-fewer g c = on_err_of c.from_residual-in_err-append_range.result (λ pieces has.
    let inv = c.loop-count.invariant in
    let image = g.D.Disk.seen c.args.disk.now in
    let place = c.loop-count.place in
    let found = rw c.in-Some.is at c.in_ok-count.ensures.found in
    let room = rw c.in-Some.is at c.in_ok-count.ensures.room in
    let stands = subst (λ (l : List ℕ). IsRecord (drop place l) found.0 found.1) inv.read.same found.3 in
    let fewer = c.in_err-append_range.ensures.fewer in
    let held = concat inv.front.pieces in
    let behind = ap (λ (l : List ℕ). drop (place + 9) l) (c.wanted_at.ensures.read.same ∙ inv.read.same)
    ∙ behind_head image place found.0 found.1 stands in
    let wanted : length held ≤ c.args.most = omega (arith, room.0, inv.left, inv.front.bytes) in
    let within : fewer.0 ≤ length found.0 = omega (arith, fewer.1, c.min-taken.ensures, found.2) in
    let part = part_read c.args.into.now c.loop-count.into c.append_range.new.into held found.0 found.1 _ c.args.most
    fewer.0 wanted inv.bytes behind within fewer.2 in
    let front = next_is_front image place inv.held c.in-Some.count found.0 found.1 inv.front found.2 stands pieces has
    c.args.most fewer.0 (omega (arith, fewer.1, c.min-taken.ensures, inv.left, room.0)) within in
    (front.0, front.1, part ∙ ap (λ (l : List ℕ). c.args.into.now ++ l) front.2))

pub loop-count-preserved : goal.loop-count-preserved
loop-count-preserved g c =
    let inv = c.loop-count.invariant in
    let image = g.D.Disk.seen c.args.disk.now in
    let place = c.loop-count.place in
    let found = rw c.in-Some.is at c.in_ok-count.ensures.found in
    let room = rw c.in-Some.is at c.in_ok-count.ensures.room in
    let stands = subst (λ (l : List ℕ). IsRecord (drop place l) found.0 found.1) inv.read.same found.3 in
    let more = front_and_more image place inv.held c.in-Some.count found.0 found.1 inv.front found.2 stands in
    let held = concat inv.front.pieces in
    let behind = ap (λ (l : List ℕ). drop (place + 9) l) (c.wanted_at.ensures.read.same ∙ inv.read.same)
    ∙ behind_head image place found.0 found.1 stands in
    let wanted : length held ≤ c.args.most = omega (arith, room.0, inv.left, inv.front.bytes) in
    let within : c.min-taken.result ≤ length found.0 = omega (arith, c.min-taken.ensures, found.2) in
    let part = part_read c.args.into.now c.loop-count.into c.append_range.new.into held found.0 found.1 _ c.args.most
    c.min-taken.result wanted inv.bytes behind within c.in_ok-append_range.ensures.all in
    let next = next_read held found.0 c.args.most c.loop-count.left c.min-taken.result wanted
    (omega (arith, inv.left, inv.front.bytes)) (omega (arith, c.min-taken.ensures, found.2)) in
    record {
      held = inv.held + c.in-Some.count;
      front = more.0;
      within = omega (arith, room.1, inv.within);
      left = omega (arith, inv.left, c.min-taken.ensures, room.0);
      bytes = part ∙ ap (λ (l : List ℕ). c.args.into.now ++ l)
          (next ∙ ap (λ (l : List ℕ). take c.args.most l) (sym more.1));
      read = read_then g.D.Disk.seen g.D.Disk.may_leave g.D.Disk.moment g.D.Disk.left_since c.args.disk.now
          c.loop-count.disk c.append_range.new.disk inv.read
          (read_then g.D.Disk.seen g.D.Disk.may_leave g.D.Disk.moment g.D.Disk.left_since c.loop-count.disk
          c.wanted_at.new.disk c.append_range.new.disk c.wanted_at.ensures.read c.append_range.ensures.read);
      faults = omega (arith, inv.faults, c.wanted_at.ensures.cause.later, c.append_range.ensures.cause.later);
    }

pub returns-clause-joined : goal.returns-clause-joined
returns-clause-joined g c pieces has =
    let inv = c.loop-count.invariant in
    let image = g.D.Disk.seen c.args.disk.now in
    let no_more = ⊎_elim (λ none_left. inl (sym inv.left ∙ none_left))
    (λ none. inr (subst (λ (l : List ℕ). NoRecord (drop c.loop-count.place l)) inv.read.same none))
    (rw c.in_default.is at c.in_ok-count.ensures.found) in
    inv.bytes ∙ ap (λ (l : List ℕ). c.args.into.now ++ l)
    (all_read image c.loop-count.place inv.held inv.front pieces has c.args.most no_more)
