use Rattle.std.proofs.Common.{◌≡◌, true, rules}
use Rattle.journal_disk.specs.Log.{IsKept}
use Rattle.journal_disk.proofs.Moments.{started}
use Rattle.journal_disk.proofs.Kept.{on_err_of, kept_images, gate_stays}
use Rattle.journal_disk.proofs.log.DiskLog.shut_doubted.Goals as goal

pub returns-then-not-self-clause-any_moment : goal.returns-then-not-self-clause-any_moment
returns-then-not-self-clause-any_moment g c pieces doubted keeps =
    let log = c.args.self.now in
    started g.D.Disk.moment g.D.Disk.left_since g.D.Disk.may_leave log.disk (IsKept pieces doubted)
    (g.met.D.Disk.only_now log.disk) (kept_images _ log.end log.kept log.in_doubt pieces doubted keeps)

pub returns-in_err-write_gate-clause-unsettled : goal.returns-in_err-write_gate-clause-unsettled
returns-in_err-write_gate-clause-unsettled g c =
    let log = c.args.self.now in
    let is_true : log.in_doubt ≡ true = search rules in
    on_err_of c.from_residual.result (λ pieces doubted keeps.
    (gate_stays g.D.Disk.moment g.D.Disk.left_since g.D.Disk.may_leave log.disk c.write_gate.new.disk log.end log.kept
    pieces log.in_doubt doubted is_true keeps c.write_gate.ensures.images).1)

pub returns-in_err-write_gate-clause-any_moment : goal.returns-in_err-write_gate-clause-any_moment
returns-in_err-write_gate-clause-any_moment g c pieces doubted keeps =
    let log = c.args.self.now in
    let is_true : log.in_doubt ≡ true = search rules in
    (gate_stays g.D.Disk.moment g.D.Disk.left_since g.D.Disk.may_leave log.disk c.write_gate.new.disk log.end log.kept
    pieces log.in_doubt doubted is_true keeps c.write_gate.ensures.images).0

pub returns-clause-any_moment : goal.returns-clause-any_moment
returns-clause-any_moment g c pieces doubted keeps =
    let log = c.args.self.now in
    let is_true : log.in_doubt ≡ true = search rules in
    (gate_stays g.D.Disk.moment g.D.Disk.left_since g.D.Disk.may_leave log.disk c.write_gate.new.disk log.end log.kept
    pieces log.in_doubt doubted is_true keeps c.write_gate.ensures.images).0
