use Rattle.std.proofs.Common.{inr, [], refl, sym}
use Rattle.std.specs.Prelude.{Some}
use Rattle.journal_disk.specs.Records.{records}
use Rattle.journal_disk.specs.Log.{IsKept}
use Rattle.journal_disk.proofs.Moments.{then}
use Rattle.journal_disk.proofs.Kept.{on_err_of, acknowledged, closed_stays, gated_stays}
use Rattle.journal_disk.proofs.log.DiskLog.add.Goals as goal

pub returns-in_err-stage-clause-any_moment : goal.returns-in_err-stage-clause-any_moment
returns-in_err-stage-clause-any_moment g c pieces keeps =
    let log = c.args.self.now in
    closed_stays g.D.Disk.moment g.D.Disk.left_since g.D.Disk.may_leave log.disk c.stage.new.disk log.end log.kept
    pieces (Some c.args.piece.now) keeps.fit
    (c.stage.ensures.images (records pieces []) (sym keeps.place) keeps.ends.1)

pub returns-in_err-write_gate-clause-refused : goal.returns-in_err-write_gate-clause-refused
returns-in_err-write_gate-clause-refused g c =
    on_err_of c.from_residual-in_err-write_gate.result (λ pieces keeps.
    let staged = c.in_ok-stage.ensures.staged (records pieces []) (sym keeps.place) keeps.ends.1 in
    let stays = c.write_gate.ensures.images (records pieces []) staged.0 (sym keeps.place) staged.2 in (
      Some c.args.piece.now,
      inr refl,
      record {
        fit = keeps.fit;
        place = keeps.place;
        bytes = keeps.bytes;
        ends = (refl, (staged.0, staged.1, stays.now));
      },
    ))

pub returns-in_err-write_gate-clause-any_moment : goal.returns-in_err-write_gate-clause-any_moment
returns-in_err-write_gate-clause-any_moment g c pieces keeps =
    let log = c.args.self.now in
    let first = closed_stays g.D.Disk.moment g.D.Disk.left_since g.D.Disk.may_leave log.disk c.stage.new.disk log.end
    log.kept pieces (Some c.args.piece.now) keeps.fit
    (c.stage.ensures.images (records pieces []) (sym keeps.place) keeps.ends.1) in
    let staged = c.in_ok-stage.ensures.staged (records pieces []) (sym keeps.place) keeps.ends.1 in
    let second = gated_stays g.D.Disk.moment g.D.Disk.left_since g.D.Disk.may_leave c.stage.new.disk
    c.write_gate.new.disk log.end log.kept pieces c.args.piece.now staged.0 keeps.fit staged.1
    (c.write_gate.ensures.images (records pieces []) staged.0 (sym keeps.place) staged.2) in
    then g.D.Disk.moment g.D.Disk.left_since g.D.Disk.may_leave log.disk c.stage.new.disk c.write_gate.new.disk
    (IsKept pieces (Some c.args.piece.now)) first second

pub returns-clause-acknowledged : goal.returns-clause-acknowledged
returns-clause-acknowledged g c pieces keeps =
    let log = c.args.self.now in
    let staged = c.in_ok-stage.ensures.staged (records pieces []) (sym keeps.place) keeps.ends.1 in
    acknowledged _ _ log.end log.kept log.in_doubt pieces c.args.piece.now staged.0 keeps staged.1
    (c.in_ok-write_gate.ensures.settled (records pieces []) staged.0 (sym keeps.place) staged.2)

pub returns-clause-any_moment : goal.returns-clause-any_moment
returns-clause-any_moment g c pieces keeps =
    let log = c.args.self.now in
    let first = closed_stays g.D.Disk.moment g.D.Disk.left_since g.D.Disk.may_leave log.disk c.stage.new.disk log.end
    log.kept pieces (Some c.args.piece.now) keeps.fit
    (c.stage.ensures.images (records pieces []) (sym keeps.place) keeps.ends.1) in
    let staged = c.in_ok-stage.ensures.staged (records pieces []) (sym keeps.place) keeps.ends.1 in
    let second = gated_stays g.D.Disk.moment g.D.Disk.left_since g.D.Disk.may_leave c.stage.new.disk
    c.write_gate.new.disk log.end log.kept pieces c.args.piece.now staged.0 keeps.fit staged.1
    (c.write_gate.ensures.images (records pieces []) staged.0 (sym keeps.place) staged.2) in
    then g.D.Disk.moment g.D.Disk.left_since g.D.Disk.may_leave log.disk c.stage.new.disk c.write_gate.new.disk
    (IsKept pieces (Some c.args.piece.now)) first second
