use Rattle.std.proofs.Common.{inl, inr, ⊎_elim, refl}
use Rattle.std.specs.Prelude.{Some}
use Rattle.std.proofs.lemmas.Result.{on_ok_weaker, on_err_weaker}
use Rattle.journal_disk.specs.Log.{IsKept, IsKeptOrPut}
use Rattle.journal_disk.proofs.Moments.{then, weaker}
use Rattle.journal_disk.proofs.Kept.{on_err_of}
use Rattle.journal_disk.proofs.log.DiskLog.put.Goals as goal

pub returns-in_err-shut_doubted-clause-refused : goal.returns-in_err-shut_doubted-clause-refused
returns-in_err-shut_doubted-clause-refused g c =
    on_err_of c.from_residual.result (λ pieces doubted keeps.
    (doubted, inl refl, c.in_err-shut_doubted.ensures.unsettled pieces doubted keeps))

pub returns-in_err-shut_doubted-clause-any_moment : goal.returns-in_err-shut_doubted-clause-any_moment
returns-in_err-shut_doubted-clause-any_moment g c pieces doubted keeps =
    let log = c.args.self.now in
    let first = c.shut_doubted.ensures.any_moment pieces doubted keeps in
    (weaker g.D.Disk.moment g.D.Disk.left_since g.D.Disk.may_leave log.disk c.shut_doubted.new.self.disk
    (IsKept pieces doubted) (IsKeptOrPut pieces doubted c.args.piece.now) first (λ image kept. inl kept)).moments

pub returns-clause-acknowledged : goal.returns-clause-acknowledged
returns-clause-acknowledged g c =
    on_ok_weaker c.add.result (λ done pieces doubted keeps. done pieces
    (c.in_ok-shut_doubted.ensures.settled pieces doubted keeps)) c.add.ensures.acknowledged

pub returns-clause-refused : goal.returns-clause-refused
returns-clause-refused g c =
    on_err_weaker c.add.result (λ failed pieces doubted keeps.
    let left = failed pieces (c.in_ok-shut_doubted.ensures.settled pieces doubted keeps) in
    (left.0, inr left.1, left.2)) c.add.ensures.refused

pub returns-clause-any_moment : goal.returns-clause-any_moment
returns-clause-any_moment g c pieces doubted keeps =
    let log = c.args.self.now in
    let P = IsKeptOrPut pieces doubted c.args.piece.now in
    let first = weaker g.D.Disk.moment g.D.Disk.left_since g.D.Disk.may_leave log.disk c.shut_doubted.new.self.disk
    (IsKept pieces doubted) P (c.shut_doubted.ensures.any_moment pieces doubted keeps) (λ image kept. inl kept) in
    let second = weaker g.D.Disk.moment g.D.Disk.left_since g.D.Disk.may_leave c.shut_doubted.new.self.disk
    c.add.new.self.disk (IsKept pieces (Some c.args.piece.now)) P
    (c.add.ensures.any_moment pieces (c.in_ok-shut_doubted.ensures.settled pieces doubted keeps))
    (λ image kept. ⊎_elim (λ as_before. inl (inl as_before)) (λ put. inr put) kept) in
    (then g.D.Disk.moment g.D.Disk.left_since g.D.Disk.may_leave log.disk c.shut_doubted.new.self.disk
    c.add.new.self.disk P first second).moments
