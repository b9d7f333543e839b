use Rattle.std.proofs.Common.{◌≡◌, ℕ, length, take, min, ◌∙◌, ap, arith}
use Rattle.std.proofs.lemmas.List.{take_min}
use Rattle.std.proofs.lemmas.Result.{on_ok_weaker, on_err_weaker}
use Rattle.std.specs.List.{concat}
use Rattle.journal_disk.specs.Log.{IsKept}
use Rattle.journal_disk.proofs.Joining.{first_read, some_first}
use Rattle.journal_disk.proofs.Kept.{kept_images}
use Rattle.journal_disk.proofs.Scanning.{read_stays}
use Rattle.journal_disk.proofs.log.DiskLog.load.Goals as goal

pub returns-clause-loaded : goal.returns-clause-loaded
returns-clause-loaded g c =
    on_ok_weaker c.read_pieces.result (λ done pieces doubted keeps.
    let log = c.args.self.now in
    let image = g.D.Disk.seen log.disk in
    let kept = kept_images (g.D.Disk.may_leave log.disk) log.end log.kept log.in_doubt pieces doubted keeps image
    (g.met.D.Disk.seen_is_image log.disk) in
    let wanted : c.min.result ≡ min c.args.most (length (concat pieces)) = omega (arith, c.min.ensures, keeps.bytes) in
    first_read pieces doubted image c.clear.new.self c.read_pieces.new.into c.min.result kept c.clear.ensures
    (omega (arith, wanted)) done
    ∙ ap (λ (n : ℕ). take n (concat pieces)) wanted ∙ take_min c.args.most (concat pieces)) c.read_pieces.ensures.joined

pub returns-clause-fewer : goal.returns-clause-fewer
returns-clause-fewer g c =
    on_err_weaker c.read_pieces.result (λ some pieces doubted keeps.
    let log = c.args.self.now in
    let image = g.D.Disk.seen log.disk in
    let kept = kept_images (g.D.Disk.may_leave log.disk) log.end log.kept log.in_doubt pieces doubted keeps image
    (g.met.D.Disk.seen_is_image log.disk) in
    some_first pieces doubted image c.clear.new.self c.read_pieces.new.into c.min.result kept c.clear.ensures
    (omega (arith, c.min.ensures, keeps.bytes)) some) c.read_pieces.ensures.fewer

pub returns-clause-any_moment : goal.returns-clause-any_moment
returns-clause-any_moment g c pieces doubted keeps =
    let log = c.args.self.now in
    let all = kept_images (g.D.Disk.may_leave log.disk) log.end log.kept log.in_doubt pieces doubted keeps in
    (read_stays g.D.Disk.seen g.D.Disk.may_leave g.D.Disk.moment g.D.Disk.left_since log.disk c.read_pieces.new.disk
    (IsKept pieces doubted) (g.met.D.Disk.only_now log.disk) all c.read_pieces.ensures.read).moments
