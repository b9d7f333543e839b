use Rattle.std.proofs.Common.{◌∙◌}
use Rattle.std.proofs.lemmas.Result.{on_ok_weaker}
use Rattle.journal_disk.specs.Log.{IsGated}
use Rattle.journal_disk.proofs.Moments.{started, goes_on}
use Rattle.journal_disk.proofs.Images.{each_gated, gate_written}
use Rattle.journal_disk.proofs.gate.write_gate.Goals as goal

pub returns-in_err-write-clause-images : goal.returns-in_err-write-clause-images
returns-in_err-write-clause-images g c front behind is_at all =
    let d = g.D.Disk.may_leave in
    let at_start = started g.D.Disk.moment g.D.Disk.left_since d c.args.disk.now (IsGated front behind)
    (g.met.D.Disk.only_now c.args.disk.now) all in
    let torn = each_gated front behind c.args.end is_at _ _ all c.write.ensures.crash in
    goes_on g.D.Disk.moment g.D.Disk.left_since d c.args.disk.now c.args.disk.now c.write.new.self
    (IsGated front behind) at_start c.write.ensures.time torn

pub returns-clause-images : goal.returns-clause-images
returns-clause-images g c front behind is_at all =
    let d = g.D.Disk.may_leave in
    let at_start = started g.D.Disk.moment g.D.Disk.left_since d c.args.disk.now (IsGated front behind)
    (g.met.D.Disk.only_now c.args.disk.now) all in
    let torn = each_gated front behind c.args.end is_at _ _ all c.write.ensures.crash in
    let written = goes_on g.D.Disk.moment g.D.Disk.left_since d c.args.disk.now c.args.disk.now c.write.new.self
    (IsGated front behind) at_start c.write.ensures.time torn in
    goes_on g.D.Disk.moment g.D.Disk.left_since d c.args.disk.now c.write.new.self c.sync.new.self
    (IsGated front behind) written c.sync.ensures.time (λ image left. torn image (c.sync.ensures.crash image left))

pub returns-clause-settled : goal.returns-clause-settled
returns-clause-settled g c =
    on_ok_weaker c.sync.result (λ only front behind is_at all image left.
    only image left ∙ gate_written front behind c.args.end is_at c.args.gate _ _
    (all _ (g.met.D.Disk.seen_is_image c.args.disk.now)) c.in_ok-write.ensures.written) c.sync.ensures.durable
