use Rattle.journal_disk.proofs.Recording.{replays_on}
use Rattle.journal_disk.proofs.memory.MemoryDisk.image.Goals as goal

pub loop-call-preserved : goal.loop-call-preserved
loop-call-preserved c =
    let disk = c.args.self.now in
    replays_on disk.written.items c.deref.result.now disk.calls.items c.deref-call-items.result.now
    c.loop-call.call-index _ c.loop-call.replay.seen.items c.loop-call.replay.image.items c.step.new.self.seen.items
    c.step.new.self.image.items
    c.deref.ensures.value c.deref-call-items.ensures.value c.loop-call-test.true c.loop-call.invariant
    c.in_ok-step.ensures
