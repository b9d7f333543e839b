use Rattle.std.proofs.Common.{take}
use Rattle.journal_disk.specs.Recorded.{empty, state_after, IsReplayed}
use Rattle.journal_disk.proofs.memory.MemoryDisk.image.Given as goal

abbrev pub invariant-loop-call : goal.invariant-loop-call
invariant-loop-call l = IsReplayed (state_after l.self.written.items empty
    (take l.call-index l.self.calls.items)) l.replay.seen.items l.replay.image.items
