use Rattle.std.proofs.Common.{refl, ◌∙◌}
use Rattle.std.proofs.lemmas.Result.{on_ok_weaker}
use Rattle.journal_disk.specs.declared.calls.Call.TheVariants.{Sync}
use Rattle.journal_disk.proofs.Recording.{notes_sound, notes_told, notes_time, notes_crash, sync_seen, sync_leaves}
use Rattle.journal_disk.proofs.Recording.{sync_only}
use Rattle.journal_disk.proofs.memory.MemoryDiskDisk.sync.Goals as goal

pub invariant_of-self-clause-sound : goal.invariant_of-self-clause-sound
invariant_of-self-clause-sound c =
    let disk = c.args.self.now in
    let call = Sync c.next_fails-failed.result in
    notes_sound disk.written.items disk.calls.items c.note.new.calls.items call c.note.ensures.either disk.sound refl
    refl

pub invariant_of-self-clause-told : goal.invariant_of-self-clause-told
invariant_of-self-clause-told c =
    let disk = c.args.self.now in
    let call = Sync c.next_fails-failed.result in
    notes_told disk.written.items disk.calls.items c.note.new.calls.items call c.note.ensures.either disk.bytes.items
    (sync_seen disk.written.items c.next_fails-failed.result) disk.told

pub returns-clause-durable : goal.returns-clause-durable
returns-clause-durable c =
    let disk = c.args.self.now in
    on_ok_weaker c.answer.result (λ fine.
    let noted = c.note.ensures.noted (c.is_full.ensures ∙ c.next_fails-failed.ensures.room fine) in
    sync_only disk.written.items disk.calls.items c.note.new.calls.items c.next_fails-failed.result disk.bytes.items
    fine noted disk.told) c.answer.ensures.ok

pub returns-clause-crash : goal.returns-clause-crash
returns-clause-crash c image =
    let disk = c.args.self.now in
    notes_crash disk.written.items disk.calls.items c.note.new.calls.items
    (Sync c.next_fails-failed.result) c.note.ensures.either image
    (sync_leaves disk.written.items c.next_fails-failed.result image)

pub returns-clause-time : goal.returns-clause-time
returns-clause-time c =
    let disk = c.args.self.now in
    notes_time disk.written.items disk.calls.items c.note.new.calls.items
    (Sync c.next_fails-failed.result) c.note.ensures.either
