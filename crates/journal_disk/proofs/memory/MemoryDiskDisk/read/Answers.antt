use Rattle.std.proofs.Common.{refl}
use Rattle.journal_disk.specs.declared.calls.Call.TheVariants.{Read}
use Rattle.journal_disk.proofs.Recording.{notes_sound, notes_told, notes_time, notes_crash}
use Rattle.journal_disk.proofs.memory.MemoryDiskDisk.read.Goals as goal

pub invariant_of-self-clause-sound : goal.invariant_of-self-clause-sound
invariant_of-self-clause-sound c =
    let disk = c.args.self.now in
    let call = Read c.next_fails-failed.result in
    notes_sound disk.written.items disk.calls.items c.note.new.calls.items call c.note.ensures.either disk.sound refl
    refl

pub invariant_of-self-clause-told : goal.invariant_of-self-clause-told
invariant_of-self-clause-told c =
    let disk = c.args.self.now in
    let call = Read c.next_fails-failed.result in
    notes_told disk.written.items disk.calls.items c.note.new.calls.items call c.note.ensures.either disk.bytes.items
    (λ held. refl) disk.told

pub returns-in_err-answer-clause-crash : goal.returns-in_err-answer-clause-crash
returns-in_err-answer-clause-crash c image =
    let disk = c.args.self.now in
    notes_crash disk.written.items disk.calls.items c.note.new.calls.items
    (Read c.next_fails-failed.result) c.note.ensures.either image (λ held one left. left)

pub returns-in_err-answer-clause-time : goal.returns-in_err-answer-clause-time
returns-in_err-answer-clause-time c =
    let disk = c.args.self.now in
    notes_time disk.written.items disk.calls.items c.note.new.calls.items
    (Read c.next_fails-failed.result) c.note.ensures.either

pub returns-clause-crash : goal.returns-clause-crash
returns-clause-crash c image =
    let disk = c.args.self.now in
    notes_crash disk.written.items disk.calls.items c.note.new.calls.items
    (Read c.next_fails-failed.result) c.note.ensures.either image (λ held one left. left)

pub returns-clause-time : goal.returns-clause-time
returns-clause-time c =
    let disk = c.args.self.now in
    notes_time disk.written.items disk.calls.items c.note.new.calls.items
    (Read c.next_fails-failed.result) c.note.ensures.either
