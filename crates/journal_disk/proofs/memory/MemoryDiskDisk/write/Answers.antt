use Rattle.std.proofs.Common.{refl}
use Rattle.std.proofs.lemmas.Result.{on_err_weaker}
use Rattle.journal_disk.proofs.Kept.{on_err_of}
use Rattle.journal_disk.proofs.Recording.{write_sound, write_told, write_time, write_crash, wrote_small, wrote_none}
use Rattle.journal_disk.proofs.memory.MemoryDiskDisk.write.Goals as goal

pub returns-then-is_full-clause-partly : goal.returns-then-is_full-clause-partly
returns-then-is_full-clause-partly c = on_err_of c.answer.result (
  0,
  wrote_none c.args.self.now.bytes.items c.args.at c.args.bytes.now c.args.self.now.bytes.items refl,
)

pub invariant_of-self-2-clause-sound : goal.invariant_of-self-2-clause-sound
invariant_of-self-2-clause-sound c =
    let disk = c.args.self.now in
    let noted = c.note_write.ensures in
    let end = c.is_too_long.ensures.end c.if-is_too_long.false in
    write_sound disk.written.items c.args.bytes.now c.note_write.new.written.items disk.calls.items
    c.note_write.new.calls.items c.args.at c.next_fails-failed.result noted.written noted.calls disk.sound end

pub invariant_of-self-2-clause-told : goal.invariant_of-self-2-clause-told
invariant_of-self-2-clause-told c =
    let disk = c.args.self.now in
    let noted = c.note_write.ensures in
    let done = c.write_unless.ensures in
    let failed = c.next_fails-failed.result in
    write_told disk.written.items c.args.bytes.now c.note_write.new.written.items disk.calls.items
    c.note_write.new.calls.items c.args.at failed noted.written noted.calls disk.sound disk.bytes.items
    c.write_unless.new.bytes.items done.done done.failed disk.told

pub invariant_of-self-2-clause-small : goal.invariant_of-self-2-clause-small
invariant_of-self-2-clause-small c =
    let disk = c.args.self.now in
    let done = c.write_unless.ensures in
    let failed = c.next_fails-failed.result in
    let end = c.is_too_long.ensures.end c.if-is_too_long.false in
    wrote_small c.args.at c.args.bytes.now disk.bytes.items c.write_unless.new.bytes.items failed done.done done.failed
    end disk.small

pub returns-clause-partly : goal.returns-clause-partly
returns-clause-partly c =
    on_err_weaker c.answer-2.result (λ failed. (
      0,
      wrote_none c.args.self.now.bytes.items c.args.at c.args.bytes.now c.write_unless.new.bytes.items
          (c.write_unless.ensures.failed failed),
    )) c.answer-2.ensures.err

pub returns-clause-crash : goal.returns-clause-crash
returns-clause-crash c =
    let disk = c.args.self.now in
    let noted = c.note_write.ensures in
    write_crash disk.written.items c.args.bytes.now c.note_write.new.written.items disk.calls.items
    c.note_write.new.calls.items c.args.at c.next_fails-failed.result noted.written noted.calls disk.sound

pub returns-clause-time : goal.returns-clause-time
returns-clause-time c =
    let disk = c.args.self.now in
    let noted = c.note_write.ensures in
    write_time disk.written.items c.args.bytes.now c.note_write.new.written.items disk.calls.items
    c.note_write.new.calls.items c.args.at c.next_fails-failed.result noted.written noted.calls disk.sound
