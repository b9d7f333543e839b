use Rattle.std.proofs.Common.{take, arith, sym, ap, ◌∙◌}
use Rattle.std.proofs.lemmas.List.{take-take}
use Rattle.sheets_http.proofs.ListLemmas.{front_stays, front_and_behind}
use Rattle.sheets_http.proofs.buffer.read_behind.Goals as goal

pub returns-in-Ok-read-clause-kept : goal.returns-in-Ok-read-clause-kept
returns-in-Ok-read-clause-kept g c =
    front_and_behind c.args.bytes.now.items _ c.args.held c.in-Ok-read.count
    (front_stays c.args.held c.make_room.new.bytes.len c.deref_mut.result.now _ _ (omega arith) (omega arith)
    ∙ ap (take c.args.held) c.deref_mut.ensures.value
    ∙ sym (take-take c.args.held c.args.bytes.now.len c.make_room.new.bytes.items (omega arith))
    ∙ ap (take c.args.held) c.make_room.ensures.kept)
