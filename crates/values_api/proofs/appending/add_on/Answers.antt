use Rattle.std.proofs.Common.{◌<◌, arith}
use Rattle.values_api.proofs.Adding.{none_added, only_no_memory, some_added}
use Rattle.values_api.proofs.appending.add_on.Goals as goal

pub returns-then-count-eq0-clause-added : goal.returns-then-count-eq0-clause-added
returns-then-count-eq0-clause-added c =
    none_added c.args.sheet c.args.axis c.args.at c.args.count c.changes_in_turn.ensures c.args.book.now
    c.if-count-eq0.true

pub returns-in-Err-clause-refused : goal.returns-in-Err-clause-refused
returns-in-Err-clause-refused c =
    let some : 0 < c.args.count = omega (arith, c.if-count-eq0.false) in
    only_no_memory c.args.sheet c.args.axis c.args.at c.args.count c.args.book.now c.change_sheet.new.book
    c.in-Err.fault
    c.in-Err.ensures c.requires some

pub returns-in-Ok-clause-added : goal.returns-in-Ok-clause-added
returns-in-Ok-clause-added c =
    let some : 0 < c.args.count = omega (arith, c.if-count-eq0.false) in
    some_added c.args.sheet c.args.axis c.args.at c.args.count c.args.book.now c.change_sheet.new.book some
    c.in-Ok.ensures.changed c.in-Ok.ensures.places
