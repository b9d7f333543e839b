use Rattle.std.proofs.Common.{arith}
use Rattle.request_kinds.proofs.RowsAppended.{found_none_added, found_some_added}
use Rattle.request_kinds.proofs.append_cells.add_rows.Goals as goal

pub returns-then-count-eq0 : goal.returns-then-count-eq0
returns-then-count-eq0 c =
    found_none_added c.args.sheet c.args.count c.args.book.now c.changes_in_turn.ensures c.requires c.if-count-eq0.true

pub returns-in-Ok : goal.returns-in-Ok
returns-in-Ok c =
    let some = c.if-count-eq0.false in
    found_some_added c.args.sheet c.args.count c.args.book.now c.append_lines.new.book (omega (arith, some))
    c.in-Ok.ensures
