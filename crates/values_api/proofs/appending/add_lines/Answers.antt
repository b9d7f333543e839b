use Rattle.values_api.proofs.Adding.{both_added, cols_can, rows_can}
use Rattle.values_api.proofs.appending.add_lines.Goals as goal

pub add_on-requires : goal.add_on-requires
add_on-requires c = rows_can c.args.sheet c.args.added.now c.args.book.now.sheets c.requires

pub add_on-requires-2 : goal.add_on-requires-2
add_on-requires-2 c =
    cols_can c.args.sheet c.args.added.now c.args.book.now c.add_on.new.book c.requires c.in_ok-add_on.ensures.added

pub returns-clause-added : goal.returns-clause-added
returns-clause-added c =
    both_added c.changes_in_turn.ensures c.args.sheet c.args.added.now c.args.book.now c.add_on.new.book
    c.add_on-2.new.book c.requires c.in_ok-add_on.ensures.added c.in_ok-add_on-2.ensures.added
