use Rattle.link_store.proofs.Transferred.{ok_then, err_both, goes_after, nothing_dropped, takes_after}
use Rattle.link_store.proofs.cells.Cells.change.Goals as goal

pub returns-clause-moved : goal.returns-clause-moved
returns-clause-moved g c = ok_then c.move_lines.result _ _ c.move_lines.ensures.moved
    (goes_after c.args.axis c.args.change.now c.args.self.now c.drop_deleted.new.self c.move_lines.new.self
    c.drop_deleted.ensures.kept)

pub returns-clause-unchanged : goal.returns-clause-unchanged
returns-clause-unchanged g c = err_both c.move_lines.result _ _ _ c.move_lines.ensures.only
    c.move_lines.ensures.unchanged
    (nothing_dropped c.args.axis c.args.change.now c.args.self.now c.drop_deleted.new.self c.move_lines.new.self
    c.drop_deleted.ensures.kept)

pub returns-clause-lists : goal.returns-clause-lists
returns-clause-lists g c =
    takes_after c.args.axis c.args.change.now c.args.self.now c.drop_deleted.new.self c.move_lines.new.self
    c.drop_deleted.ensures.kept
    c.move_lines.ensures.lists
