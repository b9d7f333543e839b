use Rattle.request_kinds.specs.MergeCells.{covered_cleared}
use Rattle.request_kinds.proofs.merge_cells.empty_covered.Goals as goal

pub returns : goal.returns
returns c =
    let updates = covered_cleared c.args.merge_type c.args.area.now in
    let cleared = c.in_ok-clear_covered.ensures in
    c.updates_are_changes.ensures.changes c.args.book.now c.clear_covered.new.book c.args.area.now.sheet updates
    cleared.id
    (λ names stands. c.updates_follow.ensures.follows c.args.book.now c.clear_covered.new.book names
    c.args.area.now.sheet updates stands c.stays_sound.ensures cleared)
