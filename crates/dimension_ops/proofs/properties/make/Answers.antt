use Rattle.std.proofs.Common.{◌≤◌, sym, subst}
use Rattle.world_model.specs.Sound.{most_places}
use Rattle.dimension_ops.specs.SizeLaws.{has_places}
use Rattle.dimension_ops.proofs.Setting.{gets_size, on_ok}
use Rattle.dimension_ops.proofs.properties.make.Goals as goal

pub returns-clause-made : goal.returns-clause-made
returns-clause-made c =
    let before = c.args.book.now in
    let after = c.change_lines.new.self in
    on_ok c.change_lines.result _ _
    (λ changed. c.line_changes_are_changes.ensures.changes before after c.args.sheet c.args.axis c.args.count
    c.args.change.now c.requires.fits c.requires.room c.requires.long changed
    (subst (λ n. n ≤ most_places) (sym (has_places c.args.sheet c.args.axis c.args.count c.args.change.now
    before.sheets after.sheets changed.sheets)) c.requires.few))
    c.change_lines.ensures

pub returns-clause-sized : goal.returns-clause-sized
returns-clause-sized c =
    on_ok c.change_lines.result _ _
    (gets_size c.args.sheet c.args.axis c.args.change.now c.args.count c.args.book.now c.change_lines.new.self
    c.stays_sound.ensures.distinct)
    c.change_lines.ensures
