use Rattle.std.proofs.Common.{[]}
use Rattle.grid_range.specs.declared.axis.Axis.TheVariants.{Columns}
use Rattle.world_model.specs.Sound.{place_sheet_with}
use Rattle.dimension_ops.proofs.Setting.{after_cols_cut, after_rows_added, after_rows_cut, cols_few, cols_there, lines_there, low, rows_few, rows_there}
use Rattle.dimension_ops.proofs.properties.set_size.Goals as goal

pub cut-requires-2-clause-there : goal.cut-requires-2-clause-there
cut-requires-2-clause-there c =
    lines_there Columns (low c.args.size.0 c.args.given.0, c.args.size.1)
    (place_sheet_with c.args.sheet c.cut.new.book.sheets)
    (after_rows_cut c.args.sheet c.args.size c.args.given c.requires.others c.args.book.now.sheets c.cut.new.book.sheets
    [] [] c.requires.sized c.in_ok-cut.ensures.sized).held

pub extend-requires-clause-there : goal.extend-requires-clause-there
extend-requires-clause-there c =
    let sound = c.changes_in_turn.ensures.sound _ c.args.book.now c.cut.new.book c.stays_sound.ensures
    c.in_ok-cut.ensures.cut in
    let sound' = c.changes_in_turn.ensures.sound _ c.cut.new.book c.cut-2.new.book sound c.in_ok-cut-2.ensures.cut in
    rows_there c.args.sheet c.args.size c.args.given c.requires.others c.cut-2.new.book.sheets sound'.distinct
    c.requires.room
    (after_cols_cut c.args.sheet c.args.size c.args.given c.requires.others c.args.book.now.sheets c.cut.new.book.sheets
    c.cut-2.new.book.sheets [] c.requires.sized c.in_ok-cut.ensures.sized c.in_ok-cut-2.ensures.sized)

pub extend-requires-clause-few : goal.extend-requires-clause-few
extend-requires-clause-few c =
    let sound = c.changes_in_turn.ensures.sound _ c.args.book.now c.cut.new.book c.stays_sound.ensures
    c.in_ok-cut.ensures.cut in
    let sound' = c.changes_in_turn.ensures.sound _ c.cut.new.book c.cut-2.new.book sound c.in_ok-cut-2.ensures.cut in
    rows_few c.args.sheet c.args.size c.args.given c.requires.others c.cut-2.new.book.sheets sound'.distinct
    c.requires.room
    (after_cols_cut c.args.sheet c.args.size c.args.given c.requires.others c.args.book.now.sheets c.cut.new.book.sheets
    c.cut-2.new.book.sheets [] c.requires.sized c.in_ok-cut.ensures.sized c.in_ok-cut-2.ensures.sized)

pub extend-requires-2-clause-there : goal.extend-requires-2-clause-there
extend-requires-2-clause-there c =
    let sound = c.changes_in_turn.ensures.sound _ c.args.book.now c.cut.new.book c.stays_sound.ensures
    c.in_ok-cut.ensures.cut in
    let sound' = c.changes_in_turn.ensures.sound _ c.cut.new.book c.cut-2.new.book sound c.in_ok-cut-2.ensures.cut in
    let sound'' = c.changes_in_turn.ensures.sound _ c.cut-2.new.book c.extend.new.book sound'
    c.in_ok-extend.ensures.added in
    cols_there c.args.sheet c.args.size c.args.given c.requires.others c.extend.new.book.sheets sound''.distinct
    c.requires.room
    (after_rows_added c.args.sheet c.args.size c.args.given c.requires.others c.args.book.now.sheets
    c.cut.new.book.sheets c.cut-2.new.book.sheets c.extend.new.book.sheets c.requires.sized c.in_ok-cut.ensures.sized
    c.in_ok-cut-2.ensures.sized c.in_ok-extend.ensures.sized)

pub extend-requires-2-clause-few : goal.extend-requires-2-clause-few
extend-requires-2-clause-few c =
    let sound = c.changes_in_turn.ensures.sound _ c.args.book.now c.cut.new.book c.stays_sound.ensures
    c.in_ok-cut.ensures.cut in
    let sound' = c.changes_in_turn.ensures.sound _ c.cut.new.book c.cut-2.new.book sound c.in_ok-cut-2.ensures.cut in
    let sound'' = c.changes_in_turn.ensures.sound _ c.cut-2.new.book c.extend.new.book sound'
    c.in_ok-extend.ensures.added in
    cols_few c.args.sheet c.args.size c.args.given c.requires.others c.extend.new.book.sheets sound''.distinct
    c.requires.room
    (after_rows_added c.args.sheet c.args.size c.args.given c.requires.others c.args.book.now.sheets
    c.cut.new.book.sheets c.cut-2.new.book.sheets c.extend.new.book.sheets c.requires.sized c.in_ok-cut.ensures.sized
    c.in_ok-cut-2.ensures.sized c.in_ok-extend.ensures.sized)
