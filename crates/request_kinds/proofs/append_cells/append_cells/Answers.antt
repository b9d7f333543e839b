use Rattle.std.proofs.Common.{sym, [], ◌∙◌}
use Rattle.values_api.specs.FoundLaws.{sound_sheet}
use Rattle.request_kinds.proofs.RowsAppended.{behind_there, none_appended}
use Rattle.request_kinds.proofs.append_cells.append_cells.Goals as goal

pub row_behind-requires : goal.row_behind-requires
row_behind-requires c =
    (sound_sheet c.args.book.now c.stays_sound.ensures c.args.sheet c.in-Some.found.now (sym c.in-Some.ensures)).inside

pub write_from-requires-clause-there : goal.write_from-requires-clause-there
write_from-requires-clause-there c =
    behind_there c.args.book.now c.stays_sound.ensures c.args.sheet c.in_ok-row.row c.in-Some.found.now
    c.in-Some.ensures
    c.in_ok-row.ensures

pub returns-then-rows_needed-eq0 : goal.returns-then-rows_needed-eq0
returns-then-rows_needed-eq0 c = (
  [],
  none_appended c.args.user.now c.args.sheet c.args.rows.now c.args.book.now c.in-Some.found.now c.in-Some.ensures
      (sym c.rows_needed.ensures ∙ c.if-rows_needed-eq0.true),
  c.changes_in_turn.ensures.none c.args.book.now,
)
