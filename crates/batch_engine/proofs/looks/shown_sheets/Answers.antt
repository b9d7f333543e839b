use Rattle.std.proofs.Common.{◌+◌, ◌++◌, ◌∷◌, ◌<◌, [], ◌∙◌, ap, arith, length, subst, sym, take}
use Rattle.std.proofs.lemmas.List.{length-map, take_all}
use Rattle.world_model.specs.Sheet.{PlaceSheet}
use Rattle.world_model.specs.Sound.{IsSheetSound}
use Rattle.values_api.specs.Sheets.{stored_in}
use Rattle.batch_engine.specs.Looks.{AreSheetsShown, IsGridShown, shown_sheet, shown_protections}
use Rattle.batch_engine.proofs.Looking.{shown_next}
use Rattle.batch_engine.proofs.looks.shown_sheets.Goals as goal

pub loop-at-init : goal.loop-at-init
loop-at-init c = (
  c.new-table.ensures.right (stored_in c.args.book.now),
  record { grids = []; each = tt; shown_are = c.new-sheets.ensures.items },
)

-- all sheets
pub returns : goal.returns
returns c =
    let Are = AreSheetsShown c.args.user.now c.args.wanted c.args.book.now in
    let sheets = c.args.book.now.sheets in
    let long = ap length (c.as_slice-at-end.ensures ∙ c.sheets.ensures)
    ∙ length-map sheets (λ (sheet : PlaceSheet). sheet.id) in
    subst (Are sheets) (sym c.of.ensures)
    (subst (λ some. Are some c.loop-at.sheets.items)
    (take_all c.loop-at.at sheets (omega (arith, c.loop-at-test.false, long))) c.loop-at.invariant.1)

pub grid_shown-requires-clause-sound : goal.grid_shown-requires-clause-sound
grid_shown-requires-clause-sound c =
    let sheets = c.args.book.now.sheets in
    let d = c.sheet_at-sheet.result.now in
    subst (IsSheetSound sheets) (sym (c.sheet_at-sheet.ensures.sheet d))
    (c.stays_sound.ensures.sheets c.loop-at.at d (subst (λ count. c.loop-at.at < count)
    (ap length (c.as_slice-at-end.ensures ∙ c.sheets.ensures) ∙ length-map sheets (λ (sheet : PlaceSheet). sheet.id))
    c.loop-at-test.true))

pub loop-at-preserved : goal.loop-at-preserved
loop-at-preserved c =
    let user = c.args.user.now in
    let wanted = c.args.wanted in
    let book = c.args.book.now in
    let sheets = book.sheets in
    let at = c.loop-at.at in
    let d = c.sheet_at-sheet.result.now in
    let grid = c.in_ok-grid.grid in
    let there = subst (λ count. at < count)
    (ap length (c.as_slice-at-end.ensures ∙ c.sheets.ensures) ∙ length-map sheets (λ (sheet : PlaceSheet). sheet.id))
    c.loop-at-test.true in (
      c.in_ok-grid.ensures.table,
      subst (AreSheetsShown user wanted book (take (at + 1) sheets))
          (sym (c.in_ok-push.ensures.items
          ∙ ap (λ one. c.loop-at.sheets.items ++ one ∷ [])
          (c.in_ok-shown_sheet.ensures
          ∙ ap (shown_sheet at d grid)
          (c.in_ok-protections.ensures ∙ ap (shown_protections user book) c.id.ensures)
          ∙ ap (λ (sheet : PlaceSheet). shown_sheet at sheet grid (shown_protections user book sheet.id))
          (c.sheet_at-sheet.ensures.sheet d))))
          (shown_next user book wanted sheets at d grid c.loop-at.sheets.items there c.loop-at.invariant.1
          (subst (λ sheet. IsGridShown wanted book sheet grid) (c.sheet_at-sheet.ensures.sheet d)
          c.in_ok-grid.ensures.grid)),
    )
