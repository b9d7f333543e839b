use Rattle.std.proofs.Common.{List, ◌≡◌, ◌+◌, ◌<◌, ◌≤◌, length, subst, sym, ap, ◌∙◌, arith}
use Rattle.std.specs.List.{All}
use Rattle.std.specs.Prelude.{Some}
use Rattle.basic_filter.specs.declared.types.Criterion.{Criterion}
use Rattle.grid_range.specs.Band.{end_line, first_line}
use Rattle.sheets_json.specs.declared.spreadsheet.DimensionProperties.{DimensionProperties}
use Rattle.batch_engine.specs.HiddenRows.{AreRowsTold, AreRowsToldBefore, IsHiddenBy}
use Rattle.batch_engine.proofs.HiddenRows.{AreRowsToldWithin, end_few, few_columns, first_few, told_all, told_first, told_hidden, told_shown}
use Rattle.batch_engine.proofs.hidden_rows.rows_filtered.Goals as goal
use Rattle.batch_engine.proofs.hidden_rows.rows_filtered.Goals.{then-branch+in_ok-hide, else-branch}

pub overflow_add-start : goal.overflow_add-start
overflow_add-start c =
    let few = first_few c.args.book.now.sheets c.args.sheet.now c.args.filter.now c.requires.sound c.requires.of in
    omega (arith, few, c.first_line-first.ensures)

pub loop-row-init : goal.loop-row-init
loop-row-init c =
    let book = c.args.book.now in
    let sheet = c.args.sheet.now in
    let filter = c.args.filter.now in
    let first : c.first_line-first.result ≡ first_line filter.area.rows = c.first_line-first.ensures in (
      c.requires.table,
      subst (λ row. AreRowsToldBefore book sheet filter row c.new-rows.result.items) (ap (λ line. line + 1) (sym first))
          (subst (AreRowsToldBefore book sheet filter (first_line filter.area.rows + 1)) (sym c.new-rows.ensures.items)
          (told_first book sheet filter)),
      omega (arith, first),
      omega (arith, ap length c.new-rows.ensures.items),
    )

pub is_hidden-requires-clause-row : goal.is_hidden-requires-clause-row
is_hidden-requires-clause-row c =
    let few = end_few c.args.book.now.sheets c.args.sheet.now c.args.filter.now c.requires.sound c.requires.of in
    let end : c.end_line-end.result ≡ end_line c.args.filter.now.area.rows c.args.sheet.now.table.rows =
    c.end_line-end.ensures ∙ ap (end_line c.args.filter.now.area.rows) c.rows.ensures in
    omega (arith, few, end, c.loop-row-test.true)

pub is_hidden-requires-clause-columns : goal.is_hidden-requires-clause-columns
is_hidden-requires-clause-columns c =
    subst (All (λ (criterion : Criterion). criterion.column < 4294967295)) (sym c.in_ok-ready.ensures)
    (few_columns c.args.book.now.sheets c.args.sheet.now c.args.filter.now c.requires.sound c.requires.of)

pub hide-requires : goal.hide-requires
hide-requires c = c.loop-row.invariant.1.few

-- a row that is hidden, or one that isn't
pub loop-row-preserved : goal.loop-row-preserved
loop-row-preserved c =
    let book = c.args.book.now in
    let sheet = c.args.sheet.now in
    let filter = c.args.filter.now in
    let row = c.loop-row.row in
    let before = c.loop-row.rows.items in
    let so_far = c.loop-row.invariant.1 in
    let late = c.loop-row.invariant.2 in
    let short = c.loop-row.invariant.3 in
    let past = end_line filter.area.rows sheet.table.rows in
    let end : c.end_line-end.result ≡ past =
    c.end_line-end.ensures ∙ ap (end_line filter.area.rows) c.rows.ensures in
    let early : row + 1 ≤ past = omega (arith, c.loop-row-test.true, end) in
    let hidden = subst (λ id. IsHiddenBy book id row filter.criteria c.in_ok-is_hidden.field-0) c.id.ensures
    (subst (λ criteria. IsHiddenBy book c.id.result row criteria c.in_ok-is_hidden.field-0) c.in_ok-ready.ensures
    c.in_ok-is_hidden.ensures.hidden) in
    let Told : List DimensionProperties → Type 0 = AreRowsToldWithin book sheet filter (row + 1) in
    let told : Told c.if-branch.rows.items = elim c.if-branch.branch [
      | then-branch+in_ok-hide w ↦
          let count = w.in_ok-hide.ensures.count in
          subst Told (sym (ap (λ rows. rows.items) w.rows-is)) (
            told_hidden book sheet filter row before so_far (omega (arith, late)) (omega (arith, early))
                w.hide.new.rows.items w.in_ok-hide.ensures.told count
                (subst (IsHiddenBy book sheet.id row filter.criteria) w.if-branch.true hidden),
            omega (arith, early, count),
          )
      | else-branch w ↦ subst Told (sym (ap (λ rows. rows.items) w.rows-is)) (
        told_shown book sheet filter row before so_far (omega (arith, late)) (omega (arith, early))
            (subst (IsHiddenBy book sheet.id row filter.criteria) w.if-branch.false hidden),
        short,
      )
    ] in
    (c.in_ok-is_hidden.ensures.table, told.0, omega (arith, late), told.1)

pub returns-clause-rows : goal.returns-clause-rows
returns-clause-rows c =
    let book = c.args.book.now in
    let sheet = c.args.sheet.now in
    let filter = c.args.filter.now in
    let end : c.end_line-end.result ≡ end_line filter.area.rows sheet.table.rows =
    c.end_line-end.ensures ∙ ap (end_line filter.area.rows) c.rows.ensures in
    subst (AreRowsTold book sheet (Some filter)) (sym c.of-2.ensures)
    (told_all book sheet filter c.loop-row.row c.loop-row.rows.items c.requires.of c.loop-row.invariant.1
    (omega (arith, c.loop-row-test.false, end)) c.loop-row.invariant.3)
