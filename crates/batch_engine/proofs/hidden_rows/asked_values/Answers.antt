use Rattle.std.proofs.Common.{List, ◌+◌, [], arith, subst, sym, take}
use Rattle.std.proofs.lemmas.List.{take_all}
use Rattle.std.specs.List.{AllZip}
use Rattle.cell_value.specs.declared.cell.Value.{Value}
use Rattle.batch_engine.specs.HiddenRows.{IsAskedValue}
use Rattle.batch_engine.proofs.HiddenRows.{zip_next}
use Rattle.batch_engine.proofs.hidden_rows.asked_values.Goals as goal

pub value_in-requires-clause-column : goal.value_in-requires-clause-column
value_in-requires-clause-column c =
    c.requires.columns c.loop-at.at c.index-criteria-at.result c.loop-at-test.true

pub loop-at-init : goal.loop-at-init
loop-at-init c = (
  c.requires.table,
  subst (AllZip (IsAskedValue c.args.book.now c.args.sheet c.args.row) []) (sym c.new-values.ensures.items) tt,
)

-- all values
pub returns-clause-values : goal.returns-clause-values
returns-clause-values c =
    let Is = IsAskedValue c.args.book.now c.args.sheet c.args.row in
    let criteria = c.args.criteria.now in
    subst (AllZip Is criteria) (sym c.of.ensures)
    (subst (λ some. AllZip Is some c.loop-at.values.items)
    (take_all c.loop-at.at criteria (omega (arith, c.loop-at-test.false))) c.loop-at.invariant.1)

pub loop-at-preserved : goal.loop-at-preserved
loop-at-preserved c =
    let Is = IsAskedValue c.args.book.now c.args.sheet c.args.row in
    let criteria = c.args.criteria.now in
    let at = c.loop-at.at in
    let d = c.index-criteria-at.result in
    let value = c.in_ok-value_in.field-0 in (
      c.in_ok-value_in.ensures.table,
      subst (AllZip Is (take (at + 1) criteria)) (sym {A = List Value} c.in_ok-push.ensures.items)
          (zip_next Is criteria at d c.loop-at.values.items value c.loop-at-test.true c.loop-at.invariant.1
          c.in_ok-value_in.ensures.value),
    )
