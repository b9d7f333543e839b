use Rattle.std.proofs.Common.{◌≡◌, ◌<◌, subst, sym}
use Rattle.std.specs.List.{All, AllZip}
use Rattle.std.proofs.lemmas.Result.{IfOk-weaker}
use Rattle.basic_filter.specs.Hiding.{hides}
use Rattle.basic_filter.specs.declared.types.Criterion.{Criterion}
use Rattle.batch_engine.specs.HiddenRows.{IsAskedValue, IsHiddenBy}
use Rattle.batch_engine.proofs.HiddenRows.{zip_long}
use Rattle.batch_engine.proofs.hidden_rows.is_hidden.Goals as goal

pub asked_values-requires-clause-columns : goal.asked_values-requires-clause-columns
asked_values-requires-clause-columns c =
    subst (All (λ (criterion : Criterion). criterion.column < 4294967295)) (sym c.criteria.ensures) c.requires.columns

pub hides-requires : goal.hides-requires
hides-requires c =
    let Is = IsAskedValue c.args.book.now c.args.sheet c.args.row in
    let criteria = c.args.filter.now in
    zip_long Is criteria c.in_ok-values.values
    (subst (λ asked. AllZip Is asked c.in_ok-values.values) c.criteria.ensures c.in_ok-values.ensures.values)

pub returns-clause-hidden : goal.returns-clause-hidden
returns-clause-hidden c =
    let Is = IsAskedValue c.args.book.now c.args.sheet c.args.row in
    let criteria = c.args.filter.now in
    let values = c.in_ok-values.values in
    IfOk-weaker c.hides.result (λ hidden. hidden ≡ hides criteria values)
    (IsHiddenBy c.args.book.now c.args.sheet c.args.row criteria)
    (λ hidden is. record {
      values = values;
      asked = subst (λ asked. AllZip Is asked values) c.criteria.ensures c.in_ok-values.ensures.values;
      hidden_is = is;
    }) c.hides.ensures
