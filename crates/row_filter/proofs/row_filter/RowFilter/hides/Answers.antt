use Rattle.std.proofs.Common.{◌≡◌, ◌∙◌, ◌||◌, ap, map, sym}
use Rattle.std.proofs.lemmas.Result.{IfOk-weaker}
use Rattle.basic_filter.specs.Hiding.{hides}
use Rattle.row_filter.specs.Criteria.{criterion_left, some_hides}
use Rattle.row_filter.proofs.Criteria.{hides-apart}
use Rattle.row_filter.proofs.row_filter.RowFilter.hides.Goals as goal

-- what was made ready hides the row
pub returns-then-branch : goal.returns-then-branch
returns-then-branch c =
    let criteria = c.self.inside.filter.now.criteria in
    let ready = c.self.inside.ready.items in
    let values = c.args.values.now in
    let told = c.in_ok-some_hides.ensures
    ∙ ap (λ ready. some_hides ready c.as_slice-2.result.now) c.as_slice.ensures.value
    ∙ ap (some_hides ready) c.as_slice-2.ensures in
    sym (hides-apart criteria ready values c.self.invariant.0
    ∙ ap (λ b. b || hides (map criterion_left criteria) values) (sym told ∙ c.if-branch.true))
    ∙ ap (λ criteria. hides criteria values) c.self.view_is

-- it doesn't, and what is left tells
pub returns : goal.returns
returns c =
    let criteria = c.self.inside.filter.now.criteria in
    let ready = c.self.inside.ready.items in
    let values = c.args.values.now in
    let told = c.in_ok-some_hides.ensures
    ∙ ap (λ ready. some_hides ready c.as_slice-2.result.now) c.as_slice.ensures.value
    ∙ ap (some_hides ready) c.as_slice-2.ensures in
    let left = sym (hides-apart criteria ready values c.self.invariant.0
    ∙ ap (λ b. b || hides (map criterion_left criteria) values) (sym told ∙ c.if-branch.false))
    ∙ ap (λ criteria. hides criteria values) c.self.view_is in
    IfOk-weaker c.hides.result (λ hidden. hidden ≡ hides c.self.inside.left.criteria values)
    (λ hidden. hidden ≡ hides c.args.self.now values)
    (λ hidden is. is ∙ ap (λ criteria. hides criteria values) c.self.invariant.1 ∙ left) c.hides.ensures
