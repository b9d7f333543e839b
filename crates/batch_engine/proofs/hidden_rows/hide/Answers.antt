use Rattle.std.proofs.Common.{length, ap, ◌∙◌, get_or, arith, cond, false, true}
use Rattle.std.specs.Prelude.{◌==◌}
use Rattle.std.proofs.lemmas.List.{length_push}
use Rattle.batch_engine.specs.HiddenRows.{row_told}
use Rattle.batch_engine.proofs.HiddenRows.{hidden_more, same_more}
use Rattle.batch_engine.proofs.hidden_rows.hide.Goals as goal

pub loop-preserved : goal.loop-preserved
loop-preserved c =
    let long = ap length c.in_ok-push.ensures.items ∙ length_push c.loop.rows.items (row_told false) in
    let so_far = c.loop.invariant.0 in (
      omega (arith, long, so_far),
      omega (arith, c.loop-test.true),
      λ other. ap (λ rows. get_or rows other (row_told false)) c.in_ok-push.ensures.items
          ∙ same_more c.loop.rows.items other ∙ c.loop.invariant.2 other,
    )

-- as many rows as stand before this one
pub returns-clause-told : goal.returns-clause-told
returns-clause-told c =
    let so_far = c.loop.invariant.0 in
    let most = c.loop.invariant.1 in
    λ other. ap (λ rows. get_or rows other (row_told false)) c.in_ok-push-2.ensures.items
    ∙ hidden_more c.loop.rows.items c.args.row other (omega (arith, so_far, most, c.loop-test.false))
    ∙ ap (λ one. cond (other == c.args.row) (row_told true) one) (c.loop.invariant.2 other)

pub returns-clause-count : goal.returns-clause-count
returns-clause-count c =
    let so_far = c.loop.invariant.0 in
    let most = c.loop.invariant.1 in
    let long = ap length c.in_ok-push-2.ensures.items ∙ length_push c.loop.rows.items (row_told true) in
    omega (arith, so_far, most, long, c.loop-test.false)
