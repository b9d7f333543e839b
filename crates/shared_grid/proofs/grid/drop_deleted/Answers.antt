use Rattle.std.proofs.Common.{ℕ, ap, arith}
use Rattle.shared_grid.proofs.Cleared.{all_cleared, deleted_within}
use Rattle.shared_grid.proofs.Views.{on_ok}
use Rattle.shared_grid.proofs.grid.drop_deleted.Goals as goal

pub returns-then-end-first-clause-cleared : goal.returns-then-end-first-clause-cleared
returns-then-end-first-clause-cleared g c =
    let within = deleted_within c.args.change.now c.args.lines.now.count c.requires.fits in
    let first = ap (λ (lines : ℕ × ℕ). lines.0) c.deleted-first.ensures in
    let last = ap (λ (lines : ℕ × ℕ). lines.1) c.deleted-first.ensures in
    on_ok (λ none. all_cleared c.args.axis c.args.lines.now _ _ c.args.cells.now c.drop_all.new.self c.requires.there
    (omega (arith, within.0, within.1, first, last, c.if-end-first.true, c.count.ensures))
    (omega (arith, within.0, within.1, first, last, c.if-end-first.true, c.count.ensures)) none)
    c.drop_all.result c.drop_all.ensures.dropped

pub returns-then-end-first-clause-steps : goal.returns-then-end-first-clause-steps
returns-then-end-first-clause-steps g c =
    let within = deleted_within c.args.change.now c.args.lines.now.count c.requires.fits in
    let first = ap (λ (lines : ℕ × ℕ). lines.0) c.deleted-first.ensures in
    let last = ap (λ (lines : ℕ × ℕ). lines.1) c.deleted-first.ensures in
    on_ok (λ few. omega
    (arith, few, within.0, within.1, first, last, c.if-first-end.false, c.if-end-first.true, c.count.ensures))
    c.drop_all.result c.drop_all.ensures.steps
