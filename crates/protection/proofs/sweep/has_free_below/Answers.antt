use Rattle.std.proofs.Common.{◌≡◌, ℕ, ◌+◌, ◌<◌, ◌≤◌, ◌∙◌, arith, sym, subst}
use Rattle.std.proofs.lemmas.Bool.{false≢true}
use Rattle.grid_range.specs.Band.{first_line, end_line}
use Rattle.protection.specs.Denial.{IsOutside}
use Rattle.protection.proofs.Sweeping.{HasLine-last, HasLine-ends}
use Rattle.protection.proofs.sweep.has_free_below.Goals as goal

pub returns-clause-none : goal.returns-clause-none
returns-clause-none c = λ no row col has not at below across out.
    let next : c.end_line-row.result ≡ row + 1 = c.end_line-row.ensures
    ∙ HasLine-last c.args.range.now.rows row c.args.rows.1 has.1.0 (λ line. not (has.0, (line, has.1.1))) in
    let ends : (first_line c.args.range.now.cols ≤ col) × (col < end_line c.args.range.now.cols c.args.cols.1) =
    HasLine-ends c.args.range.now.cols col c.args.cols.1 has.1.1 across.1 in
    false≢true (sym no ∙ c.has_free_column.ensures.1 (
      col,
      (omega (arith, ends.0, across.0), omega (arith, ends.1, across.1)),
      subst (λ (line : ℕ). IsOutside c.args.sheet line col c.args.by_col.now) (sym next) out,
    ))
