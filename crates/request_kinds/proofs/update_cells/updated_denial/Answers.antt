use Rattle.std.proofs.Common.{sym, subst}
use Rattle.std.specs.Prelude.{None}
use Rattle.std.proofs.lemmas.Result.{IfOk-weaker}
use Rattle.values_api.specs.Denials.{FilledCells, IsDenial}
use Rattle.request_kinds.specs.UpdateCells.{UpdatedCells}
use Rattle.request_kinds.proofs.Touched.{filled_denied, none_filled_denied, none_written_denied}
use Rattle.request_kinds.proofs.update_cells.updated_denial.Goals as goal

pub returns-in-Err : goal.returns-in-Err
returns-in-Err c =
    subst (λ area. IsDenial c.args.user.now c.args.book.now
    (UpdatedCells c.args.rows.now area c.args.book.now.sheets) None)
    (sym c.in-Start.is)
    (none_written_denied c.args.user.now c.args.book.now c.args.rows.now c.in-Start.cell c.in-Err.field-0
    (rw c.area_from.ensures at c.in-Err.ensures.found))

pub returns-in-Ok-area_on : goal.returns-in-Ok-area_on
returns-in-Ok-area_on c =
    IfOk-weaker c.fill_denial.result
    (IsDenial c.args.user.now c.args.book.now
    (FilledCells c.args.book.now.sheets c.in-Ok-area_on.area c.args.rows.now))
    (IsDenial c.args.user.now c.args.book.now (UpdatedCells c.args.rows.now c.args.area c.args.book.now.sheets))
    (λ denied holds. subst
    (λ area. IsDenial c.args.user.now c.args.book.now (UpdatedCells c.args.rows.now area c.args.book.now.sheets) denied)
    (sym c.in-Range.is)
    (filled_denied c.args.user.now c.args.book.now c.args.rows.now c.in-Range.range c.in-Ok-area_on.area
    c.in-Ok-area_on.ensures.found denied holds))
    c.fill_denial.ensures

pub returns-in-Err-area_on : goal.returns-in-Err-area_on
returns-in-Err-area_on c =
    subst (λ area. IsDenial c.args.user.now c.args.book.now
    (UpdatedCells c.args.rows.now area c.args.book.now.sheets) None)
    (sym c.in-Range.is)
    (none_filled_denied c.args.user.now c.args.book.now c.args.rows.now c.in-Range.range c.in-Err-area_on.field-0
    c.in-Err-area_on.ensures.found)
