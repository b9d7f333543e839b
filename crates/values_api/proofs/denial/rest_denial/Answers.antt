use Rattle.std.proofs.Common.{subst, sym}
use Rattle.values_api.specs.Denials.{CellsOfAll, IsDenial}
use Rattle.values_api.proofs.Denying.{rest_is_rest}
use Rattle.values_api.proofs.denial.rest_denial.Goals as goal

pub returns-in_ok-areas-in-Some : goal.returns-in_ok-areas-in-Some
returns-in_ok-areas-in-Some c =
    rest_is_rest c.args.user.now c.args.book.now c.args.area.now c.in-Some.sheet.now (sym c.in-Some.ensures)
    c.args.block.now c.in_ok-areas-in-Some.areas.items c.in_ok-areas-in-Some.ensures c.areas_denial.result
    (subst (λ areas. IsDenial c.args.user.now c.args.book.now (CellsOfAll c.args.book.now.sheets areas)
    c.areas_denial.result) c.deref.ensures.value c.areas_denial.ensures)
