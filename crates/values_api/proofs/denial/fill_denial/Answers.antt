use Rattle.std.proofs.Common.{subst, sym, rules}
use Rattle.values_api.specs.Denials.{FilledCells, IsDenial, RestCells, WriteCells}
use Rattle.values_api.proofs.Denying.{denial_of_either}
use Rattle.values_api.proofs.Reached.{none_filled}
use Rattle.values_api.proofs.denial.fill_denial.Goals as goal
use Rattle.std.specs.Prelude.{false}

pub returns-then-is_none : goal.returns-then-is_none
returns-then-is_none c =
    none_filled c.args.user.now c.args.book.now c.args.area.now c.args.block.now c.requires c.area_denial.result
    (search rules) c.area_denial.ensures

pub returns : goal.returns
returns c =
    let sheets = c.args.book.now.sheets in
    subst (IsDenial c.args.user.now c.args.book.now (FilledCells sheets c.args.area.now c.args.block.now))
    (sym c.lesser.ensures)
    (denial_of_either c.args.user.now c.args.book.now (WriteCells sheets false c.args.area.now c.args.block.now)
    (RestCells sheets c.args.area.now c.args.block.now) c.in_ok-written.written c.in_ok-rest.rest
    c.in_ok-written.ensures
    c.in_ok-rest.ensures)
