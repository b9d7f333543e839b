use Rattle.std.proofs.Common.{◌+◌, refl, sym, subst, arith, take}
use Rattle.std.proofs.lemmas.List.{take_all}
use Rattle.values_api.specs.Denials.{CellsOfAll, IsDenial}
use Rattle.values_api.proofs.Denying.{denial_of_more, no_denial}
use Rattle.values_api.proofs.denial.areas_denial.Goals as goal

pub loop-area-init : goal.loop-area-init
loop-area-init c =
    no_denial c.args.user.now c.args.book.now (CellsOfAll c.args.book.now.sheets (take 0 c.args.areas.now))
    (λ id row col has. absurd (omega (arith, has.2)))

pub loop-area-preserved : goal.loop-area-preserved
loop-area-preserved c =
    subst (IsDenial c.args.user.now c.args.book.now
    (CellsOfAll c.args.book.now.sheets (take (c.loop-area.area-index + 1) c.args.areas.now)))
    (sym c.lesser-least.ensures)
    (denial_of_more c.args.book.now.sheets c.args.areas.now c.loop-area.area-index _ c.loop-area-test.true
    c.args.user.now c.args.book.now refl c.loop-area.least c.area_denial.result c.loop-area.invariant
    c.area_denial.ensures)

pub returns : goal.returns
returns c =
    subst (λ areas. IsDenial c.args.user.now c.args.book.now (CellsOfAll c.args.book.now.sheets areas)
    c.loop-area.least)
    (take_all c.loop-area.area-index c.args.areas.now c.loop-area-test.false) c.loop-area.invariant
