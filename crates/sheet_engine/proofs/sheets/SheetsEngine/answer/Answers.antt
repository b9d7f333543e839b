use Rattle.std.proofs.Common.{refl}
use Rattle.sheet_engine.proofs.Answering.{answers}
use Rattle.sheet_engine.proofs.sheets.SheetsEngine.answer.Goals as goal

pub returns : goal.returns
returns c = λ entries stands.
    answers c.args.world.now c.args.ask.now entries stands c.in_ok-told.field-0.told c.in_ok-told.field-0.next
    c.in_ok-told.ensures _ c.status_of.ensures c.in_ok-body_of.ensures refl
