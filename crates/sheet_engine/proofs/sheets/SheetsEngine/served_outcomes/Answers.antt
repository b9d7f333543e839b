use Rattle.std.proofs.Common.{sym, subst}
use Rattle.desk.specs.Steps.{IsServed}
use Rattle.sheet_engine.proofs.Serving.{served_outcome}
use Rattle.sheet_engine.proofs.sheets.SheetsEngine.served_outcomes.Goals as goal

pub returns : goal.returns
returns c = λ entries ask outcome plain. let is = plain.answered in
    subst (IsServed ask) (sym is.outcome_is) (served_outcome is.books ask is.asked is.told is.is_step.is_asked)
