use Rattle.std.proofs.Common.{◌∙◌, ap}
use Rattle.std.specs.Prelude.{Ok, Err}
use Rattle.sheets_http.specs.declared.outside.SinkFault.{SinkFault}
use Rattle.sheets_http.specs.declared.outside.SinkFault.TheVariants as fault
use Rattle.commands.proofs.WorkLemmas.{work_told}
use Rattle.commands.proofs.working.work_out.Goals as goal

-- the lines are sent whole
pub returns-in-Ok-send_work-clause-works : goal.returns-in-Ok-send_work-clause-works
returns-in-Ok-send_work-clause-works g c =
    work_told g.E.Engine.plain g.E.Engine.cells c.args.calls c.in-Ok.told _ _ _ _ c.send_work.result
    (Ok c.in-Ok-send_work.field-0) c.in-Ok-send_work.is c.in-Ok.ensures c.send_work.ensures.sends
    c.send_work.ensures.short_later c.send_work.ensures.short

-- the output failed
pub returns-in-Err-Failed-clause-works : goal.returns-in-Err-Failed-clause-works
returns-in-Err-Failed-clause-works g c =
    work_told g.E.Engine.plain g.E.Engine.cells c.args.calls c.in-Ok.told _ _ _ _ c.send_work.result (Err fault.Failed)
    (c.in-Err-Failed.is ∙ ap (λ (f : SinkFault). Err f) c.in-Err-Failed.field-0-is) c.in-Ok.ensures
    c.send_work.ensures.sends c.send_work.ensures.short_later c.send_work.ensures.short

-- or it found no memory
pub returns-in-Err-NoMemory-clause-works : goal.returns-in-Err-NoMemory-clause-works
returns-in-Err-NoMemory-clause-works g c =
    work_told g.E.Engine.plain g.E.Engine.cells c.args.calls c.in-Ok.told _ _ _ _ c.send_work.result
    (Err fault.NoMemory) (c.in-Err-NoMemory.is ∙ ap (λ (f : SinkFault). Err f) c.in-Err-NoMemory.field-0-is)
    c.in-Ok.ensures c.send_work.ensures.sends c.send_work.ensures.short_later c.send_work.ensures.short
