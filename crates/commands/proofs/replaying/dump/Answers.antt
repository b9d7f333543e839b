use Rattle.std.proofs.Common.{◌∙◌, ap}
use Rattle.std.specs.Prelude.{Ok, Err}
use Rattle.sheets_http.specs.declared.outside.SinkFault.{SinkFault}
use Rattle.sheets_http.specs.declared.outside.SinkFault.TheVariants as fault
use Rattle.commands.proofs.ReplayLemmas.{dump_told}
use Rattle.commands.proofs.replaying.dump.Goals as goal

-- the text is sent whole
pub returns-in-Ok-send_all-clause-tells : goal.returns-in-Ok-send_all-clause-tells
returns-in-Ok-send_all-clause-tells g c =
    dump_told g.E.Engine.dumps c.args.history.now c.in-Ok.text c.as_slice.result.now _ _ _ _ c.send_all.result
    (Ok c.in-Ok-send_all.field-0) c.in-Ok-send_all.is c.in-Ok.ensures c.as_slice.ensures c.send_all.ensures.sent
    c.send_all.ensures.short_later c.send_all.ensures.short

-- the output failed
pub returns-in-Err-Failed-clause-tells : goal.returns-in-Err-Failed-clause-tells
returns-in-Err-Failed-clause-tells g c =
    dump_told g.E.Engine.dumps c.args.history.now c.in-Ok.text c.as_slice.result.now _ _ _ _ c.send_all.result
    (Err fault.Failed) (c.in-Err-Failed.is ∙ ap (λ (f : SinkFault). Err f) c.in-Err-Failed.field-0-is) c.in-Ok.ensures
    c.as_slice.ensures c.send_all.ensures.sent c.send_all.ensures.short_later c.send_all.ensures.short

-- or it found no memory
pub returns-clause-tells : goal.returns-clause-tells
returns-clause-tells g c =
    dump_told g.E.Engine.dumps c.args.history.now c.in-Ok.text c.as_slice.result.now _ _ _ _ c.send_all.result
    (Err fault.NoMemory) (c.in-Err-NoMemory.is ∙ ap (λ (f : SinkFault). Err f) c.in-Err-NoMemory.field-0-is)
    c.in-Ok.ensures c.as_slice.ensures c.send_all.ensures.sent c.send_all.ensures.short_later c.send_all.ensures.short
