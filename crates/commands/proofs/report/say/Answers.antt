use Rattle.commands.proofs.SendLemmas.{says_what_is_sent}
use Rattle.commands.proofs.report.say.Goals as goal

pub returns-clause-says : goal.returns-clause-says
returns-clause-says g c = says_what_is_sent (g.S.Sink.written c.args.faults.now) (g.S.Sink.written c.send_all.new.sink)
    (g.S.Sink.sink_faults c.args.faults.now) (g.S.Sink.sink_faults c.send_all.new.sink)
    (g.S.Sink.sink_shortages c.args.faults.now) (g.S.Sink.sink_shortages c.send_all.new.sink)
    c.args.line.now c.send_all.result c.send_all.ensures.sent c.send_all.ensures.cause c.send_all.ensures.short
