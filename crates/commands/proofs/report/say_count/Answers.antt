use Rattle.commands.specs.Finish.{count_line}
use Rattle.commands.proofs.SendLemmas.{says_what_is_sent}
use Rattle.commands.proofs.report.say_count.Goals as goal

pub returns-clause-says : goal.returns-clause-says
returns-clause-says g c = says_what_is_sent (g.S.Sink.written c.args.faults.now) (g.S.Sink.written c.send_line.new.sink)
    (g.S.Sink.sink_faults c.args.faults.now) (g.S.Sink.sink_faults c.send_line.new.sink)
    (g.S.Sink.sink_shortages c.args.faults.now) (g.S.Sink.sink_shortages c.send_line.new.sink)
    (count_line c.args.text.now c.args.count) c.send_line.result c.send_line.ensures.sends
    c.send_line.ensures.cause c.send_line.ensures.short
