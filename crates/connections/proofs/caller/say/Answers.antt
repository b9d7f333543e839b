use Rattle.connections.proofs.Responding.{told_text}
use Rattle.connections.proofs.caller.say.Goals as goal

pub returns-in-Ok : goal.returns-in-Ok
returns-in-Ok c =
    told_text c.args.close c.args.reply _ c.as_slice.result.now c.in-Ok.text c.in-Some.is c.as_slice.ensures
    c.in-Ok.ensures
