use Rattle.std.proofs.Common.{sym, subst}
use Rattle.dimension_ops.specs.Rules.{IsUnlessNoMemory}
use Rattle.batch_engine.specs.Calls.{IsMaking}
use Rattle.batch_engine.specs.Create.{IsCreateOf}
use Rattle.batch_engine.proofs.create.create.Goals as goal

pub returns-in-Ok : goal.returns-in-Ok
returns-in-Ok c =
    subst (λ spreadsheet. IsUnlessNoMemory
    (IsMaking (IsCreateOf c.args.owner.now spreadsheet c.args.world.now) c.args.world.now) c.make.result)
    (sym c.in-Ok.is)
    c.make.ensures
