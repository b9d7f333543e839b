use Rattle.workload.proofs.Once.{one_work, tells_once}
use Rattle.desk.specs.declared.state.TheConstants.{LONGEST_JOURNAL}
use Rattle.workload.proofs.calls.one_work.Goals as goal

pub returns-clause-history : goal.returns-clause-history
returns-clause-history g c = one_work g.E.Engine.plain LONGEST_JOURNAL c.one_step.ensures

pub returns-clause-told : goal.returns-clause-told
returns-clause-told g c =
    tells_once g.E.Engine.plain LONGEST_JOURNAL c.one_step.ensures g.E.Engine.cells c.one_count.ensures
