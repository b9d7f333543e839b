use Rattle.std.proofs.Common.{◌≤◌, arith}
use Rattle.workload.specs.Work.{IsWork}
use Rattle.workload.proofs.Made.{worked}
use Rattle.workload.proofs.Once.{length_work}
use Rattle.desk.specs.declared.state.TheConstants.{LONGEST_JOURNAL}
use Rattle.workload.proofs.calls.work.Goals as goal

pub overflow_sub-result : goal.overflow_sub-result
overflow_sub-result g c =
    let plain = g.E.Engine.plain in let history = c.into_history-history.result.0 in
    let work : IsWork plain LONGEST_JOURNAL c.args.calls history =
    worked plain LONGEST_JOURNAL _ c.args.calls c.in-Ok.state.pair c.make_calls-made.new.state.list history
    c.in-Ok.ensures.pair c.in_ok-made.ensures c.into_history-history.ensures.history in
    omega (
      arith,
      length_work plain LONGEST_JOURNAL c.args.calls history work,
      c.summary-accepted.ensures.accepted,
      c.from-calls.ensures,
    )

pub returns : goal.returns
returns g c =
    let plain = g.E.Engine.plain in let history = c.into_history-history.result.0 in
    let work : IsWork plain LONGEST_JOURNAL c.args.calls history =
    worked plain LONGEST_JOURNAL _ c.args.calls c.in-Ok.state.pair c.make_calls-made.new.state.list history
    c.in-Ok.ensures.pair c.in_ok-made.ensures c.into_history-history.ensures.history in
    let accepted = c.summary-accepted.result.accepted in
    let few : accepted ≤ c.from-calls.result =
    omega (
      arith,
      length_work plain LONGEST_JOURNAL c.args.calls history work,
      c.summary-accepted.ensures.accepted,
      c.from-calls.ensures,
    ) in
    record {
      history = history;
      work = work;
      calls_are = c.from-calls.ensures;
      accepted_are = c.summary-accepted.ensures.accepted;
      refused_are = omega (arith, few, c.from-calls.ensures);
      cells_are = c.summary-accepted.ensures.cells;
      bytes_are = c.summary-accepted.ensures.bytes;
    }
