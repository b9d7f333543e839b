use Rattle.std.proofs.Common.{subst}
use Rattle.desk.specs.declared.entry.Ask.{Ask}
use Rattle.desk.specs.Replaying.{entry_in}
use Rattle.desk.proofs.Accepts.{no_texts, not_accepted, made_again}
use Rattle.desk.proofs.Replies.{answers_none, answers_some}
use Rattle.desk.proofs.replay.call_again.Goals as goal

pub answer-requires : goal.answer-requires
answer-requires g c = c.in_ok-asked.ensures

-- it isn't of texts
pub returns-in_default : goal.returns-in_default
returns-in_default g c before stands =
    no_texts g.E.Engine.plain before (entry_in c.args.entry.now) (rw c.in_default.is at c.in_ok-ask.ensures)

-- its call isn't accepted
pub returns-in_default-next : goal.returns-in_default-next
returns-in_default-next g c before stands =
    let asked = rw c.in-Some.is at c.in_ok-ask.ensures in
    let answers = c.in_ok-next.ensures before stands in
    not_accepted g.E.Engine.plain c.one_outcome.ensures before (entry_in c.args.entry.now) answers.outcome
    (subst (λ (ask : Ask). g.E.Engine.plain before ask answers.outcome) asked.1 answers.plainly)
    (answers_none g.E.Engine.plain g.E.Engine.stands before c.in-Some.ask c.in_ok-next.field-0 answers
    c.in_default-next.is)

pub returns : goal.returns
returns g c before stands =
    let asked = rw c.in-Some.is at c.in_ok-ask.ensures in
    let answers = c.in_ok-next.ensures before stands in
    made_again g.E.Engine.plain g.E.Engine.stands before (entry_in c.args.entry.now) c.enter.result c.in-Some.ask
    c.in-Some-next.world answers.outcome asked.0 asked.1 c.enter.ensures answers.plainly
    (answers_some g.E.Engine.plain g.E.Engine.stands before c.in-Some.ask c.in_ok-next.field-0 answers
    c.in-Some-next.world c.in-Some-next.is)
