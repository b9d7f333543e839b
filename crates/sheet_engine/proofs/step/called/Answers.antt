use Rattle.std.proofs.Common.{◌∙◌, ap}
use Rattle.sheet_engine.specs.Answers.{told_by}
use Rattle.sheet_engine.proofs.Answering.{told_as_fault}
use Rattle.sheet_engine.proofs.step.called.Goals as goal

pub returns : goal.returns
returns c = let applied = c.in_ok-next.ensures in record {
  effect = applied.effect;
  is_called = record {
    answer = applied.judged;
    answered = applied.answered;
    told_is = c.told_by.ensures ∙ ap told_by applied.told_is ∙ told_as_fault applied.judged;
  };
  is_next = applied.next_is;
}
