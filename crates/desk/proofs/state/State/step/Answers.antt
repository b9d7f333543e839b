use Rattle.std.proofs.Common.{ℕ, List, length, sym, ap, ◌∙◌, arith}
use Rattle.desk.specs.declared.entry.Noted.{Noted}
use Rattle.desk.specs.Points.{as_out_of_memory, entries_of, last_counted}
use Rattle.desk.proofs.Replies.{answered_happens, answered_cause}
use Rattle.desk.proofs.state.State.step.Goals as goal

pub returns-in-Ok-clause-happens : goal.returns-in-Ok-clause-happens
returns-in-Ok-clause-happens g c =
    answered_happens g.E.Engine.plain c.args.self.now.pair c.args.caller c.args.ask.now c.args.self.now.list
    c.answer.new.self.list c.in-Ok.reply c.in-Ok.ensures.happens

pub returns-in-Ok-clause-cause : goal.returns-in-Ok-clause-cause
returns-in-Ok-clause-cause g c =
    answered_cause g.E.Engine.plain c.args.self.now.pair c.args.caller c.args.ask.now c.args.self.now.list
    c.answer.new.self.list c.in-Ok.reply g.K.Keeper.failures g.K.Keeper.steady _ _ c.served_outcomes.ensures
    c.in-Ok.ensures.faults c.in-Ok.ensures.happens

pub returns-in-Err-clause-happens : goal.returns-in-Err-clause-happens
returns-in-Err-clause-happens g c =
    let t = c.args.self.now in let made = c.in-Err.ensures.unmade in
    record {
      at_is = c.reply.ensures.at ∙ ap (λ (l : List Noted). length (entries_of l)) made.list_is;
      comes_to = as_out_of_memory (record {
        status_is = c.reply.ensures.reply.0;
        body_is = c.reply.ensures.reply.1;
        item = made.list_is;
        counts_are = c.reply.ensures.counts
            ∙ ap (λ (p : ℕ × ℕ). (last_counted p.1 c.answer.new.self.list, last_counted p.1 c.answer.new.self.list))
            c.answer.ensures.pair
            ∙ ap (λ (l : List Noted). (last_counted t.pair.1 l, last_counted t.pair.1 l)) made.list_is;
      });
    }

pub returns-in-Err-clause-faults : goal.returns-in-Err-clause-faults
returns-in-Err-clause-faults g c =
    let made = c.in-Err.ensures.unmade in let counted = c.answer.ensures.counted in
    record {
      before_is = ap (λ p. p.0) c.reply.ensures.counts ∙ sym counted.1 ∙ made.count_is;
      after_is = ap (λ p. p.1) c.reply.ensures.counts ∙ sym counted.1;
      stays = made.stays;
    }

pub returns-in-Err-clause-torn : goal.returns-in-Err-clause-torn
returns-in-Err-clause-torn g c = λ unavailable. absurd (omega (arith, c.reply.ensures.reply.0, unavailable))

pub returns-in-Err-clause-cause : goal.returns-in-Err-clause-cause
returns-in-Err-clause-cause g c = λ unavailable. absurd (omega (arith, c.reply.ensures.reply.0, unavailable))
