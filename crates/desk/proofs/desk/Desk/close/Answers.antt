use Rattle.std.proofs.Common.{ℕ, ◌∙◌, ap, subst}
use Rattle.desk.specs.Points.{Keeps, last_counted}
use Rattle.desk.proofs.desk.Desk.close.Goals as goal

pub returns : goal.returns
returns g c =
    let last = c.close.result in
    record {
      told = last.list;
      begins = c.close.ensures.list;
      not_own = c.close.ensures.own;
      numbered = c.close.ensures.callers;
      alone = c.close.ensures.alone;
      done = c.close.ensures.done;
      entries_are = c.into_history.ensures.history;
      counted = ap g.K.Keeper.failures c.into_history.ensures.keeper ∙ c.into_history.ensures.counted
          ∙ ap (λ (pair : ℕ × ℕ). last_counted pair.1 last.list) c.close.ensures.pair;
      accepted = c.into_history.ensures.accepted;
      keeps = subst (λ (pair : ℕ × ℕ). Keeps g.E.Engine.plain pair.0
          (g.K.Keeper.kept c.into_history.result.1) last.list)
          c.close.ensures.pair c.into_history.ensures.kept;
    }
