use Rattle.std.proofs.Common.{List, length, Err, sym, ap, subst, ◌∙◌}
use Rattle.desk.specs.declared.entry.Entry.{Entry}
use Rattle.desk.specs.declared.entry.Noted.{Noted}
use Rattle.desk.specs.Points.{entries_of}
use Rattle.desk.specs.Opening.{HasOpened}
use Rattle.desk.proofs.Openings.{entries_alone, opened_accepted, opened_keeps, opened_counts, empty_not_bad}
use Rattle.desk.proofs.state.State.open.Goals as goal

pub invariant_of-result : goal.invariant_of-result
invariant_of-result g c =
    let parts = c.into_parts-world in let list = parts.result.1.items in let replay = c.in-Ok.replay in
    let kept = g.K.Keeper.kept c.args.keeper in
    let opened = subst (HasOpened g.E.Engine.plain c.args.limit kept) (sym parts.ensures.list) c.in-Ok.ensures.opened in
    record {
      world_is = parts.ensures.replayed.world_is;
      accepted = opened_accepted g.E.Engine.plain c.args.limit kept list opened;
      entries_is = c.count-entries.ensures
          ∙ ap (λ (l : List Entry). length l)
          (sym (ap (λ (l : List Noted). entries_of l) parts.ensures.list ∙ entries_alone replay));
      bytes_is = parts.ensures.replayed.bytes_is;
      limit_is = c.requires;
      failures_is = sym c.faults-opened.ensures
          ∙ opened_counts g.E.Engine.plain c.args.limit c.faults-opened.result kept list opened;
      keeps = opened_keeps g.E.Engine.plain c.args.limit kept (g.K.Keeper.kept c.load_history.new.keeper) list opened
          c.in-Ok.ensures.loaded.kept_is;
    }

pub returns-in-Err-clause-not_bad : goal.returns-in-Err-clause-not_bad
returns-in-Err-clause-not_bad g c none number is =
    empty_not_bad g.E.Engine.plain c.args.limit (g.K.Keeper.kept c.args.keeper) number none
    (c.in-Err.ensures.bad number (ap Err is))
