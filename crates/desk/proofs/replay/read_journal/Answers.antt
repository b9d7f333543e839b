use Rattle.std.proofs.Common.{List, sym, ap, subst, ◌∙◌}
use Rattle.desk.specs.declared.entry.Noted.{Noted}
use Rattle.desk.specs.Points.{entries_of}
use Rattle.desk.specs.Histories.{IsHistory}
use Rattle.desk.proofs.Openings.{entries_alone}
use Rattle.desk.proofs.replay.read_journal.Goals as goal

pub returns-clause-history : goal.returns-clause-history
returns-clause-history g c =
    let replay = c.in_ok-replay.replay in
    subst (IsHistory g.E.Engine.plain c.args.bytes.now)
    (sym (ap (λ (l : List Noted). entries_of l) c.into_parts-world.ensures.list ∙ entries_alone replay))
    c.in_ok-replay.ensures.history
