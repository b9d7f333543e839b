use Rattle.std.proofs.Common.{[], ◌∷◌, ◌++◌, List, ap, subst, ◌∙◌}
use Rattle.desk.specs.declared.entry.Entry.{Entry}
use Rattle.desk.specs.Histories.{IsAcceptedBehind}
use Rattle.desk.specs.Replaying.{entry_in}
use Rattle.desk.specs.Points.{entries_of}
use Rattle.desk.proofs.Accepts.{pushed, entries_more, replayed_more}
use Rattle.desk.proofs.replay.Replay.accept.Goals as goal

pub invariant_of-self-2 : goal.invariant_of-self-2
invariant_of-self-2 g c =
    let s = c.self.inside in
    let made = rw c.in-Some.is at (c.in_ok-entry.ensures (entries_of s.list.items) c.self.invariant.world_is) in
    replayed_more g.E.Engine.plain g.E.Engine.stands s.world c.in-Some.world s.list.items
    c.push_reserved.new.self.items s.bytes c.args.size (entry_in c.args.entry.now) c.in-Some.entry c.self.invariant made
    (pushed s.list.items c.reserve.new.self.items c.push_reserved.new.self.items c.in-Some.entry
    c.reserve.ensures.items c.push_reserved.ensures.items)
    c.requires.size

pub returns-clause-accepted : goal.returns-clause-accepted
returns-clause-accepted g c told =
    let s = c.self.inside in let read = entry_in c.args.entry.now in
    let made = rw c.in-Some.is at (c.in_ok-entry.ensures (entries_of s.list.items) c.self.invariant.world_is) in (
      entries_more g.E.Engine.plain g.E.Engine.stands s.list.items c.push_reserved.new.self.items read c.in-Some.entry
          c.in-Some.world made
          (pushed s.list.items c.reserve.new.self.items c.push_reserved.new.self.items c.in-Some.entry
          c.reserve.ensures.items c.push_reserved.ensures.items)
          ∙ ap (λ (es : List Entry). es ++ read ∷ []) c.self.view_is,
      subst (λ (es : List Entry). IsAcceptedBehind g.E.Engine.plain es read) c.self.view_is made.accepted,
    )
