use Rattle.std.proofs.Common.{[], ◌∷◌, ◌++◌, Bool, sym, ap, subst, ◌∙◌}
use Rattle.std.specs.Prelude.{Some, if◌then◌else◌}
use Rattle.desk.specs.declared.entry.Noted.TheVariants as noted
use Rattle.desk.specs.Steps.{entry_of}
use Rattle.desk.specs.Points.{Telling, entries_of}
use Rattle.desk.proofs.Replies.{within_refused, steps_not_503, stepped, answers_none, answers_some, answers_plain}
use Rattle.desk.proofs.state.State.answer.Goals as goal

pub returns-in-None-clause-happens : goal.returns-in-None-clause-happens
returns-in-None-clause-happens g c =
    let t = c.args.self.now in let ask = c.args.ask.now in
    let world_is = subst (λ (u : Telling _). g.E.Engine.stands c.self.inside.world (entries_of u.list)) c.self.view_is
    c.self.invariant.world_is in
    let a = c.in_ok-status.ensures (entries_of t.list) world_is in
    let refused = answers_none g.E.Engine.plain g.E.Engine.stands (entries_of t.list) ask c.in_ok-status.field-0 a
    c.in-None.is in
    stepped g.E.Engine.plain t.pair c.args.caller ask t.list t.list c.reply.result a.outcome
    (a.outcome, a.plainly, within_refused t.pair.0 (entries_of t.list) ask a.outcome refused) c.reply.ensures.at
    (c.reply.ensures.reply.0 ∙ a.status_is) (c.reply.ensures.reply.1 ∙ ap Some a.body_is)
    (ap (λ (b : Bool). if b then t.list ++ noted.Entry (entry_of c.args.caller ask) ∷ [] else t.list) (sym refused))
    c.reply.ensures.counts

pub returns-in-None-clause-torn : goal.returns-in-None-clause-torn
returns-in-None-clause-torn g c =
    let t = c.args.self.now in let ask = c.args.ask.now in
    let world_is = subst (λ (u : Telling _). g.E.Engine.stands c.self.inside.world (entries_of u.list)) c.self.view_is
    c.self.invariant.world_is in
    let a = c.in_ok-status.ensures (entries_of t.list) world_is in
    let refused = answers_none g.E.Engine.plain g.E.Engine.stands (entries_of t.list) ask c.in_ok-status.field-0 a
    c.in-None.is in
    λ unavailable.
    absurd (steps_not_503 g.E.Engine.plain c.served_outcomes.ensures t.pair.0 (entries_of t.list) ask a.outcome
    (a.outcome, a.plainly, within_refused t.pair.0 (entries_of t.list) ask a.outcome refused)
    (sym (c.reply.ensures.reply.0 ∙ a.status_is) ∙ unavailable))

pub enter-requires-clause-world : goal.enter-requires-clause-world
enter-requires-clause-world g c =
    let t = c.args.self.now in let ask = c.args.ask.now in
    let world_is = subst (λ (u : Telling _). g.E.Engine.stands c.self.inside.world (entries_of u.list)) c.self.view_is
    c.self.invariant.world_is in
    let a = c.in_ok-status.ensures (entries_of t.list) world_is in
    (answers_some g.E.Engine.plain g.E.Engine.stands (entries_of t.list) ask c.in_ok-status.field-0 a c.in-Some.world
    c.in-Some.is).1

pub enter-requires-clause-plain : goal.enter-requires-clause-plain
enter-requires-clause-plain g c =
    let t = c.args.self.now in let ask = c.args.ask.now in
    let world_is = subst (λ (u : Telling _). g.E.Engine.stands c.self.inside.world (entries_of u.list)) c.self.view_is
    c.self.invariant.world_is in
    let a = c.in_ok-status.ensures (entries_of t.list) world_is in
    answers_plain g.E.Engine.plain g.E.Engine.stands (entries_of t.list) ask c.in_ok-status.field-0 a c.in-Some.world
    c.in-Some.is
