use Rattle.std.proofs.Common.{List, ◌++◌, [], ◌∷◌, arith, ap, ◌∙◌}
use Rattle.std.specs.Prelude.{None}
use Rattle.cell_value.specs.Calls.{one_more}
use Rattle.connections.specs.Doors.{link_seen}
use Rattle.connections.specs.Memory.{LinksInMemory, IsComing}
use Rattle.connections.specs.declared.memory.Visit.{Visit}
use Rattle.connections.proofs.Visits.{front_of, last_of, accepted_shown, rose_more}
use Rattle.connections.proofs.memory.MemoryDoorsDoors.accept.Goals as goal

pub invariant_of-self-in-Some : goal.invariant_of-self-in-Some
invariant_of-self-in-Some g c =
    let comes = IsComing (link_seen g.L.Source.left g.L.Sink.written g.L.Source.faults g.L.Sink.sink_faults
    g.L.Sink.sink_shortages g.L.Source.steady g.L.Sink.sink_steady g.L.Duplex.references) in
    let room = c.self-2.invariant.0 in let longer = c.push_reserved.ensures.len in
    let same = c.push_reserved.ensures.capacity in let shorter = c.in-Some.ensures.cases in (
      omega (arith, room, longer, same, shorter),
      front_of comes c.self-2.inside.coming.items c.pop.new.self.items _ c.in-Some.ensures.items c.self-2.invariant.1,
    )

pub returns-in-Some-clause-fresh : goal.returns-in-Some-clause-fresh
returns-in-Some-clause-fresh g c =
    let comes = IsComing (link_seen g.L.Source.left g.L.Sink.written g.L.Source.faults g.L.Sink.sink_faults
    g.L.Sink.sink_shortages g.L.Source.steady g.L.Sink.sink_steady g.L.Duplex.references) in
    (last_of comes c.self-2.inside.coming.items c.pop.new.self.items _ c.in-Some.ensures.items
    c.self-2.invariant.1).fresh

pub returns-in-Some-clause-accepted : goal.returns-in-Some-clause-accepted
returns-in-Some-clause-accepted g c =
    let seen = link_seen g.L.Source.left g.L.Sink.written g.L.Source.faults g.L.Sink.sink_faults
    g.L.Sink.sink_shortages g.L.Source.steady g.L.Sink.sink_steady g.L.Duplex.references in
    let old = c.self.view_is in let mid = c.self-2.view_is in
    accepted_shown seen c.args.self.now c.in-Some.link c.self-2.inside.opened c.self-2.inside.accepts
    c.push_reserved.new.self.items c.in-Some.held c.of-came.result
    (ap (λ (d : LinksInMemory _). d.opened) mid ∙ c.fails.ensures.opened
    ∙ ap (λ (d : LinksInMemory _). d.opened) old)
    (ap (λ (d : LinksInMemory _). d.accepts) mid ∙ c.fails.ensures.accepts ∙ c.saturating_add-self-inside.ensures
    ∙ ap (λ (d : LinksInMemory _). one_more d.accepts) old)
    (c.push_reserved.ensures.items
    ∙ ap (λ (l : List (Visit _)). l ++ record { held = c.in-Some.held; came = c.of-came.result; back = None } ∷ [])
    (ap (λ (d : LinksInMemory _). d.accepted) mid ∙ c.fails.ensures.accepted
    ∙ ap (λ (d : LinksInMemory _). d.accepted) old))
    c.of-came.ensures

pub returns-in-None-clause-cause : goal.returns-in-None-clause-cause
returns-in-None-clause-cause g c =
    let old = ap (λ (d : LinksInMemory _). d.calls.faults) c.self.view_is in
    let mid = ap (λ (d : LinksInMemory _). d.calls.faults) c.self-2.view_is in
    let later = c.fails.ensures.later in
    rose_more c.args.self.now.calls.faults c.self-2.inside.faults c.saturating_add-self-inside-in-None.result
    (omega (arith, old, mid, later)) c.saturating_add-self-inside-in-None.ensures
