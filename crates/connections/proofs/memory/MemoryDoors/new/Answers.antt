use Rattle.std.proofs.Common.{arith, sym, subst}
use Rattle.std.specs.Prelude.{All}
use Rattle.std.proofs.lemmas.List.Sorted.{All-permutation}
use Rattle.connections.specs.Doors.{link_seen}
use Rattle.connections.specs.Memory.{IsComing}
use Rattle.connections.proofs.memory.MemoryDoors.new.Goals as goal

pub invariant_of-result : goal.invariant_of-result
invariant_of-result g c =
    let comes = IsComing (link_seen g.L.Source.left g.L.Sink.written g.L.Source.faults g.L.Sink.sink_faults
    g.L.Sink.sink_shortages g.L.Source.steady g.L.Sink.sink_steady g.L.Duplex.references) in
    let room = c.in_ok-reserve.ensures.ok in let count = c.len.ensures in (
      omega (arith, room, count),
      All-permutation comes c.into_vec-coming.result.items c.reverse.new.self.items c.reverse.ensures.permutation
          (subst (All comes) (sym c.into_vec-coming.ensures) c.requires),
    )
