use Rattle.cell_value.specs.Entries.{entry_followed}
use Rattle.cell_value.proofs.InPlace.{Keeps}
use Rattle.cell_value.proofs.follow_map.follow_values.Given as goal

abbrev pub invariant-loop-at : goal.invariant-loop-at
invariant-loop-at g l =
    Keeps (entry_followed (g.V.Follow.becomes l.change)) (λ entry. g.V.Follow.has_followed l.change entry.1)
    l.fn.map.entries l.map.entries l.kept l.at
