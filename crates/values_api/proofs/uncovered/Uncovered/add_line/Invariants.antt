use Rattle.values_api.specs.Given.{AreGivenBefore}
use Rattle.values_api.proofs.uncovered.Uncovered.add_line.Given as goal

-- so far the cells of the values before this place
abbrev pub invariant-loop-place : goal.invariant-loop-place
invariant-loop-place l = AreGivenBefore l.self.merges.now l.self.given.now l.line l.place l.cells.items
