use Rattle.values_api.specs.Given.{AreGivenBefore, TellsCovered}
use Rattle.values_api.proofs.uncovered.Uncovered.cells.Given as goal

-- so far the cells of the lines before this one, and it is told of these lines
abbrev pub invariant-loop-line : goal.invariant-loop-line
invariant-loop-line l =
    AreGivenBefore l.self.merges.now l.self.given.now l.line 0 l.cells.items
    × TellsCovered l.self.merges.now l.self.given.now l.line l.told
