use Rattle.std.proofs.Common.{◌≡◌, ◌+◌, ℕ, length, min, sym, subst, ap, arith}
use Rattle.grid_range.specs.Area.{band_on}
use Rattle.grid_range.specs.Band.{HasLine}
use Rattle.values_api.specs.Blocks.{AreCells}
use Rattle.values_api.specs.Given.{axis_of, corner, room, value_uncovered}
use Rattle.values_api.proofs.Covering.{are_covered, line_reached}
use Rattle.values_api.proofs.GivenCells.{all_ended}
use Rattle.values_api.proofs.uncovered.Uncovered.cells.Goals as goal

pub go_to-requires-clause-there : goal.go_to-requires-clause-there
go_to-requires-clause-there c =
    let given = c.args.self.now.given.now in
    let tells = c.loop-line.invariant.1 in
    let at_is = ap (λ (p : ℕ × ℕ). p.0 + c.loop-line.line) c.corner-first.ensures in
    let long_is = ap length c.as_slice-values.ensures in
    let room_is = ap (λ (p : ℕ × ℕ). p.0) c.room.ensures in
    subst (λ n. HasLine (band_on c.loop-line.told.axis c.loop-line.told.area) n) (sym at_is)
    (subst (λ axis. HasLine (band_on axis c.loop-line.told.area) ((corner given).0 + c.loop-line.line)) (sym tells.axis)
    (subst (λ area. HasLine (band_on (axis_of given) area) ((corner given).0 + c.loop-line.line)) (sym tells.area)
    (line_reached given c.loop-line.line
    (omega (arith, c.loop-line-test.true, c.min-line-end.ensures, long_is))
    (omega (arith, c.loop-line-test.true, c.min-line-end.ensures, room_is)))))

pub add_line-requires-clause-covered : goal.add_line-requires-clause-covered
add_line-requires-clause-covered c =
    let long_is = ap length c.as_slice-values.ensures in
    let room_is = ap (λ (p : ℕ × ℕ). p.0) c.room.ensures in
    are_covered c.args.self.now.merges.now c.args.self.now.given.now c.loop-line.line c.loop-line.told c.go_to.new.self
    (c.corner-first.result.0 + c.loop-line.line) c.covered.result.now
    (omega (arith, c.loop-line-test.true, c.min-line-end.ensures, long_is))
    (omega (arith, c.loop-line-test.true, c.min-line-end.ensures, room_is))
    (ap (λ (p : ℕ × ℕ). p.0 + c.loop-line.line) c.corner-first.ensures) c.in_ok-go_to.ensures.there
    c.loop-line.invariant.1 c.covered.ensures

pub returns : goal.returns
returns c =
    let given = c.args.self.now.given.now in
    let merges = c.args.self.now.merges.now in
    let room_is = ap (λ (p : ℕ × ℕ). p.0) c.room.ensures in
    let long_is = ap length c.as_slice-values.ensures in
    let ended : c.loop-line.line ≡ min (length given.block.now.values) (room given).0 =
    omega (arith, c.loop-line-test.false, c.loop-line.auto.line-end, c.min-line-end.ensures, room_is, long_is) in
    subst (AreCells (value_uncovered merges given)) (sym c.of.ensures)
    (all_ended given merges c.loop-line.line c.loop-line.cells.items ended c.loop-line.invariant.0)
