use Rattle.std.proofs.Common.{arith, true, false, ◌≡◌, ◌+◌, ◌-◌, ℕ, length, get_or, sym, ap, subst, Vec, Global}
use Rattle.cell_store.specs.Places.{AreFilledPlaces}
use Rattle.values_api.proofs.Ends.{placed, small_height, small_width, next_placed, all_ended, AreEndsSoFar}
use Rattle.values_api.proofs.shown.Reading.ends.Goals.{then-self+in_ok-reach, else-self+in_ok-reach-2}
use Rattle.values_api.proofs.shown.Reading.ends.Goals as goal

pub overflow_sub-row : goal.overflow_sub-row
overflow_sub-row c =
    let at = placed c.args.self.now c.requires c.as_slice-place-items.result.now
    (rw c.as_slice-place-items.ensures c.in_ok-places.ensures) c.loop-place.place-index c.loop-place-test.true in
    omega (arith, at.row_from, c.first_line.ensures)

pub overflow_sub-col : goal.overflow_sub-col
overflow_sub-col c =
    let at = placed c.args.self.now c.requires c.as_slice-place-items.result.now
    (rw c.as_slice-place-items.ensures c.in_ok-places.ensures) c.loop-place.place-index c.loop-place-test.true in
    omega (arith, at.col_from, c.first_line-in-loop-place.ensures)

pub reach-requires : goal.reach-requires
reach-requires c =
    let at = placed c.args.self.now c.requires c.as_slice-place-items.result.now
    (rw c.as_slice-place-items.ensures c.in_ok-places.ensures) c.loop-place.place-index c.loop-place-test.true in
    let few = small_height c.args.self.now c.requires in
    omega (arith, at.row_to, few, c.first_line.ensures)

pub reach-requires-else-self : goal.reach-requires-else-self
reach-requires-else-self c =
    let at = placed c.args.self.now c.requires c.as_slice-place-items.result.now
    (rw c.as_slice-place-items.ensures c.in_ok-places.ensures) c.loop-place.place-index c.loop-place-test.true in
    let few = small_width c.args.self.now c.requires in
    omega (arith, at.col_to, few, c.first_line-in-loop-place.ensures)

pub loop-place-preserved : goal.loop-place-preserved
loop-place-preserved c =
    let places = c.as_slice-place-items.result.now in
    let place = get_or places c.loop-place.place-index (0, 0) in
    let filled : AreFilledPlaces c.args.self.now.area.now c.args.self.now.sheet.now.table places =
    rw c.as_slice-place-items.ensures c.in_ok-places.ensures in
    elim c.if-self.branch [
      | then-self+in_ok-reach w ↦
          subst (λ ends. AreEndsSoFar c.args.self.now places (c.loop-place.place-index + 1) ends)
          (ap (λ (vec : Vec ℕ Global). vec.items) (sym w.ends-is))
          (next_placed c.args.self.now c.requires places filled true c.loop-place.place-index
          (place.0 - c.first_line.result) (place.1 - c.first_line-in-loop-place.result) c.loop-place.ends.items
          w.reach.new.ends.items w.if-self.true c.loop-place-test.true (ap (λ n. place.0 - n) c.first_line.ensures)
          (ap (λ n. place.1 - n) c.first_line-in-loop-place.ensures) c.loop-place.invariant w.in_ok-reach.ensures.ends
          w.in_ok-reach.ensures.lines)
      | else-self+in_ok-reach-2 w ↦
          subst (λ ends. AreEndsSoFar c.args.self.now places (c.loop-place.place-index + 1) ends)
          (ap (λ (vec : Vec ℕ Global). vec.items) (sym w.ends-is))
          (next_placed c.args.self.now c.requires places filled false c.loop-place.place-index
          (place.0 - c.first_line.result) (place.1 - c.first_line-in-loop-place.result) c.loop-place.ends.items
          w.reach-else-self.new.ends.items w.if-self.false c.loop-place-test.true
          (ap (λ n. place.0 - n) c.first_line.ensures) (ap (λ n. place.1 - n) c.first_line-in-loop-place.ensures)
          c.loop-place.invariant w.in_ok-reach-2.ensures.ends w.in_ok-reach-2.ensures.lines)
    ]

pub returns : goal.returns
returns c =
    let places = c.as_slice-place-items.result.now in
    let all : c.loop-place.place-index ≡ length places =
    omega (arith, c.loop-place-test.false, c.loop-place.auto.place-index-end) in
    all_ended c.args.self.now c.requires places (rw c.as_slice-place-items.ensures c.in_ok-places.ensures)
    c.loop-place.ends.items
    (subst (λ n. AreEndsSoFar c.args.self.now places n c.loop-place.ends.items) all c.loop-place.invariant)
