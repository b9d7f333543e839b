use Rattle.std.proofs.Common.{◌≡◌, ◌+◌, ◌++◌, ◌∷◌, [], ◌<◌, ℕ, length, get_or, sym, subst, ap, ◌∙◌, arith, max, min, Vec, Global}
use Rattle.std.specs.Prelude.{false, slice_index_or}
use Rattle.std.proofs.lemmas.List.{get_or_read}
use Rattle.cell_value.specs.declared.entered.Input.TheVariants.{Skip}
use Rattle.values_api.specs.Blocks.{longest}
use Rattle.values_api.specs.Given.{AreGivenBefore, room, line_given}
use Rattle.values_api.proofs.Covering.{line_short, places_are}
use Rattle.values_api.proofs.GivenCells.{added, left_out, line_ended, written_here}
use Rattle.values_api.proofs.uncovered.Uncovered.add_line.Goals.{then-is_written+in_ok-push, else-is_written}
use Rattle.values_api.proofs.uncovered.Uncovered.add_line.Goals as goal

pub loop-place-preserved : goal.loop-place-preserved
loop-place-preserved c =
    let given = c.args.self.now.given.now in
    let merges = c.args.self.now.merges.now in
    let line = c.args.line in
    let place = c.loop-place.place in
    let value = c.index-inputs-place.result in
    let below : place < length c.args.inputs.now = omega (arith, c.loop-place-test.true, c.min-place-end.ensures) in
    let told : place < length c.args.covered.now = omega (arith, c.loop-place-test.true, c.min-place-end.ensures) in
    let long : length c.args.covered.now ≡ min (max 1 (longest given.block.now.values)) (room given).1 =
    c.requires.covered.long ∙ places_are given c.requires.room in
    let short : place < (room given).1 = omega (arith, told, long) in
    let value_is : value ≡ get_or (line_given given line) place Skip =
    get_or_read c.args.inputs.now place value below c.index-inputs-place.is Skip
    ∙ ap (λ list. get_or list place Skip) c.requires.inputs in
    let here = written_here given merges line place c.requires.there short value
    (slice_index_or c.args.covered.now place false) value_is (c.requires.covered.told place told) in
    elim c.if-is_written.branch [
      | then-is_written+in_ok-push w ↦ subst (λ (vec : Vec (ℕ × ℕ) Global).
          AreGivenBefore merges given line (place + 1) vec.items) (sym w.cells-is)
          (added given merges line place c.requires.there short c.loop-place.cells.items w.push.new.self.items
          (here ∙ sym c.is_written.ensures ∙ w.if-is_written.true)
          (w.in_ok-push.ensures.items ∙ ap (λ cell. c.loop-place.cells.items ++ cell ∷ []) w.cell_for.ensures)
          c.loop-place.invariant)
      | else-is_written w ↦ subst (λ (vec : Vec (ℕ × ℕ) Global). AreGivenBefore merges given line (place + 1) vec.items)
          (sym w.cells-is)
          (left_out given merges line place c.requires.there short c.loop-place.cells.items
          (here ∙ sym c.is_written.ensures ∙ w.if-is_written.false) c.loop-place.invariant)
    ]

pub returns : goal.returns
returns c =
    let given = c.args.self.now.given.now in
    let merges = c.args.self.now.merges.now in
    let long_is = ap length c.requires.inputs in
    let long : length c.args.covered.now ≡ min (max 1 (longest given.block.now.values)) (room given).1 =
    c.requires.covered.long ∙ places_are given c.requires.room in
    line_ended given merges c.args.line c.loop-place.place c.loop-place.cells.items
    (λ other short within.
    let far = line_short given c.args.line in
    omega (
      arith,
      short,
      within,
      far,
      long,
      c.loop-place-test.false,
      c.loop-place.auto.place-end,
      c.min-place-end.ensures,
      long_is,
    ))
    c.loop-place.invariant
