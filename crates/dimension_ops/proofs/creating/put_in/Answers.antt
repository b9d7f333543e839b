use Rattle.std.proofs.Common.{◌≡◌, sym, ap, ◌∙◌, arith, length, map, List}
use Rattle.std.specs.Arc.{arc_value}
use Rattle.std.specs.List.{insert}
use Rattle.std.proofs.lemmas.List.{length-map}
use Rattle.world_model.specs.Sheet.{PlaceSheet}
use Rattle.world_model.specs.SheetChange.{new_place_sheet}
use Rattle.dimension_ops.proofs.Making.{made_next, map_with, place_there}
use Rattle.dimension_ops.proofs.creating.put_in.Goals as goal

pub insert-requires : goal.insert-requires
insert-requires c =
    let there = place_there c.args.placed.now c.loop-one.one-index c.one-item.result
    (map arc_value c.loop-one.sheets.items) c.requires.places c.loop-one-test.true c.one-item.is c.loop-one.invariant in
    let long = length-map c.loop-one.sheets.items arc_value in
    let at = c.place.ensures in
    let held : Rattle.std.specs.Vec.vec_len c.loop-one.sheets ≡ length c.loop-one.sheets.items =
    c.loop-one.sheets.ok.0 in
    omega (arith, there, long, at, held)

pub loop-one-preserved : goal.loop-one-preserved
loop-one-preserved c =
    let one = c.one-item.result in
    ap (map arc_value) c.in_ok-insert.ensures.items
    ∙ map_with arc_value c.place.result c.in_ok-sheet.sheet c.loop-one.sheets.items
    ∙ ap (λ (sheet : PlaceSheet). insert (map arc_value c.loop-one.sheets.items) c.place.result sheet)
    c.in_ok-sheet.ensures
    ∙ ap (λ at. insert (map arc_value c.loop-one.sheets.items) at (new_place_sheet one.1)) c.place.ensures
    ∙ ap (λ (sheets : List PlaceSheet). insert sheets one.0 (new_place_sheet one.1)) c.loop-one.invariant
    ∙ sym (made_next c.args.placed.now c.loop-one.one-index one c.loop-one-test.true c.one-item.is)
