use Rattle.std.proofs.Common.{◌+◌, None, sym, subst, refl, ◌∙◌, take, get_or}
use Rattle.std.proofs.lemmas.List.{take_all}
use Rattle.world_model.specs.Sound.{place_sheet_with}
use Rattle.world_model.specs.Updating.{BookUpdated}
use Rattle.values_api.proofs.Emptied.{all_same_rest, listed_place, rest_emptied, unreached, unreached_none, unreached_some}
use Rattle.values_api.proofs.Kept.{stays_there}
use Rattle.values_api.proofs.Listed.{listed_next, listed_of, listed_passed, still_there}
use Rattle.values_api.specs.Rest.{rest_cleared}
use Rattle.values_api.proofs.rest.empty_rest.Goals.{then-not-is_reached+in_ok-put, else-not-is_reached}
use Rattle.values_api.proofs.rest.empty_rest.Goals as goal

pub loop-place-init : goal.loop-place-init
loop-place-init c = c.updates_are_writes.ensures.none c.args.book.now c.args.area.now.sheet

pub put-requires-clause-there : goal.put-requires-clause-there
put-requires-clause-there c =
    let place = get_or c.as_slice-place-items.result.now c.loop-place.place-index (0, 0) in
    still_there (place_sheet_with c.args.area.now.sheet c.loop-place.book.sheets)
    (place_sheet_with c.args.area.now.sheet c.args.book.now.sheets) place.0 place.1
    (c.updates_are_writes.ensures.sizes c.args.book.now c.loop-place.book c.args.area.now.sheet c.args.area.now.sheet _
    c.loop-place.invariant)
    (listed_place c.args.book.now c.stays_sound.ensures c.args.area.now c.as_slice-place-items.result.now c.requires
    (rw c.as_slice-place-items.ensures c.in_ok-places.ensures) c.loop-place.place-index c.loop-place-test.true)

pub loop-place-preserved : goal.loop-place-preserved
loop-place-preserved c =
    let id = c.args.area.now.sheet in
    let before = c.args.book.now in
    let items = unreached c.args.area.now c.args.block.now in
    let places = c.as_slice-place-items.result.now in
    let k = c.loop-place.place-index in
    let place = get_or places k (0, 0) in
    elim c.if-not-is_reached.branch [
      | then-not-is_reached+in_ok-put w ↦
          subst (BookUpdated id (listed_of items (take (k + 1) places)) before) (sym w.book-is)
          (subst (λ updates. BookUpdated id updates before w.put.new.self)
          (listed_next items places k place None c.loop-place-test.true refl
          (unreached_some c.args.area.now c.args.block.now place.0 place.1
          (sym c.is_reached.ensures ∙ w.if-not-is_reached.true)))
          (subst (BookUpdated id _ before) (sym w.in_ok-put.ensures.put)
          (c.updates_are_writes.ensures.put before c.loop-place.book id place.0 place.1 _ _ c.loop-place.invariant)))
      | else-not-is_reached w ↦ subst (BookUpdated id (listed_of items (take (k + 1) places)) before) (sym w.book-is)
          (subst (λ updates. BookUpdated id updates before c.loop-place.book)
          (listed_passed items places k place c.loop-place-test.true refl
          (unreached_none c.args.area.now c.args.block.now place.0 place.1
          (sym c.is_reached.ensures ∙ w.if-not-is_reached.false)))
          c.loop-place.invariant)
    ]

pub returns-clause-cleared : goal.returns-clause-cleared
returns-clause-cleared c =
    let places = c.as_slice-place-items.result.now in
    let area = c.args.area.now in
    let block = c.args.block.now in
    let updated = c.updates_are_writes.ensures.same c.args.book.now c.loop-place.book area.sheet
    (rest_emptied area block places) (rest_cleared area block) c.stays_sound.ensures
    (subst (λ list. BookUpdated area.sheet (rest_emptied area block list) c.args.book.now c.loop-place.book)
    (take_all c.loop-place.place-index places c.loop-place-test.false) c.loop-place.invariant)
    (all_same_rest c.args.book.now c.stays_sound.ensures area places c.requires
    (rw c.as_slice-place-items.ensures c.in_ok-places.ensures) block) in
    record {
      places = updated;
      names = λ model stands. c.updates_follow.ensures.follows c.args.book.now c.loop-place.book model area.sheet
          (rest_cleared area block) stands c.stays_sound-2.ensures updated;
    }

pub returns-clause-there : goal.returns-clause-there
returns-clause-there c =
    stays_there c.args.area.now.sheet
    (rest_emptied c.args.area.now c.args.block.now (take c.loop-place.place-index c.as_slice-place-items.result.now))
    c.args.area.now c.args.book.now.sheets c.loop-place.book.sheets c.loop-place.invariant.sheets c.requires
