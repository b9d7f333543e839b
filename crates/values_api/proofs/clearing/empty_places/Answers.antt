use Rattle.std.proofs.Common.{◌≡◌, Some, None, sym, subst, refl, take, get_or}
use Rattle.std.proofs.lemmas.List.{take_all}
use Rattle.world_model.specs.Sound.{place_sheet_with}
use Rattle.world_model.specs.Updating.{BookUpdated}
use Rattle.values_api.proofs.Emptied.{emptied, listed_place, all_same_made}
use Rattle.values_api.proofs.Listed.{listed_next, still_there}
use Rattle.values_api.specs.Updates.{cleared}
use Rattle.values_api.proofs.clearing.empty_places.Goals as goal

pub loop-place-init : goal.loop-place-init
loop-place-init c = c.updates_are_writes.ensures.none c.args.book.now c.args.area.now.sheet

pub loop-place-preserved : goal.loop-place-preserved
loop-place-preserved c =
    let place = get_or c.as_slice-place-items.result.now c.loop-place.place-index (0, 0) in
    subst (λ updates. BookUpdated c.args.area.now.sheet updates c.args.book.now c.put.new.self)
    (listed_next (λ row col. Some None) c.as_slice-place-items.result.now c.loop-place.place-index place None
    c.loop-place-test.true refl refl)
    (subst (BookUpdated c.args.area.now.sheet _ c.args.book.now) (sym c.in_ok-put.ensures.put)
    (c.updates_are_writes.ensures.put c.args.book.now c.loop-place.book c.args.area.now.sheet place.0 place.1 _ _
    c.loop-place.invariant))

pub put-requires-clause-there : goal.put-requires-clause-there
put-requires-clause-there c =
    let place = get_or c.as_slice-place-items.result.now c.loop-place.place-index (0, 0) in
    still_there (place_sheet_with c.args.area.now.sheet c.loop-place.book.sheets)
    (place_sheet_with c.args.area.now.sheet c.args.book.now.sheets) place.0 place.1
    (c.updates_are_writes.ensures.sizes c.args.book.now c.loop-place.book c.args.area.now.sheet c.args.area.now.sheet _
    c.loop-place.invariant)
    (listed_place c.args.book.now c.stays_sound.ensures c.args.area.now c.as_slice-place-items.result.now c.requires
    (rw c.as_slice-place-items.ensures c.in_ok-places.ensures) c.loop-place.place-index c.loop-place-test.true)

pub returns : goal.returns
returns c =
    let places = c.as_slice-place-items.result.now in
    let all : take c.loop-place.place-index places ≡ places =
    take_all c.loop-place.place-index places c.loop-place-test.false in
    let updated = c.updates_are_writes.ensures.same c.args.book.now c.loop-place.book c.args.area.now.sheet
    (emptied places) (cleared c.args.area.now) c.stays_sound.ensures
    (subst (λ list. BookUpdated c.args.area.now.sheet (emptied list) c.args.book.now c.loop-place.book) all
    c.loop-place.invariant)
    (all_same_made c.args.book.now c.stays_sound.ensures c.args.area.now places c.requires
    (rw c.as_slice-place-items.ensures c.in_ok-places.ensures)) in
    record {
      places = updated;
      names = λ model stands. c.updates_follow.ensures.follows c.args.book.now c.loop-place.book model
          c.args.area.now.sheet (cleared c.args.area.now) stands c.stays_sound-2.ensures updated;
    }
