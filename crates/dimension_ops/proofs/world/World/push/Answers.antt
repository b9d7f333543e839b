use Rattle.std.proofs.Common.{◌≡◌, ◌<◌, sym, ap, subst, ◌∙◌, map, List, [], ◌∷◌, ◌++◌, length, arith, length-append}
use Rattle.std.specs.Arc.{arc_value}
use Rattle.std.proofs.lemmas.List.{length-map, map-append}
use Rattle.world_model.specs.Book.{PlaceBook}
use Rattle.dimension_ops.specs.declared.creating.TheConstants.{MOST_BOOKS}
use Rattle.dimension_ops.specs.Creating.{book_id}
use Rattle.dimension_ops.specs.World.{AreNumbered}
use Rattle.dimension_ops.proofs.Making.{numbered_more}
use Rattle.dimension_ops.proofs.world.World.push.Goals as goal

pub invariant_of-self-in-Ok : goal.invariant_of-self-in-Ok
invariant_of-self-in-Ok c =
    let before : List PlaceBook = map arc_value c.self.inside.books.items in
    let after : List PlaceBook = map arc_value c.push.new.self.items in
    let pushed : after ≡ before ++ c.args.book ∷ [] =
    ap (map arc_value) c.in_ok-push-in-Ok.ensures.items
    ∙ map-append arc_value c.self.inside.books.items (c.in-Ok.shared ∷ [])
    ∙ ap (λ (book : PlaceBook). before ++ book ∷ []) c.in-Ok.ensures.shared in
    let few = subst (λ (books : List PlaceBook). length books < MOST_BOOKS) (sym c.self.view_is) c.requires.few in
    let long = ap length pushed ∙ length-append before (c.args.book ∷ []) in
    let same = length-map c.push.new.self.items arc_value in (
      subst AreNumbered (sym pushed)
          (numbered_more before c.args.book c.self.invariant.0
          (c.requires.numbered ∙ ap (λ (books : List PlaceBook). book_id (length books)) (sym c.self.view_is))),
      omega (arith, few, long, same),
    )
