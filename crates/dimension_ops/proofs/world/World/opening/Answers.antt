use Rattle.std.proofs.Common.{◌≡◌, sym, ap, subst, ◌∙◌, [], ◌∷◌, ◌++◌, map, length, arith}
use Rattle.std.specs.Arc.{arc_value}
use Rattle.std.proofs.lemmas.List.{length-map}
use Rattle.world_model.specs.Book.{PlaceBook}
use Rattle.dimension_ops.specs.World.{AreNumbered, opening_book}
use Rattle.dimension_ops.proofs.OpeningNames.{first_numbered}
use Rattle.dimension_ops.proofs.world.World.opening.Goals as goal

pub invariant_of-result : goal.invariant_of-result
invariant_of-result c =
    let one : map arc_value c.push.new.self.items ≡ opening_book ∷ [] =
    ap (map arc_value)
    (c.in_ok-push.ensures.items ∙ ap (λ list. list ++ (c.in_ok-new.field-0 ∷ [])) c.new-books.ensures.items)
    ∙ ap (λ (book : PlaceBook). book ∷ []) (c.in_ok-new.ensures.ok ∙ c.in_ok-opening.ensures) in
    let long : length c.push.new.self.items ≡ 1 = sym (length-map c.push.new.self.items arc_value) ∙ ap length one in
    (subst AreNumbered (sym one) first_numbered, omega (arith, long))
