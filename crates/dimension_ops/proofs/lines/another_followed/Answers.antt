use Rattle.std.proofs.Common.{◌≡◌, refl, sym, subst, ◌∙◌, List, [], ◌∷◌, length, true, arith}
use Rattle.std.specs.Prelude.{◌==◌}
use Rattle.std.proofs.lemmas.Bool.{eqb-true}
use Rattle.std.specs.Arc.{arc_value}
use Rattle.world_model.specs.Sheet.{PlaceSheet}
use Rattle.dimension_ops.specs.References.{AreReferring}
use Rattle.dimension_ops.proofs.Formulas.{unreferred}
use Rattle.dimension_ops.proofs.Unmoved.{nothing_follows}
use Rattle.dimension_ops.proofs.lines.another_followed.Goals as goal

no_items : {A : Type 0} (items : List A) → (length items == 0) ≡ true → items ≡ []
no_items [] is = refl
no_items (first ∷ items) is = absurd (omega (arith, eqb-true (length (first ∷ items)) 0 is))

pub returns-then-keeps_places : goal.returns-then-keeps_places
returns-then-keeps_places c = record {
  id = refl;
  title = refl;
  hidden = refl;
  merges = refl;
  filter = refl;
  followed = nothing_follows c.args.by.now.sheet c.args.by.now.axis c.args.by.now.count c.args.by.now.change.now
      (sym c.keeps_places.ensures ∙ c.if-keeps_places.true) (arc_value c.args.sheet).table c.requires.within;
}

pub returns-then-is_empty : goal.returns-then-is_empty
returns-then-is_empty c =
    let none : c.in_ok-places.places.items ≡ [] =
    sym c.as_slice.ensures.value ∙ no_items c.as_slice.result.now (sym c.is_empty.ensures ∙ c.if-is_empty.true) in
    let are : AreReferring c.args.by.now.sheet (arc_value c.args.sheet).table [] =
    subst (AreReferring c.args.by.now.sheet (arc_value c.args.sheet).table) none
    (subst (λ (sheet : PlaceSheet). AreReferring c.args.by.now.sheet sheet.table c.in_ok-places.places.items)
    c.deref.ensures c.in_ok-places.ensures) in
    record {
      id = refl;
      title = refl;
      hidden = refl;
      merges = refl;
      filter = refl;
      followed = unreferred c.args.by.now.sheet c.args.by.now.axis c.args.by.now.count c.args.by.now.change.now
          (arc_value c.args.sheet).table are;
    }
