use Rattle.std.proofs.Common.{◌≡◌, inl, inr, sym, subst, ◌∙◌, []}
use Rattle.std.specs.Arc.{arc_value}
use Rattle.world_model.specs.Sheet.{PlaceSheet}
use Rattle.dimension_ops.specs.References.{AreReferring}
use Rattle.dimension_ops.proofs.Becoming.{no_items}
use Rattle.dimension_ops.proofs.LostReferences.{none_lost}
use Rattle.dimension_ops.proofs.losing.sheet_left.Goals as goal

pub returns-then-is_empty : goal.returns-then-is_empty
returns-then-is_empty c =
    let none : c.in_ok-places.places.items ≡ [] =
    sym c.as_slice.ensures.value ∙ no_items c.as_slice.result.now (sym c.is_empty.ensures ∙ c.if-is_empty.true) in
    none_lost c.args.deleted (arc_value c.args.sheet)
    (subst (AreReferring c.args.deleted (arc_value c.args.sheet).table) none
    (subst (λ (sheet : PlaceSheet). AreReferring c.args.deleted sheet.table c.in_ok-places.places.items)
    c.deref.ensures c.in_ok-places.ensures))

pub lose-requires : goal.lose-requires
lose-requires c = record {
  places = subst (λ (sheet : PlaceSheet). AreReferring c.args.deleted sheet.table c.deref-2.result.now)
      (sym (elim c.in_ok-own.ensures.ok [ inl same ↦ same | inr same ↦ same ]))
      (subst (AreReferring c.args.deleted (arc_value c.args.sheet).table) (sym c.deref-2.ensures.value)
      (subst (λ (sheet : PlaceSheet). AreReferring c.args.deleted sheet.table c.in_ok-places.places.items)
      c.deref.ensures c.in_ok-places.ensures));
}
