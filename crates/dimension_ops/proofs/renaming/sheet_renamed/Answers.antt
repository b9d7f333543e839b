use Rattle.std.proofs.Common.{◌≡◌, inl, inr, sym, subst, ◌∙◌, []}
use Rattle.std.specs.Arc.{arc_value}
use Rattle.world_model.specs.Sheet.{PlaceSheet}
use Rattle.dimension_ops.specs.Renaming.{AreNaming}
use Rattle.dimension_ops.proofs.Becoming.{no_items}
use Rattle.dimension_ops.proofs.RenamedWords.{none_renamed}
use Rattle.dimension_ops.proofs.renaming.sheet_renamed.Goals as goal

pub returns-then-is_empty : goal.returns-then-is_empty
returns-then-is_empty c =
    let none : c.in_ok-places.places.items ≡ [] =
    sym c.as_slice.ensures.value ∙ no_items c.as_slice.result.now (sym c.is_empty.ensures ∙ c.if-is_empty.true) in
    none_renamed c.args.old.now c.args.new.now (arc_value c.args.sheet)
    (subst (AreNaming c.args.old.now (arc_value c.args.sheet).table) none
    (subst (λ (sheet : PlaceSheet). AreNaming c.args.old.now sheet.table c.in_ok-places.places.items)
    c.deref.ensures c.in_ok-places.ensures))

pub rename-requires : goal.rename-requires
rename-requires c = record {
  places = subst (λ (sheet : PlaceSheet). AreNaming c.args.old.now sheet.table c.deref-2.result.now)
      (sym (elim c.in_ok-own.ensures.ok [ inl same ↦ same | inr same ↦ same ]))
      (subst (AreNaming c.args.old.now (arc_value c.args.sheet).table) (sym c.deref-2.ensures.value)
      (subst (λ (sheet : PlaceSheet). AreNaming c.args.old.now sheet.table c.in_ok-places.places.items)
      c.deref.ensures c.in_ok-places.ensures));
}
