use Rattle.std.proofs.Common.{sym, ap, subst, ◌∙◌}
use Rattle.world_model.specs.PlaceChange.{FollowsInPlace}
use Rattle.world_model.specs.Sheet.{PlaceSheet}
use Rattle.dimension_ops.specs.References.{AreReferring}
use Rattle.dimension_ops.proofs.Formulas.{sheet_follows}
use Rattle.dimension_ops.proofs.Marked.{kept_marked}
use Rattle.dimension_ops.proofs.sheet.Sheet.follow.Goals as goal

pub returns : goal.returns
returns c = record {
  id = ap (λ (sheet : PlaceSheet). sheet.id) c.self.view_is;
  title = ap (λ (sheet : PlaceSheet). sheet.title) c.self.view_is;
  hidden = ap (λ (sheet : PlaceSheet). sheet.hidden) c.self.view_is;
  merges = ap (λ (sheet : PlaceSheet). sheet.merges) c.self.view_is;
  filter = ap (λ (sheet : PlaceSheet). sheet.filter) c.self.view_is;
  followed = subst (λ (sheet : PlaceSheet). FollowsInPlace c.args.by.now.sheet c.args.by.now.axis c.args.by.now.count
      c.args.by.now.change.now sheet.table c.follow_places.new.cells.table) c.self.view_is
      (subst (FollowsInPlace c.args.by.now.sheet c.args.by.now.axis c.args.by.now.count c.args.by.now.change.now
      c.self.inside.cells.table) (sym c.in_ok-follow_places.ensures.followed)
      (sheet_follows c.args.by.now.sheet c.args.by.now.axis c.args.by.now.count c.args.by.now.change.now
      c.self.inside.cells.table c.args.places.now
      (subst (λ (sheet : PlaceSheet). AreReferring c.args.by.now.sheet sheet.table c.args.places.now)
      (sym c.self.view_is)
      c.requires.places)));
}

pub invariant_of-self : goal.invariant_of-self
invariant_of-self c = (
  c.self.invariant.0 ∙ sym c.follow_places.ensures.formulas.count,
  kept_marked c.self.inside.cells.table c.follow_places.new.cells.table c.self.inside.marks.table
      c.follow_places.ensures.formulas
      c.self.invariant.1,
)

pub invariant_of-self-2 : goal.invariant_of-self-2
invariant_of-self-2 c = (
  c.self.invariant.0 ∙ sym c.follow_places.ensures.formulas.count,
  kept_marked c.self.inside.cells.table c.follow_places.new.cells.table c.self.inside.marks.table
      c.follow_places.ensures.formulas
      c.self.invariant.1,
)
