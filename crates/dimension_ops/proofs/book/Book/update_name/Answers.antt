use Rattle.std.proofs.Common.{sym, subst, map}
use Rattle.std.specs.Prelude.{IfSome}
use Rattle.std.specs.Arc.{arc_value}
use Rattle.world_model.specs.Book.{PlaceBook}
use Rattle.world_model.specs.Sound.{IsOnSheet}
use Rattle.dimension_ops.proofs.KeptRanges.{after_updating}
use Rattle.dimension_ops.proofs.Marking.{kept_book}
use Rattle.dimension_ops.proofs.book.Book.update_name.Goals as goal

pub invariant_of-self : goal.invariant_of-self
invariant_of-self c = (
  after_updating (kept_book c.self.inside (map arc_value c.self.inside.sheets.items)) c.update.new.self
      c.self.invariant.0 c.args.id.now c.args.name c.args.area
      (subst (λ (book : PlaceBook). IfSome c.args.area (IsOnSheet book.sheets)) (sym c.self.view_is) c.requires.there)
      c.update.result c.update.ensures.updated c.update.ensures.unchanged,
  c.self.invariant.1,
)
