use Rattle.std.proofs.Common.{List}
use Rattle.std.specs.Prelude.{map}
use Rattle.std.specs.Arc.{arc_value}
use Rattle.std.specs.List.{All}
use Rattle.std.proofs.lemmas.Result.{on_ok_weaker}
use Rattle.protection.specs.Listed.{without_id}
use Rattle.protection.specs.declared.range.Protection.{Protection}
use Rattle.world_model.specs.Book.{PlaceBook}
use Rattle.world_model.specs.Sound.{IsProtectionWithin}
use Rattle.dimension_ops.specs.ProtectionLaws.{fewer_within, protections_become, protections_sound}
use Rattle.dimension_ops.proofs.Marking.{kept_book}
use Rattle.dimension_ops.proofs.book.Book.drop_protection.Goals.{After-drop}
use Rattle.dimension_ops.proofs.book.Book.drop_protection.Goals as goal

-- the spreadsheet as it was
abbrev before : After-drop → PlaceBook
before c = kept_book c.self.inside (map arc_value c.self.inside.sheets.items)

abbrev made : After-drop → List Protection → List Protection
made c = without_id c.args.id

within : (c : After-drop) → All (IsProtectionWithin (before c).sheets) (made c c.self.inside.protections)
within c =
    fewer_within (before c).sheets c.self.inside.protections c.self.invariant.0.protections c.args.id

pub invariant_of-self : goal.invariant_of-self
invariant_of-self c = (
  protections_sound (before c) c.drop.new.self c.protections_are_set.ensures c.self.invariant.0
      (λ done. made c c.self.inside.protections) (λ done. within c) c.drop.result c.drop.ensures.dropped
      c.drop.ensures.unchanged,
  c.self.invariant.1,
)

pub returns-clause-dropped : goal.returns-clause-dropped
returns-clause-dropped c =
    on_ok_weaker c.drop.result (protections_become (before c) c.drop.new.self c.protections_are_set.ensures
    c.args.self.now c.self.view_is (made c) (within c))
    c.drop.ensures.dropped
