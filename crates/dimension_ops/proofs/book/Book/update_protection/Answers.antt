use Rattle.std.proofs.Common.{List, sym, subst}
use Rattle.std.specs.Prelude.{map}
use Rattle.std.specs.Arc.{arc_value}
use Rattle.std.specs.List.{All}
use Rattle.std.proofs.lemmas.Result.{on_ok_weaker}
use Rattle.protection.specs.Listed.{with_changed}
use Rattle.protection.specs.Patch.{patched}
use Rattle.protection.specs.declared.range.Protection.{Protection}
use Rattle.world_model.specs.Book.{PlaceBook}
use Rattle.world_model.specs.Sound.{IsProtectionWithin}
use Rattle.dimension_ops.specs.ProtectionLaws.{changed_within, protections_become, protections_sound}
use Rattle.dimension_ops.specs.ProtectionRequests.{IsPatchWithin}
use Rattle.dimension_ops.proofs.Marking.{kept_book}
use Rattle.dimension_ops.proofs.book.Book.update_protection.Goals.{After-update}
use Rattle.dimension_ops.proofs.book.Book.update_protection.Goals as goal

-- the spreadsheet as it was
abbrev before : After-update → PlaceBook
before c = kept_book c.self.inside (map arc_value c.self.inside.sheets.items)

abbrev made : After-update → List Protection → List Protection
made c = with_changed c.args.id (patched c.args.user.now c.args.owner.now c.args.patch)

within : (c : After-update) → All (IsProtectionWithin (before c).sheets) (made c c.self.inside.protections)
within c =
    changed_within (before c).sheets c.self.inside.protections c.self.invariant.0.protections c.args.user.now
    c.args.owner.now c.args.patch
    (subst (λ (book : PlaceBook). IsPatchWithin book.sheets c.args.patch) (sym c.self.view_is) c.requires.within)
    c.args.id

pub invariant_of-self : goal.invariant_of-self
invariant_of-self c = (
  protections_sound (before c) c.update.new.self c.protections_are_set.ensures c.self.invariant.0
      (λ done. made c c.self.inside.protections) (λ done. within c) c.update.result c.update.ensures.updated
      c.update.ensures.unchanged,
  c.self.invariant.1,
)

pub returns-clause-updated : goal.returns-clause-updated
returns-clause-updated c =
    on_ok_weaker c.update.result (protections_become (before c) c.update.new.self c.protections_are_set.ensures
    c.args.self.now c.self.view_is (made c) (within c))
    c.update.ensures.updated
