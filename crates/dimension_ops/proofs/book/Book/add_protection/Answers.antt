use Rattle.std.proofs.Common.{ℕ, ◌≡◌, List, sym, subst}
use Rattle.std.specs.Prelude.{map}
use Rattle.std.specs.Arc.{arc_value}
use Rattle.std.specs.List.{All}
use Rattle.std.proofs.lemmas.Result.{IfOk-weaker}
use Rattle.protection.specs.Listed.{with_one_more}
use Rattle.protection.specs.Patch.{blank, patched}
use Rattle.protection.specs.declared.range.Protection.{Protection}
use Rattle.world_model.specs.Book.{PlaceBook}
use Rattle.world_model.specs.ProtectionLaws.{place_protections_set}
use Rattle.world_model.specs.Sound.{IsProtectionWithin}
use Rattle.dimension_ops.specs.ProtectionLaws.{more_within, protections_become, protections_sound}
use Rattle.dimension_ops.specs.ProtectionRequests.{IsPatchWithin, ProtectionsBecome}
use Rattle.dimension_ops.proofs.Marking.{kept_book}
use Rattle.dimension_ops.proofs.book.Book.add_protection.Goals.{After-add}
use Rattle.dimension_ops.proofs.book.Book.add_protection.Goals as goal

-- the spreadsheet as it was
abbrev before : After-add → PlaceBook
before c = kept_book c.self.inside (map arc_value c.self.inside.sheets.items)

abbrev made : After-add → ℕ → List Protection → List Protection
made c id = with_one_more (patched c.args.user.now c.args.owner.now c.args.patch (blank id))

within : (c : After-add) (id : ℕ) → All (IsProtectionWithin (before c).sheets) (made c id c.self.inside.protections)
within c id =
    more_within (before c).sheets c.self.inside.protections c.self.invariant.0.protections c.args.user.now
    c.args.owner.now c.args.patch
    (subst (λ (book : PlaceBook). IsPatchWithin book.sheets c.args.patch) (sym c.self.view_is) c.requires.within)
    c.requires.given id

pub invariant_of-self : goal.invariant_of-self
invariant_of-self c = (
  protections_sound (before c) c.add.new.self c.protections_are_set.ensures c.self.invariant.0
      (λ id. made c id c.self.inside.protections) (within c) c.add.result c.add.ensures.added c.add.ensures.unchanged,
  c.self.invariant.1,
)

pub returns-clause-added : goal.returns-clause-added
returns-clause-added c =
    IfOk-weaker c.add.result (λ id. c.add.new.self ≡ made c id c.self.inside.protections)
    (λ id. ProtectionsBecome (made c id c.args.self.now.protections) c.args.self.now
    (place_protections_set c.add.new.self (before c)))
    (λ id is. protections_become (before c) c.add.new.self c.protections_are_set.ensures c.args.self.now c.self.view_is
    (made c id) (within c id) is)
    c.add.ensures.added
