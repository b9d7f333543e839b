use Rattle.std.proofs.Common.{List, sym, subst}
use Rattle.std.specs.Prelude.{map}
use Rattle.std.specs.Arc.{arc_value}
use Rattle.std.specs.List.{All}
use Rattle.std.proofs.lemmas.Result.{on_ok_weaker}
use Rattle.dev_metadata.specs.Patch.{with_patched}
use Rattle.dev_metadata.specs.declared.types.Item.{Item}
use Rattle.world_model.specs.Book.{PlaceBook}
use Rattle.world_model.specs.Sound.{IsItemWithin}
use Rattle.dimension_ops.specs.MetadataLaws.{metadata_becomes, metadata_sound, patched_within}
use Rattle.dimension_ops.specs.MetadataRequests.{IsItemPatchWithin}
use Rattle.dimension_ops.proofs.Marking.{kept_book}
use Rattle.dimension_ops.proofs.book.Book.update_items.Goals.{After-update}
use Rattle.dimension_ops.proofs.book.Book.update_items.Goals as goal

-- the spreadsheet as it was
abbrev before : After-update → PlaceBook
before c = kept_book c.self.inside (map arc_value c.self.inside.sheets.items)

abbrev made : After-update → List Item → List Item
made c = with_patched c.args.lookups.now c.args.project.now c.args.patch.now

within : (c : After-update) → All (IsItemWithin (before c).sheets) (made c c.self.inside.metadata)
within c =
    patched_within (before c).sheets c.self.inside.metadata c.self.invariant.0.metadata c.args.lookups.now
    c.args.project.now c.args.patch.now
    (subst (λ (book : PlaceBook). IsItemPatchWithin book.sheets c.args.patch.now) (sym c.self.view_is)
    c.requires.within)

pub invariant_of-self : goal.invariant_of-self
invariant_of-self c = (
  metadata_sound (before c) c.update.new.self c.metadata_is_set.ensures c.self.invariant.0
      (λ done. made c c.self.inside.metadata) (λ done. within c) c.update.result c.update.ensures.updated
      c.update.ensures.unchanged,
  c.self.invariant.1,
)

pub returns-clause-updated : goal.returns-clause-updated
returns-clause-updated c =
    on_ok_weaker c.update.result (metadata_becomes (before c) c.update.new.self c.metadata_is_set.ensures
    c.args.self.now c.self.view_is (made c) (within c))
    c.update.ensures.updated
