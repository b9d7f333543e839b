use Rattle.std.proofs.Common.{List}
use Rattle.std.specs.Prelude.{map}
use Rattle.std.specs.Arc.{arc_value}
use Rattle.std.specs.List.{All}
use Rattle.std.proofs.lemmas.Result.{on_ok_weaker}
use Rattle.dev_metadata.specs.Listed.{not_found}
use Rattle.dev_metadata.specs.declared.types.Item.{Item}
use Rattle.world_model.specs.Book.{PlaceBook}
use Rattle.world_model.specs.Sound.{IsItemWithin}
use Rattle.dimension_ops.specs.MetadataLaws.{fewer_within, metadata_becomes, metadata_sound}
use Rattle.dimension_ops.proofs.Marking.{kept_book}
use Rattle.dimension_ops.proofs.book.Book.drop_items.Goals.{After-drop}
use Rattle.dimension_ops.proofs.book.Book.drop_items.Goals as goal

-- the spreadsheet as it was
abbrev before : After-drop → PlaceBook
before c = kept_book c.self.inside (map arc_value c.self.inside.sheets.items)

abbrev made : After-drop → List Item → List Item
made c = not_found c.args.lookup.now c.args.project.now

within : (c : After-drop) → All (IsItemWithin (before c).sheets) (made c c.self.inside.metadata)
within c =
    fewer_within (before c).sheets c.self.inside.metadata c.self.invariant.0.metadata c.args.lookup.now
    c.args.project.now

pub invariant_of-self : goal.invariant_of-self
invariant_of-self c = (
  metadata_sound (before c) c.drop.new.self c.metadata_is_set.ensures c.self.invariant.0
      (λ done. made c c.self.inside.metadata) (λ done. within c) c.drop.result c.drop.ensures.left
      c.drop.ensures.unchanged,
  c.self.invariant.1,
)

pub returns-clause-dropped : goal.returns-clause-dropped
returns-clause-dropped c =
    on_ok_weaker c.drop.result (metadata_becomes (before c) c.drop.new.self c.metadata_is_set.ensures c.args.self.now
    c.self.view_is (made c) (within c))
    c.drop.ensures.left
