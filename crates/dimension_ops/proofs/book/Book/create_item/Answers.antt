use Rattle.std.proofs.Common.{ℕ, ◌≡◌, List, sym, subst}
use Rattle.std.specs.Prelude.{map}
use Rattle.std.specs.Arc.{arc_value}
use Rattle.std.specs.List.{All}
use Rattle.std.proofs.lemmas.Result.{IfOk-weaker}
use Rattle.dev_metadata.specs.Listed.{with_one_more}
use Rattle.dev_metadata.specs.declared.types.Item.{Item}
use Rattle.world_model.specs.Book.{PlaceBook}
use Rattle.world_model.specs.MetadataLaws.{place_metadata_set}
use Rattle.world_model.specs.Sound.{IsItemWithin, IsSpotWithin}
use Rattle.dimension_ops.specs.MetadataLaws.{metadata_becomes, metadata_sound, more_within}
use Rattle.dimension_ops.specs.MetadataRequests.{MetadataBecomes}
use Rattle.dimension_ops.proofs.Marking.{kept_book}
use Rattle.dimension_ops.proofs.book.Book.create_item.Goals.{After-create}
use Rattle.dimension_ops.proofs.book.Book.create_item.Goals as goal

-- the spreadsheet as it was
abbrev before : After-create → PlaceBook
before c = kept_book c.self.inside (map arc_value c.self.inside.sheets.items)

abbrev made : After-create → ℕ → List Item → List Item
made c id = with_one_more id c.args.key c.args.value c.args.spot c.args.visibility

within : (c : After-create) (id : ℕ) → All (IsItemWithin (before c).sheets) (made c id c.self.inside.metadata)
within c id =
    more_within (before c).sheets c.self.inside.metadata c.self.invariant.0.metadata id c.args.key c.args.value
    c.args.spot c.args.visibility
    (subst (λ (book : PlaceBook). IsSpotWithin book.sheets c.args.spot) (sym c.self.view_is) c.requires.within)

pub invariant_of-self : goal.invariant_of-self
invariant_of-self c = (
  metadata_sound (before c) c.create.new.self c.metadata_is_set.ensures c.self.invariant.0
      (λ id. made c id c.self.inside.metadata) (within c) c.create.result c.create.ensures.added
      c.create.ensures.unchanged,
  c.self.invariant.1,
)

pub returns-clause-added : goal.returns-clause-added
returns-clause-added c =
    IfOk-weaker c.create.result (λ id. c.create.new.self ≡ made c id c.self.inside.metadata)
    (λ id. MetadataBecomes (made c id c.args.self.now.metadata) c.args.self.now
    (place_metadata_set c.create.new.self (before c)))
    (λ id is. metadata_becomes (before c) c.create.new.self c.metadata_is_set.ensures c.args.self.now c.self.view_is
    (made c id) (within c id) is)
    c.create.ensures.added
