use Rattle.std.proofs.Common.{◌∷◌, [], List}
use Rattle.grid_range.specs.declared.area.Area.{Area}
use Rattle.merge_ranges.specs.Calls.{IsLeftOrPart}
use Rattle.dimension_ops.proofs.MergesGiven.{are_of_sheet, becomes, itself_is_of, parts_are_of}
use Rattle.dimension_ops.proofs.book.Book.add_merge.Goals as goal

abbrev IsAfter : Area → List Area → Area → Type 0
IsAfter area merges = IsLeftOrPart area merges (area ∷ [])

pub set_merges-requires : goal.set_merges-requires
set_merges-requires c =
    let area = c.args.area.now in
    are_of_sheet area (IsAfter area) c.in_ok-merges.merges c.add.new.self c.args.self.now
    c.stays_sound.ensures c.requires.there
    (λ sheet merge of. parts_are_of area c.in_ok-merges.merges (area ∷ []) sheet merge (itself_is_of area sheet of))
    c.in_ok-merges.ensures.merges c.in_ok-add.ensures.added

pub returns-clause-added : goal.returns-clause-added
returns-clause-added c =
    becomes c.args.area.now.sheet (IsAfter c.args.area.now) c.args.self.now c.set_merges.new.self
    c.in_ok-merges.merges c.add.new.self c.in_ok-merges.ensures.merges c.in_ok-add.ensures.added
    c.in_ok-set_merges.ensures.set c.in_ok-set_merges.ensures.names
