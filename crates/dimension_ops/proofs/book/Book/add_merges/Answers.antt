use Rattle.std.proofs.Common.{List}
use Rattle.grid_range.specs.declared.area.Area.{Area}
use Rattle.grid_range.specs.declared.axis.Axis.{Axis}
use Rattle.merge_ranges.specs.Calls.{IsLeftOrPart}
use Rattle.merge_ranges.specs.Tests.{lines_of}
use Rattle.dimension_ops.proofs.MergesGiven.{are_of_sheet, becomes, lines_are_of, parts_are_of}
use Rattle.dimension_ops.proofs.book.Book.add_merges.Goals as goal

abbrev IsAfter : Axis → Area → List Area → Area → Type 0
IsAfter axis area merges = IsLeftOrPart area merges (lines_of axis area)

pub set_merges-requires : goal.set_merges-requires
set_merges-requires c =
    let area = c.args.area.now in
    are_of_sheet area (IsAfter c.args.axis area) c.in_ok-merges.merges c.add_lines.new.self c.args.self.now
    c.stays_sound.ensures c.requires.there
    (λ sheet merge of. parts_are_of area c.in_ok-merges.merges (lines_of c.args.axis area) sheet merge
    (lines_are_of c.args.axis area sheet c.requires.cells of))
    c.in_ok-merges.ensures.merges c.in_ok-add_lines.ensures.added

pub returns-clause-added : goal.returns-clause-added
returns-clause-added c =
    becomes c.args.area.now.sheet (IsAfter c.args.axis c.args.area.now) c.args.self.now c.set_merges.new.self
    c.in_ok-merges.merges c.add_lines.new.self c.in_ok-merges.ensures.merges c.in_ok-add_lines.ensures.added
    c.in_ok-set_merges.ensures.set c.in_ok-set_merges.ensures.names
