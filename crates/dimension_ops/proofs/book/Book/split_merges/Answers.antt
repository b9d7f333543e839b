use Rattle.merge_ranges.specs.Calls.{IsLeft}
use Rattle.dimension_ops.proofs.MergesGiven.{are_of_sheet, becomes, left_is_of}
use Rattle.dimension_ops.proofs.book.Book.split_merges.Goals as goal

pub set_merges-requires : goal.set_merges-requires
set_merges-requires c =
    are_of_sheet c.args.area.now (IsLeft c.args.area.now) c.in_ok-merges.merges c.split.new.self c.args.self.now
    c.stays_sound.ensures c.requires.there
    (λ sheet merge of. left_is_of c.args.area.now c.in_ok-merges.merges sheet merge)
    c.in_ok-merges.ensures.merges c.in_ok-split.ensures.left

pub returns-clause-left : goal.returns-clause-left
returns-clause-left c =
    becomes c.args.area.now.sheet (IsLeft c.args.area.now) c.args.self.now c.set_merges.new.self
    c.in_ok-merges.merges c.split.new.self c.in_ok-merges.ensures.merges c.in_ok-split.ensures.left
    c.in_ok-set_merges.ensures.set c.in_ok-set_merges.ensures.names
