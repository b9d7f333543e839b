use Rattle.std.proofs.Common.{List, [], ◌∷◌}
use Rattle.world_model.specs.BookChange.{BookChange}
use Rattle.request_kinds.specs.MergeCells.{covered_emptied}
use Rattle.request_kinds.proofs.merge_cells.merge.Goals as goal

pub returns : goal.returns
returns c =
    let become = c.in_ok-make.ensures in
    let set : List BookChange = BookChange.MergesSet c.args.area.now.sheet become.merges ∷ [] in
    record {
      merges = become.merges;
      just = become.just;
      changes = c.changes_in_turn.ensures.both set (covered_emptied c.args.merge_type c.args.area.now) c.args.book.now
          c.make.new.book c.empty_covered.new.book become.names c.in_ok-empty_covered.ensures;
    }
