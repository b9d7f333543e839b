use Rattle.std.proofs.Common.{◌∙◌}
use Rattle.std.proofs.lemmas.Map.Keys.{IsDistinct-from_sorted}
use Rattle.grid_range.specs.Area.{by_rows}
use Rattle.cell_store.proofs.Tables.{filled-view}
use Rattle.cell_store.proofs.tree.TreeGridGrid.filled.Goals as goal

pub returns : goal.returns
returns g c = c.len.ensures.len ∙ filled-view c.self.inside.rows c.self.inside.cols c.self.inside.items.entries
    c.self.view_is (IsDistinct-from_sorted by_rows _ c.len.ensures.ordered)
