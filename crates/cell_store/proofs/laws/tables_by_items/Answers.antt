-- The lemma is the law.
use Rattle.cell_store.proofs.ByItems.{tables_are}
use Rattle.cell_store.proofs.laws.tables_by_items.Goals as goal

pub returns : goal.returns
returns g c = tables_are g.row.T.Denot
