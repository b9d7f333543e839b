use Rattle.link_store.proofs.Views.{table_empty}
use Rattle.link_store.proofs.grid.LinkGrid.new.Goals as goal

pub returns-clause-empty : goal.returns-clause-empty
returns-clause-empty g c =
    let made = c.in_ok-new.ensures in
    table_empty c.tables_by_items.ensures c.in_ok-new.field-0 c.args.rows c.args.cols made.size.0 made.size.1 made.empty
