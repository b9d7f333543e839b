use Rattle.link_store.proofs.Search.{cell_found, cell_missed}
use Rattle.link_store.proofs.cells.Cells.find.Goals as goal

pub returns-clause-found : goal.returns-clause-found
returns-clause-found g c =
    cell_found c.args.self.now c.args.row c.args.column c.list.result c.list-2.result c.list.ensures.value
    c.list-2.ensures.value
    c.find_in.result (c.if-row-self.false, c.if-column-self.false) c.find_in.ensures.found

pub returns-clause-missed : goal.returns-clause-missed
returns-clause-missed g c =
    cell_missed c.args.self.now c.args.row c.args.column c.list.result c.list-2.result c.list.ensures.value
    c.list-2.ensures.value
    c.find_in.result c.find_in.ensures.missed
