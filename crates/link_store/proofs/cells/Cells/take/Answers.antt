use Rattle.std.proofs.Common.{sym, ap, ◌∙◌}
use Rattle.std.specs.Prelude.{Some}
use Rattle.link_store.proofs.Sheets.{item_from}
use Rattle.link_store.proofs.Placed.{live_cell, none_at, nothing_taken}
use Rattle.link_store.proofs.cells.Cells.take.Goals as goal

pub remove-requires-clause-live : goal.remove-requires-clause-live
remove-requires-clause-live g c = let found = c.in-Some.ensures.found in live_cell c.args.self.now c.args.row
    c.args.column c.in-Some.node found.0 found.1

pub returns-in-Some-clause-item : goal.returns-in-Some-clause-item
returns-in-Some-clause-item g c =
    let found = c.in-Some.ensures.found in
    ap Some (c.remove.ensures.item c.args.row c.args.column found.0 found.1)
    ∙ sym (item_from c.args.self.now c.requires.grid c.args.row c.args.column c.in-Some.node found.0 found.1)

pub returns-in-Some-clause-taken : goal.returns-in-Some-clause-taken
returns-in-Some-clause-taken g c = let found = c.in-Some.ensures.found in c.remove.ensures.taken c.args.row
    c.args.column found.0 found.1

pub returns-in-None-clause-item : goal.returns-in-None-clause-item
returns-in-None-clause-item g c = sym (none_at c.args.self.now c.args.row c.args.column c.requires.grid
    c.in-None.ensures.missed)

pub returns-in-None-clause-taken : goal.returns-in-None-clause-taken
returns-in-None-clause-taken g c =
    nothing_taken c.args.self.now c.args.row c.args.column
    (none_at c.args.self.now c.args.row c.args.column c.requires.grid c.in-None.ensures.missed)
