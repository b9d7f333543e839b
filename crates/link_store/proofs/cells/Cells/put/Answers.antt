use Rattle.std.proofs.Common.{sym, ap, ◌∙◌}
use Rattle.std.specs.Prelude.{Some}
use Rattle.link_store.proofs.Sheets.{item_from}
use Rattle.link_store.proofs.Placed.{live_cell, none_at}
use Rattle.link_store.proofs.cells.Cells.put.Goals as goal

pub replace-requires-clause-live : goal.replace-requires-clause-live
replace-requires-clause-live g c = let found = c.in-Some.ensures.found in live_cell c.args.self.now c.args.row
    c.args.column c.in-Some.node found.0 found.1

pub returns-in-Some-clause-old : goal.returns-in-Some-clause-old
returns-in-Some-clause-old g c =
    let found = c.in-Some.ensures.found in
    ap Some (c.replace.ensures.old c.args.row c.args.column found.0 found.1)
    ∙ sym (item_from c.args.self.now c.requires.grid c.args.row c.args.column c.in-Some.node found.0 found.1)

pub returns-in-Some-clause-put : goal.returns-in-Some-clause-put
returns-in-Some-clause-put g c = let found = c.in-Some.ensures.found in c.replace.ensures.put c.args.row
    c.args.column found.0 found.1

pub returns-in-Ok-clause-old : goal.returns-in-Ok-clause-old
returns-in-Ok-clause-old g c = sym (none_at c.args.self.now c.args.row c.args.column c.requires.grid
    c.in-None.ensures.missed)

pub returns-in-Err-clause-was_empty : goal.returns-in-Err-clause-was_empty
returns-in-Err-clause-was_empty g c = none_at c.args.self.now c.args.row c.args.column c.requires.grid
    c.in-None.ensures.missed
