use Rattle.sheet_engine.proofs.sheets.SheetsEngine.count_cells.Goals as goal

pub returns : goal.returns
returns c = λ entries stands. record { books = c.args.world.now; stands = stands; count_is = c.filled.ensures }
