use Rattle.std.proofs.Common.{take}
use Rattle.cell_calc.specs.Calculated.{IsTableOf}
use Rattle.values_api.specs.Sheets.{stored_in}
use Rattle.batch_engine.specs.Filtered.{AreAreasShown}
use Rattle.batch_engine.proofs.filtered.all_shown.Given as goal

-- so far what the areas before this one show, by values of the spreadsheet
abbrev pub invariant-loop-area : goal.invariant-loop-area
invariant-loop-area l =
    AreAreasShown (record { dimension = l.dimension; render = l.render }) l.book l.filter (take l.area-index l.areas)
    l.all.items
    × IsTableOf (stored_in l.book) l.table
