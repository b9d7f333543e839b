use Rattle.cell_calc.proofs.reader.CellReader.value_alone.Goals as goal

pub returns : goal.returns
returns g c = c.value_of_cells.ensures _ c.in_ok-cells.ensures
