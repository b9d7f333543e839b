use Rattle.std.specs.Prelude.{[], true, Ok}
use Rattle.grid_range.specs.declared.axis.Axis.TheVariants.{Rows}
use Rattle.values_api.specs.Appends.{added_on, cell_area, changes_of}
use Rattle.values_api.specs.Blocks.{contents_of}
use Rattle.values_api.specs.Denials.{AreaCells, WriteCells}
use Rattle.values_api.specs.Updates.{cleared}
use Rattle.request_kinds.specs.Telling.{cells_updated}
use Rattle.request_kinds.specs.Touching.{TouchedCells}
use Rattle.kept_cells.proofs.Untouched.{by_kind_leave}
use Rattle.kept_cells.proofs.UntouchedKinds.{left_stay}
use Rattle.kept_cells.proofs.UntouchedRows.{append_leave, rows_leave, write_leave}
use Rattle.kept_cells.proofs.UntouchedWrites.{clear_leaves}
use Rattle.kept_cells.proofs.laws.untouched_cells_keep.Goals as goal

pub returns : goal.returns
returns c =
    let stays = c.left_cells_stay.ensures in
    record {
      request = λ user project book asked reply changes none is.
          left_stay stays [] (TouchedCells book.sheets asked) book changes
          (by_kind_leave c.changes_apart.ensures c.changes_in_turn.ensures user project book reply changes
          asked none is);
      rows = λ user sheet at count rows book area reply changes written.
          left_stay stays (added_on sheet Rows at count) (WriteCells written.between.sheets true area rows) book changes
          (rows_leave user sheet at count rows book area reply changes written);
      write = λ one_cell area block sheet before after answer writes is.
          left_stay stays [] (WriteCells before.sheets one_cell area block) before
          (cells_updated area.sheet (contents_of writes.entries))
          (write_leave one_cell area block sheet before after answer writes is);
      clear = λ book area.
          left_stay stays [] (AreaCells book.sheets area) book (cells_updated area.sheet (cleared area))
          (λ named id row col stands there untouched. clear_leaves book named stands area id row col there untouched);
      append = λ user sheet added start block table changes before after answer appended.
          left_stay stays (changes_of sheet added)
          (WriteCells appended.between.sheets true (cell_area sheet start) block) before changes
          (append_leave user sheet added start block table changes before after (Ok answer) appended);
    }
