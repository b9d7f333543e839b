use Rattle.std.proofs.Common.{◌≡◌, ◌-◌, ap, sym, ◌∙◌}
use Rattle.std.specs.Prelude.{flat_map, unwrap_or}
use Rattle.std.proofs.lemmas.List.FromFn.{length-range_with_len}
use Rattle.grid_range.specs.Band.{first_line, end_line}
use Rattle.cell_calc.specs.Book.{lines_of}
use Rattle.cell_calc.specs.Known.{cell_read, value_read}
use Rattle.cell_calc.proofs.AreasLent.{area_filled, rows_long}
use Rattle.cell_calc.proofs.known.KnownCellsCellReader.cells.Goals as goal

pub returns : goal.returns
returns g c =
    let contents = g.C.CellsOf.contents c.args.self.now.cells.now in
    let known = g.V.ValuesOf.known c.args.self.now.values.now in
    let area = c.args.area.now in
    let read = value_read contents known in
    let size = unwrap_or (contents.size area.sheet) (0, 0) in
    let size_is : c.unwrap_or-rows.result ≡ size =
    c.unwrap_or-rows.ensures ∙ ap (λ s. unwrap_or s (0, 0)) c.size.ensures in
    let rows = lines_of area.rows size.0 in
    let columns = lines_of area.cols size.1 in
    let columns_are : c.line_count-columns.result ≡ end_line area.cols size.1 - first_line area.cols =
    c.line_count-columns.ensures ∙ ap (λ s. end_line area.cols s.1 - first_line area.cols) size_is in
    record {
      rows = c.line_count.ensures ∙ ap (λ s. end_line area.rows s.0 - first_line area.rows) size_is
          ∙ sym (length-range_with_len _ _);
      columns = columns_are ∙ sym (length-range_with_len _ _);
      all = rows_long read area.sheet columns rows;
      filled = c.in_ok-filled.ensures
          ∙ ap (λ n. flat_map (cell_read known area n) c.as_slice.result.now) columns_are
          ∙ ap (flat_map (cell_read known area (end_line area.cols size.1 - first_line area.cols)))
          c.as_slice.ensures.value
          ∙ area_filled contents known c.stay_sound.ensures area c.in_ok-stored.stored.items c.in_ok-stored.ensures;
    }
