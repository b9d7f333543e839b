use Rattle.std.proofs.Common.{ap, ◌∙◌}
use Rattle.world_model.specs.SheetChange.{place_marked_hidden}
use Rattle.dimension_ops.proofs.sheets.new_sheet.Goals as goal

pub returns : goal.returns
returns c = (
  record {
    id = c.in_ok-id.id;
    title = c.in_ok-title.title;
    hidden = c.unwrap_or.result;
    rows = c.new_rows-rows.result;
    cols = c.new_cols-cols.result;
  },
  record {
    id = c.in_ok-id.ensures;
    title = c.in_ok-title.ensures;
    hidden = c.unwrap_or.ensures;
    rows = c.new_rows-rows.ensures;
    cols = c.new_cols-cols.ensures;
  },
  c.set_hidden.ensures ∙ ap (place_marked_hidden c.unwrap_or.result) c.in_ok-sheet.ensures,
)
