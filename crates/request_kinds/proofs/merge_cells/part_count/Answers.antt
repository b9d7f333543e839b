use Rattle.std.proofs.Common.{sym, ap, ◌∙◌, length}
use Rattle.grid_range.specs.declared.area.Area.{Area}
use Rattle.grid_range.specs.declared.axis.Axis.TheVariants as axis
use Rattle.request_kinds.specs.MergeCells.{parts_of}
use Rattle.request_kinds.proofs.MergedParts.{lines_count}
use Rattle.request_kinds.proofs.merge_cells.part_count.Goals as goal

pub returns-in-Columns : goal.returns-in-Columns
returns-in-Columns c =
    let area : Area = c.args.area.now in
    c.merged_lines.ensures ∙ sym (lines_count axis.Columns area)
    ∙ ap (λ type. length (parts_of type area)) (sym c.in-Columns.is)

pub returns-in-Rows : goal.returns-in-Rows
returns-in-Rows c =
    let area : Area = c.args.area.now in
    c.merged_lines-in-Rows.ensures ∙ sym (lines_count axis.Rows area)
    ∙ ap (λ type. length (parts_of type area)) (sym c.in-Rows.is)
