use Rattle.std.proofs.Common.{sym, ap, subst, ◌∙◌}
use Rattle.grid_range.specs.declared.area.Area.{Area}
use Rattle.grid_range.specs.declared.axis.Axis.TheVariants as axis
use Rattle.json_requests.specs.declared.request.MergeType.TheVariants as merge
use Rattle.world_model.specs.Updating.{BookUpdated, Updates}
use Rattle.request_kinds.specs.MergeCells.{behind_cleared, covered_cleared}
use Rattle.request_kinds.proofs.MergedParts.{columns_emptied, rows_emptied, whole_emptied}
use Rattle.request_kinds.proofs.MergesMade.{on_ok_so}
use Rattle.request_kinds.proofs.UpdatesJoined.{updated_both}
use Rattle.request_kinds.proofs.merge_cells.clear_covered.Goals as goal

pub returns-in_ok-clear_behind-in-All : goal.returns-in_ok-clear_behind-in-All
returns-in_ok-clear_behind-in-All c =
    let area : Area = c.args.area.now in
    on_ok_so c.clear_behind-in-All.result c.clear_behind-in-All.ensures.cleared
    (λ later.
    subst (λ (updates : Updates). BookUpdated area.sheet updates c.args.book.now c.clear_behind-in-All.new.book)
    (sym (ap (λ type. covered_cleared type area) c.in-All.is))
    (updated_both area.sheet (behind_cleared axis.Rows area) (behind_cleared axis.Columns area)
    (covered_cleared merge.All area) (whole_emptied area c.requires.ends) c.args.book.now c.clear_behind.new.book
    c.clear_behind-in-All.new.book c.in_ok-clear_behind-in-All.ensures.cleared later))

pub returns-in-Columns : goal.returns-in-Columns
returns-in-Columns c =
    let area : Area = c.args.area.now in
    on_ok_so c.clear_behind-in-Columns.result c.clear_behind-in-Columns.ensures.cleared
    (subst (λ (updates : Updates). BookUpdated area.sheet updates c.args.book.now c.clear_behind-in-Columns.new.book)
    (sym (ap (λ type. covered_cleared type area) c.in-Columns.is ∙ columns_emptied area c.requires.ends)))

pub returns-in-Rows : goal.returns-in-Rows
returns-in-Rows c =
    let area : Area = c.args.area.now in
    on_ok_so c.clear_behind-in-Rows.result c.clear_behind-in-Rows.ensures.cleared
    (subst (λ (updates : Updates). BookUpdated area.sheet updates c.args.book.now c.clear_behind-in-Rows.new.book)
    (sym (ap (λ type. covered_cleared type area) c.in-Rows.is ∙ rows_emptied area c.requires.ends)))
