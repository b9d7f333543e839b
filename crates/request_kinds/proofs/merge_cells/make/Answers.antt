use Rattle.std.proofs.Common.{refl, sym, ◌∙◌, [], ◌∷◌}
use Rattle.grid_range.specs.declared.area.Area.{Area}
use Rattle.grid_range.specs.declared.axis.Axis.TheVariants as axis
use Rattle.json_requests.specs.declared.request.MergeType.TheVariants as merge
use Rattle.merge_ranges.specs.Calls.{IsLeft}
use Rattle.merge_ranges.specs.Tests.{lines_of}
use Rattle.request_kinds.specs.MergeCells.{IsMergeAfter, parts_of}
use Rattle.request_kinds.proofs.MergesMade.{as_type, become_as, left_is_all, new_is_part, ok_so, on_ok_so}
use Rattle.request_kinds.proofs.merge_cells.make.Goals as goal

pub returns-in-All : goal.returns-in-All
returns-in-All c =
    let area : Area = c.args.area.now in
    ok_so c.uncut.result c.add_merge.result c.uncut.ensures c.add_merge.ensures.added
    (as_type c.args.merge_type merge.All area (area ∷ []) c.args.book.now c.add_merge.new.self c.in-All.is
    (new_is_part area (sym c.has_many_cells.ensures.test ∙ c.if-has_many_cells.true)))

pub returns-in-All-2 : goal.returns-in-All-2
returns-in-All-2 c =
    let area : Area = c.args.area.now in
    on_ok_so c.split.result c.split.ensures
    (λ become. as_type c.args.merge_type merge.All area (parts_of merge.All area) c.args.book.now c.split.new.book
    c.in-All-2.is refl
    (become_as area.sheet c.args.book.now c.split.new.book (IsLeft area) (IsMergeAfter merge.All area)
    (left_is_all area (sym c.has_many_cells.ensures.test ∙ c.if-has_many_cells.false)) become))

pub returns-in-Columns : goal.returns-in-Columns
returns-in-Columns c =
    let area : Area = c.args.area.now in
    ok_so c.uncut-in-Columns.result c.add_merges.result c.uncut-in-Columns.ensures c.add_merges.ensures.added
    (as_type c.args.merge_type merge.Columns area (lines_of axis.Columns area) c.args.book.now c.add_merges.new.self
    c.in-Columns.is refl)

pub returns-in-Rows : goal.returns-in-Rows
returns-in-Rows c =
    let area : Area = c.args.area.now in
    ok_so c.uncut-in-Rows.result c.add_merges-in-Rows.result c.uncut-in-Rows.ensures c.add_merges-in-Rows.ensures.added
    (as_type c.args.merge_type merge.Rows area (lines_of axis.Rows area) c.args.book.now c.add_merges-in-Rows.new.self
    c.in-Rows.is refl)
