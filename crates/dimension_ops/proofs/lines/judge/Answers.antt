use Rattle.std.proofs.Common.{◌≡◌, sym, ap, subst, ◌∙◌}
use Rattle.std.specs.Prelude.{IfSome}
use Rattle.cell_store.specs.Moved.{lines_on}
use Rattle.merge_ranges.specs.Following.{AreWithin}
use Rattle.world_model.specs.Sound.{IsSheetSound}
use Rattle.dimension_ops.specs.FollowLaws.{merges_within}
use Rattle.dimension_ops.specs.Lines.{lines_of_sheet}
use Rattle.dimension_ops.proofs.PastLines.{found_holds}
use Rattle.dimension_ops.proofs.lines.judge.Goals as goal

pub tears-requires-clause-within : goal.tears-requires-clause-within
tears-requires-clause-within c =
    let sheets = c.args.book.now.sheets in
    let found = c.in-Some.found.now in
    let count : c.lines_on-count.result ≡ lines_of_sheet c.args.axis found =
    c.lines_on-count.ensures ∙ ap (λ n. lines_on c.args.axis n c.cols-cols.result) c.rows-rows.ensures
    ∙ ap (lines_on c.args.axis found.table.rows) c.cols-cols.ensures in
    subst (λ n. AreWithin c.args.axis n c.merges.result.now) (sym count)
    (subst (AreWithin c.args.axis (lines_of_sheet c.args.axis found)) (sym c.merges.ensures)
    (merges_within c.args.axis sheets found (subst (λ one. IfSome one (IsSheetSound sheets)) (sym c.in-Some.ensures)
    (found_holds (IsSheetSound sheets) c.args.sheet sheets c.stays_sound.ensures.sheets))))
