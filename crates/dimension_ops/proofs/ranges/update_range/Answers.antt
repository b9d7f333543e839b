use Rattle.std.proofs.Common.{sym, subst}
use Rattle.std.specs.Prelude.{Err}
use Rattle.dimension_ops.specs.RangeRequests.{IsRangeUpdated}
use Rattle.dimension_ops.specs.Rules.{IsUnlessNoMemory}
use Rattle.dimension_ops.proofs.RangeAnswers.{update_done, update_refused}
use Rattle.dimension_ops.proofs.ranges.update_range.Goals as goal

pub returns-in-Err : goal.returns-in-Err
returns-in-Err c =
    subst (λ refusal. IsUnlessNoMemory
    (IsRangeUpdated c.args.id.now c.args.name c.args.area c.args.book.now c.update_name.new.self) (Err refusal))
    (sym c.refusal.ensures)
    (update_refused c.args.id.now c.args.name c.args.area c.args.book.now c.update_name.new.self c.in-Err.fault
    c.in-Err.ensures.no_id c.in-Err.ensures.bad_name c.in-Err.ensures.name_taken c.in-Err.ensures.no_other
    c.in-Err.ensures.unchanged)

pub returns : goal.returns
returns c =
    update_done c.changes_in_turn.ensures c.ranges_changed.ensures c.words_are_renamed.ensures c.args.id.now c.args.name
    c.args.area c.args.book.now c.update_name.new.self c.rename.new.book c.names_apart.ensures c.stays_sound.ensures
    c.requires c.update_name.result c.in_default.not-Err c.update_name.ensures.no_id c.update_name.ensures.bad_name
    c.update_name.ensures.name_taken c.update_name.ensures.updated c.in_ok-words.words c.in_ok-words.ensures
    c.in_ok-rename.ensures
