use Rattle.std.proofs.Common.{sym, ◌∙◌}
use Rattle.dimension_ops.proofs.Setting.{judged_set, same_size}
use Rattle.dimension_ops.proofs.properties.judge.Goals as goal

pub returns-in-None-clause-unbroken : goal.returns-in-None-clause-unbroken
returns-in-None-clause-unbroken c =
    let found = c.in-Some.found.now in
    judged_set c.args.sheet c.args.properties.now c.args.book.now.sheets found (c.rows.result, c.cols.result)
    c.size_given-given.result c.places_with.result (sym c.in-Some.ensures) c.stays_sound.ensures.distinct
    (same_size c.rows.result c.cols.result found c.rows.ensures c.cols.ensures) c.size_given-given.ensures
    c.places_with.ensures (sym c.is_bad_title.ensures ∙ c.if-is_bad_title.false)
    (sym c.is_title_of_another.ensures ∙ c.if-is_title_of_another.false)
    (sym c.has_no_line.ensures ∙ c.if-has_no_line.false) (sym c.hides_the_last.ensures ∙ c.if-hides_the_last.false)
    (sym c.first_past.ensures ∙ c.in-None.is)
