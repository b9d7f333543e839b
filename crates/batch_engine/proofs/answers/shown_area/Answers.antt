use Rattle.batch_engine.proofs.Ranged.{area_read}
use Rattle.batch_engine.proofs.answers.shown_area.Goals as goal

pub returns-clause-shown : goal.returns-clause-shown
returns-clause-shown c =
    rw (c.unless_empty.ensures, c.axis_or_rows-axis.ensures)
    (area_read c.args.dimension c.args.render c.args.book.now c.args.area.now c.in_ok-range_text.field-0
    c.in_ok-shown.shown.values c.in_ok-range_text.ensures
    (rw (c.is_columns.ensures, c.axis_or_rows-axis.ensures, c.render_or_formatted-render.ensures)
    at c.in_ok-shown.ensures.values))
