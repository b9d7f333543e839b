use Rattle.std.proofs.Common.{ap, ◌∙◌}
use Rattle.std.specs.List.{count_by}
use Rattle.dimension_ops.specs.References.{is_formula_at}
use Rattle.dimension_ops.proofs.Formulas.{marked_counted}
use Rattle.dimension_ops.proofs.following.count_formulas.Goals as goal

pub returns : goal.returns
returns c = c.formulas_among.ensures ∙ ap (count_by (is_formula_at c.args.cells.now.table)) c.deref.ensures.value
    ∙ marked_counted c.formulas_counted.ensures c.tables_by_items.ensures c.args.cells.now.table
    c.args.marks.now.table c.in_ok-places.places.items c.requires c.in_ok-places.ensures
