use Rattle.std.proofs.Common.{rules, sym, subst}
use Rattle.std.proofs.lemmas.Fn.{filter_same}
use Rattle.dimension_ops.specs.References.{AreReferring, refers_at, refers_to}
use Rattle.dimension_ops.proofs.Becoming.{such_marked}
use Rattle.dimension_ops.proofs.Formulas.{formula_then}
use Rattle.dimension_ops.proofs.following.references.Goals as goal

pub returns : goal.returns
returns c =
    subst (AreReferring c.args.sheet c.args.cells.now.table)
    (sym (filter_same _ (refers_at c.args.sheet c.args.cells.now.table) _ (λ x b f' k. (search rules, search rules)) _ _
    c.retain.ensures.filtered))
    (such_marked (refers_to c.args.sheet) (formula_then c.args.sheet) c.args.cells.now.table c.args.marks.now.table
    c.in_ok-places.places.items c.requires c.in_ok-places.ensures)
