use Rattle.std.proofs.Common.{ap, sym, subst, ◌∙◌, arith}
use Rattle.world_model.specs.Counts.{formulas_at, formulas_in}
use Rattle.dimension_ops.specs.References.{AreMarked}
use Rattle.dimension_ops.proofs.Marked.{none_written, written_marked}
use Rattle.dimension_ops.proofs.sheet.Sheet.put.Goals as goal

pub invariant_of-self : goal.invariant_of-self
invariant_of-self c = (
  c.self.invariant.0,
  c.put_mark.ensures.others c.self.inside.cells.table c.self.invariant.1,
)

pub invariant_of-self-in_err-old : goal.invariant_of-self-in_err-old
invariant_of-self-in_err-old c = (
  c.self.invariant.0 ∙ sym (ap formulas_in c.in_err-old.ensures.unchanged),
  subst (λ table. AreMarked table c.put_mark.new.marks.table) (sym c.in_err-old.ensures.unchanged)
      (c.put_mark.ensures.others c.self.inside.cells.table c.self.invariant.1),
)

pub invariant_of-self-2 : goal.invariant_of-self-2
invariant_of-self-2 c =
    let table = c.self.inside.cells.table in
    let after = c.exchange.new.cells.table in
    let put = c.in_ok-old.ensures.put in
    let counted =
    c.formulas_counted.ensures.written c.self.inside.cells.table c.args.row c.args.column c.args.content in (
      omega (
        arith,
        c.self.invariant.0,
        c.formulas_at-added.ensures,
        c.formulas_at-taken.ensures,
        counted,
        ap formulas_in c.in_ok-old.ensures.put,
        ap formulas_at c.in_ok-old.ensures.old,
      ),
      c.take_mark.ensures after
          (λ none. none_written table after c.args.row c.args.column c.args.content put
          (sym c.formulas_at-added.ensures ∙ none))
          (written_marked table after c.put_mark.new.marks.table c.args.row c.args.column c.args.content put
          (λ some. c.in_ok-put_mark.ensures.marked (omega (arith, some, c.formulas_at-added.ensures)))
          (c.put_mark.ensures.others table c.self.invariant.1)),
    )
