use Rattle.std.proofs.Common.{◌-◌, sym, ap, subst, cond}
use Rattle.std.proofs.lemmas.Bool.{lt-ltb}
use Rattle.cell_store.specs.Moved.{size_after}
use Rattle.grid_range.specs.declared.change.Change.TheVariants.{Insert}
use Rattle.dimension_ops.specs.SetProperties.{IsSized}
use Rattle.dimension_ops.proofs.Setting.{on_ok}
use Rattle.dimension_ops.proofs.properties.extend.Goals as goal

pub returns-then-lines-given-clause-sized : goal.returns-then-lines-given-clause-sized
returns-then-lines-given-clause-sized c =
    on_ok c.make.result _ _
    (λ gets size others sized. subst (λ now. IsSized c.args.sheet now others c.make.new.book.sheets)
    (sym (ap
    (λ b. cond b (size_after c.args.axis (Insert c.args.lines (c.args.given - c.args.lines)) size.0 size.1) size)
    (lt-ltb c.args.lines c.args.given c.if-lines-given.true)))
    (gets size others sized))
    c.make.ensures.sized
