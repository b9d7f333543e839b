use Rattle.std.proofs.Common.{sym, subst}
use Rattle.dimension_ops.specs.Rules.{IsUnlessNoMemory}
use Rattle.request_kinds.specs.Telling.{IsDoneTo}
use Rattle.request_kinds.specs.UpdateNamedRange.{IsUpdateNamedRange}
use Rattle.request_kinds.proofs.update_named_range.update_named_range.Goals as goal

pub returns-in-None : goal.returns-in-None
returns-in-None c =
    subst (λ range. IsUnlessNoMemory
    (IsDoneTo (IsUpdateNamedRange c.args.id.now c.args.name.now range c.args.book.now) c.args.book.now
    c.set-in-None.new.book) c.set-in-None.result)
    (sym c.in-None.is) c.set-in-None.ensures
