use Rattle.std.proofs.Common.{subst, sym}
use Rattle.dimension_ops.specs.Rules.{IsUnlessNoMemory}
use Rattle.request_kinds.specs.Telling.{IsDoneTo}
use Rattle.batch_engine.specs.Values.{IsCleared}
use Rattle.batch_engine.proofs.lists.cleared_range.Goals as goal

pub returns-in-Ok : goal.returns-in-Ok
returns-in-Ok c =
    subst (λ range. IsUnlessNoMemory
    (IsDoneTo (IsCleared c.args.user.now c.args.book.now range) c.args.book.now c.emptied.new.book)
    c.emptied.result)
    (sym c.in-Ok.is) (rw c.as_str.ensures at c.emptied.ensures)
