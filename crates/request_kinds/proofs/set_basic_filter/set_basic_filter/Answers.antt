use Rattle.std.proofs.Common.{◌≡◌, sym, subst, ◌∙◌}
use Rattle.dimension_ops.specs.Rules.{IsUnlessNoMemory}
use Rattle.request_kinds.specs.Telling.{IsDoneTo}
use Rattle.request_kinds.proofs.FilterPut.{filter_refused, filter_told}
use Rattle.request_kinds.proofs.set_basic_filter.set_basic_filter.Goals as goal

pub returns-in-Ok : goal.returns-in-Ok
returns-in-Ok c =
    subst (λ set. IsUnlessNoMemory (IsDoneTo (λ told. told ≡ set) c.args.book.now c.put.new.book) c.put.result)
    (filter_told c.args.asked.now c.args.book.now.sheets c.in-Ok.area (sym c.in-Ok.is ∙ c.judge.ensures.judged))
    c.put.ensures

pub returns-in-Err : goal.returns-in-Err
returns-in-Err c =
    filter_refused c.args.asked.now c.args.book.now.sheets c.in-Err.rule (sym c.in-Err.is ∙ c.judge.ensures.judged)
