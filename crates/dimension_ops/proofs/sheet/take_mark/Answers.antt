use Rattle.dimension_ops.proofs.Marked.{taken_marked}
use Rattle.dimension_ops.proofs.sheet.take_mark.Goals as goal

pub returns-then-formulas-eq0 : goal.returns-then-formulas-eq0
returns-then-formulas-eq0 c = λ table none marked.
    taken_marked c.take.result table c.args.marks.now.table c.take.new.self.table c.args.row c.args.column
    c.take.ensures.taken c.take.ensures.unchanged (none c.if-formulas-eq0.true) marked
