use Rattle.dimension_ops.specs.Creating.{created_broken}
use Rattle.dimension_ops.proofs.Making.{told_err}
use Rattle.dimension_ops.proofs.creating.made_sheets.Goals as goal

pub returns-in-Err : goal.returns-in-Err
returns-in-Err c = (
  c.in_ok-making.making,
  c.in_ok-making.ensures.placed,
  told_err (created_broken c.args.books c.args.asked.now c.in_ok-making.making) c.in-Err.rule tt c.in_ok-making.making
      c.in-Err.ensures,
)
