use Rattle.sheets_json.specs.declared.answer.Answer.TheVariants as answer
use Rattle.batch_engine.specs.Values.{IsWritten}
use Rattle.batch_engine.proofs.Ranged.{made_alone}
use Rattle.batch_engine.proofs.answers.write.Goals as goal

pub returns : goal.returns
returns c =
    made_alone (IsWritten c.args.user.now c.args.range.now c.args.book.now c.args.values.now)
    (λ wrote. answer.Write wrote.0)
    c.args.book.now c.written.new.book (c.in_ok-update.update, c.in_ok-update.field-0-1)
    (rw c.in_ok-after.ensures at c.in_ok-update.ensures)
