use Rattle.batch_engine.proofs.Created.{made_refused, made_told}
use Rattle.batch_engine.proofs.create.make.Goals as goal

pub returns-in_ok-shown_at-in-Ok : goal.returns-in_ok-shown_at-in-Ok
returns-in_ok-shown_at-in-Ok c =
    made_told c.args.owner.now c.title_or_untitled.result.now c.args.asked.now c.args.world.now c.in_ok-next.next
    c.add_book.new.self c.in_ok-next.ensures c.title_or_untitled.ensures c.in-Ok.field-0 c.in_ok-shown_at-in-Ok.field-0
    c.count.result c.count.ensures.count c.in-Ok.ensures.added c.in_ok-shown_at-in-Ok.ensures

pub returns-in-Err : goal.returns-in-Err
returns-in-Err c =
    made_refused c.args.owner.now c.title_or_untitled.result.now c.args.asked.now c.args.world.now c.in_ok-next.next
    c.add_book.new.self c.in_ok-next.ensures c.title_or_untitled.ensures c.in-Err.fault c.in-Err.ensures.added
