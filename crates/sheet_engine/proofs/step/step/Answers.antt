use Rattle.std.proofs.Common.{Ok, Err, sym, ◌∙◌}
use Rattle.sheet_engine.specs.declared.fault.Fault.TheVariants as fault
use Rattle.sheet_engine.proofs.AsRead.{has_its_book, is_faulty, is_lacking, is_said, performs, refuses}
use Rattle.sheet_engine.proofs.step.step.Goals as goal

pub returns-in-Faulty : goal.returns-in-Faulty
returns-in-Faulty c =
    let books = c.args.world.now in let ask = c.args.ask.now in let one = c.in-Faulty in
    refuses books ask one.fault c.refused.result.told c.refused.result.next
    (is_faulty books ask c.args.reading.now one.fault one.is c.requires) c.refused.ensures.0 c.refused.ensures.1

pub returns-then-lacks_its_book : goal.returns-then-lacks_its_book
returns-then-lacks_its_book c =
    let books = c.args.world.now in let ask = c.args.ask.now in let one = c.in-Routed in
    refuses books ask fault.NoBook c.refused-then-lacks_its_book.result.told c.refused-then-lacks_its_book.result.next
    (is_lacking books ask c.args.reading.now one.caller one.route one.said one.is c.requires
    (sym c.lacks_its_book.ensures ∙ c.if-lacks_its_book.true))
    c.refused-then-lacks_its_book.ensures.0 c.refused-then-lacks_its_book.ensures.1

pub called-requires : goal.called-requires
called-requires c =
    let one = c.in-Routed in
    has_its_book c.args.world.now c.args.ask.now c.args.reading.now one.caller one.route one.said c.in-Ok.call one.is
    c.requires (sym c.lacks_its_book.ensures ∙ c.if-lacks_its_book.false) c.in-Ok.is

pub returns-in-Ok : goal.returns-in-Ok
returns-in-Ok c =
    let books = c.args.world.now in let ask = c.args.ask.now in let one = c.in-Routed in
    performs books ask one.caller c.in-Ok.call c.called.result
    (is_said books ask c.args.reading.now one.caller one.route one.said (Ok c.in-Ok.call) one.is c.requires
    (sym c.lacks_its_book.ensures ∙ c.if-lacks_its_book.false) c.in-Ok.is)
    c.called.ensures

pub returns-in-Err : goal.returns-in-Err
returns-in-Err c =
    let books = c.args.world.now in let ask = c.args.ask.now in let one = c.in-Routed in
    refuses books ask c.in-Err.fault c.refused-in-Err.result.told c.refused-in-Err.result.next
    (is_said books ask c.args.reading.now one.caller one.route one.said (Err c.in-Err.fault) one.is c.requires
    (sym c.lacks_its_book.ensures ∙ c.if-lacks_its_book.false) c.in-Err.is)
    c.refused-in-Err.ensures.0 c.refused-in-Err.ensures.1
