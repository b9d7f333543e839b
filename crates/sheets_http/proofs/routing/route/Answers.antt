use Rattle.std.proofs.Common.{Ok, ap, ◌∙◌}
use Rattle.sheets_http.proofs.RouteLemmas.{every_verb, call_found, routed, book_is_utf8, last_is_utf8, book_is_plain, last_is_plain}
use Rattle.sheets_http.proofs.routing.route.Goals as goal

pub route_call-requires-clause-book : goal.route_call-requires-clause-book
route_call-requires-clause-book c =
    book_is_utf8 c.in-Ok-Some.verb c.in-Ok-Some.fitted c.args.method.now c.split_target.result.0.now
    (call_found every_verb c.args.method.now c.split_target.result.0.now c.call_of.result c.in-Ok-Some.verb
    c.in-Ok-Some.fitted c.call_of.ensures (c.in-Ok-Some.is ∙ ap Ok c.in-Ok-Some.field-0-is))

pub route_call-requires-clause-last : goal.route_call-requires-clause-last
route_call-requires-clause-last c =
    last_is_utf8 c.in-Ok-Some.verb c.in-Ok-Some.fitted c.args.method.now c.split_target.result.0.now
    (call_found every_verb c.args.method.now c.split_target.result.0.now c.call_of.result c.in-Ok-Some.verb
    c.in-Ok-Some.fitted c.call_of.ensures (c.in-Ok-Some.is ∙ ap Ok c.in-Ok-Some.field-0-is))

pub route_call-requires-clause-plain_book : goal.route_call-requires-clause-plain_book
route_call-requires-clause-plain_book c = λ plain.
    book_is_plain c.in-Ok-Some.verb c.in-Ok-Some.fitted c.args.method.now c.split_target.result.0.now
    (call_found every_verb c.args.method.now c.split_target.result.0.now c.call_of.result c.in-Ok-Some.verb
    c.in-Ok-Some.fitted c.call_of.ensures (c.in-Ok-Some.is ∙ ap Ok c.in-Ok-Some.field-0-is))
    (c.is_plain-plain.ensures plain)

pub route_call-requires-clause-plain_last : goal.route_call-requires-clause-plain_last
route_call-requires-clause-plain_last c = λ plain.
    last_is_plain c.in-Ok-Some.verb c.in-Ok-Some.fitted c.args.method.now c.split_target.result.0.now
    (call_found every_verb c.args.method.now c.split_target.result.0.now c.call_of.result c.in-Ok-Some.verb
    c.in-Ok-Some.fitted c.call_of.ensures (c.in-Ok-Some.is ∙ ap Ok c.in-Ok-Some.field-0-is))
    (c.is_plain-plain.ensures plain)

pub returns-in-Ok-Some : goal.returns-in-Ok-Some
returns-in-Ok-Some c =
    routed c.in-Ok-Some.verb c.in-Ok-Some.fitted c.args.method.now c.args.target.now c.split_target.result.0.now
    c.split_target.result.1.now c.route_call.result c.split_target.ensures.path c.split_target.ensures.query
    (call_found every_verb c.args.method.now c.split_target.result.0.now c.call_of.result c.in-Ok-Some.verb
    c.in-Ok-Some.fitted c.call_of.ensures (c.in-Ok-Some.is ∙ ap Ok c.in-Ok-Some.field-0-is))
    c.route_call.ensures
