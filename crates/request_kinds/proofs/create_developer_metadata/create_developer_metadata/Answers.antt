use Rattle.std.proofs.Common.{◌∙◌, sym}
use Rattle.request_kinds.proofs.MetadataMade.{creation_refused, item_created}
use Rattle.request_kinds.proofs.ProtectionsJudged.{none_broken}
use Rattle.request_kinds.proofs.create_developer_metadata.create_developer_metadata.Goals as goal

pub returns-in-Some : goal.returns-in-Some
returns-in-Some c =
    creation_refused c.args.project.now c.args.asked.now c.args.book.now c.args.book.now c.in-Some.rule
    (sym c.in-Some.ensures.broken)

pub created-requires-clause-within : goal.created-requires-clause-within
created-requires-clause-within c =
    c.broken.ensures.within (none_broken c.broken.result c.in_default.not-Some)

pub created-requires-clause-room : goal.created-requires-clause-room
created-requires-clause-room c =
    c.broken.ensures.room (none_broken c.broken.result c.in_default.not-Some)

pub returns : goal.returns
returns c =
    item_created c.args.project.now c.args.asked.now c.args.book.now c.created.new.book c.in_ok-id.id
    (sym c.broken.ensures.broken ∙ none_broken c.broken.result c.in_default.not-Some)
    c.in_ok-id.ensures.id c.in_ok-id.ensures.put c.in_ok-item_of.field-0 c.in_ok-item_of.ensures
