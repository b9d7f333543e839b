use Rattle.std.proofs.Common.{◌∙◌, Some, None}
use Rattle.json_shapes.proofs.MemberLemmas.{given_of, without_of}
use Rattle.json_shapes.proofs.members.take_given.Goals as goal

pub returns-in-Some-clause-value : goal.returns-in-Some-clause-value
returns-in-Some-clause-value c =
    c.unless_null.ensures
    ∙ given_of c.args.name.now c.args.members.now.entries (Some c.in-Some.value) c.in-Some.ensures.value

pub returns-in-Some-clause-left : goal.returns-in-Some-clause-left
returns-in-Some-clause-left c =
    rw c.in-Some.ensures.entries (without_of c.args.name.now c.args.members.now.entries)

pub returns-in-None-clause-value : goal.returns-in-None-clause-value
returns-in-None-clause-value c = given_of c.args.name.now c.args.members.now.entries None c.in-None.ensures.value

pub returns-in-None-clause-left : goal.returns-in-None-clause-left
returns-in-None-clause-left c =
    rw c.in-None.ensures.entries (without_of c.args.name.now c.args.members.now.entries)
