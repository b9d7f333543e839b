use Rattle.std.proofs.Common.{◌∙◌}
use Rattle.json_shapes.proofs.MemberLemmas.{are_null_of}
use Rattle.json_shapes.proofs.members.are_null.Goals as goal

pub returns : goal.returns
returns c = c.all_null.ensures ∙ are_null_of c.args.members.now.entries
