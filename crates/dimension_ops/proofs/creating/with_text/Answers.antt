use Rattle.std.proofs.Common.{true, ◌∙◌}
use Rattle.std.specs.BTreeSet.{contains_text}
use Rattle.std.specs.Str.{bytes_eq}
use Rattle.std.specs.String.{string_bytes}
use Rattle.std.proofs.lemmas.Map.Text.{btree_set_updates_text}
use Rattle.dimension_ops.proofs.Making.{or_cond}
use Rattle.dimension_ops.proofs.creating.with_text.Goals as goal

pub returns : goal.returns
returns c = λ other.
    btree_set_updates_text (string_bytes c.args.text) c.args.texts c.insert.new.self true c.in_ok-insert.ensures.updates
    other
    ∙ or_cond (bytes_eq (string_bytes c.args.text) other) (contains_text c.args.texts other)
