use Rattle.std.proofs.Common.{◌∙◌, sym}
use Rattle.std.proofs.lemmas.List.{append-nil}
use Rattle.request_kinds.specs.Metadata.{locations_of}
use Rattle.request_kinds.proofs.update_developer_metadata.locations_named.Goals as goal

pub returns-in-None : goal.returns-in-None
returns-in-None c =
    rw c.in-None.is (c.in_ok-locations.ensures ∙ sym (append-nil (locations_of c.args.asked.now)))
