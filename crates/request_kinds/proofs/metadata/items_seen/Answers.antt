use Rattle.std.proofs.Common.{◌++◌, ◌∷◌, [], ap, ◌∙◌, get_or}
use Rattle.std.proofs.lemmas.List.{get_or_default}
use Rattle.dev_metadata.specs.Listed.{seen_with_id}
use Rattle.request_kinds.specs.Metadata.{items_seen}
use Rattle.request_kinds.specs.ListingLaws.{more_listed}
use Rattle.request_kinds.proofs.metadata.items_seen.Goals as goal

pub loop-id-preserved : goal.loop-id-preserved
loop-id-preserved c =
    let project = c.args.project.now in
    let metadata = c.args.metadata.now in
    let ids = c.args.ids.now in
    let at = c.loop-id.id-index in
    let id = get_or ids at 0 in
    c.in_ok-put_seen.ensures
    ∙ ap (λ before. before ++ items_seen project (id ∷ []) metadata) c.loop-id.invariant
    ∙ more_listed (λ id. seen_with_id id project metadata) ids at id c.loop-id-test.true
    (get_or_default ids at 0 id c.loop-id-test.true)
