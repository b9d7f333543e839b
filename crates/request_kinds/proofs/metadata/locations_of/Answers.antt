use Rattle.std.proofs.Common.{◌++◌, ◌∷◌, [], ap, ◌∙◌}
use Rattle.json_requests.specs.declared.request.MetadataLookup.{MetadataLookup}
use Rattle.request_kinds.specs.Metadata.{locations_of}
use Rattle.request_kinds.specs.ListingLaws.{more_listed}
use Rattle.request_kinds.proofs.metadata.locations_of.Goals as goal

pub loop-one-preserved : goal.loop-one-preserved
loop-one-preserved c =
    let one = c.one-item.result in
    c.in_ok-put_location.ensures
    ∙ ap (λ before. before ++ locations_of (one ∷ [])) c.loop-one.invariant
    ∙ more_listed (λ (one : MetadataLookup). one.metadata_location) c.args.asked.now c.loop-one.one-index one
    c.loop-one-test.true c.one-item.is
