use Rattle.request_kinds.proofs.MetadataMade.{put_in}
use Rattle.request_kinds.proofs.create_developer_metadata.created.Goals as goal

pub returns-in-Ok-clause-put : goal.returns-in-Ok-clause-put
returns-in-Ok-clause-put c =
    put_in c.args.project.now c.args.asked.now c.args.book.now c.create_item.new.self c.in-Ok.id c.in_ok-key.key
    c.in_ok-value.value c.spot_of-spot.result c.in_ok-visibility.visibility c.in_ok-key.ensures c.in_ok-value.ensures
    c.spot_of-spot.ensures c.in_ok-visibility.ensures c.in-Ok.ensures.added
