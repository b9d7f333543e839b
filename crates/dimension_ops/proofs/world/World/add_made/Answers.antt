use Rattle.std.proofs.Common.{ap, ◌∙◌}
use Rattle.world_model.specs.Book.{PlaceBook}
use Rattle.dimension_ops.specs.Creating.{book_id}
use Rattle.dimension_ops.proofs.Making.{book_made}
use Rattle.dimension_ops.proofs.world.World.add_made.Goals as goal

pub push-requires-clause-numbered : goal.push-requires-clause-numbered
push-requires-clause-numbered c =
    ap (λ (book : PlaceBook). book.id) c.in_ok-book.ensures
    ∙ ap (λ (book : PlaceBook). book.id)
    (book_made (book_id c.count-others.result) c.args.title.now c.args.owner.now c.args.making.now)
    ∙ ap book_id c.count-others.ensures.count
