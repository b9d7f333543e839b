use Rattle.std.proofs.Common.{subst}
use Rattle.named_ranges.specs.Listed.{AreNames}
use Rattle.world_model.specs.Book.{PlaceBook}
use Rattle.dimension_ops.proofs.book.Book.names_apart.Goals as goal

pub returns : goal.returns
returns c = subst (λ (book : PlaceBook). AreNames book.ranges) c.self.view_is c.list-first.ensures.names
