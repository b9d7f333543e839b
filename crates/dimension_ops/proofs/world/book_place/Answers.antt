-- The place in the list of shared spreadsheets is that among what they are.
use Rattle.std.proofs.Common.{rules, tests, ◌∙◌, List, ℕ, Bool}
use Rattle.std.specs.Str.{bytes_eq}
use Rattle.std.specs.Arc.{arc_value}
use Rattle.std.proofs.lemmas.Iterator.{YieldsList-from_slice}
use Rattle.std.proofs.lemmas.Iterator.Search.{position_from_yields_List}
use Rattle.std.proofs.lemmas.Iterator.Adapters.{position_from-zero}
use Rattle.world_model.specs.Book.{PlaceBook}
use Rattle.dimension_ops.proofs.Finding.{position_from-map}
use Rattle.dimension_ops.proofs.world.book_place.Goals as goal

-- the spreadsheet has the id
abbrev has_id : List ℕ → PlaceBook → Bool
has_id id book = bytes_eq book.id id

pub returns : goal.returns
returns c =
    position_from_yields_List (λ book. has_id c.args.id.now (arc_value book)) _ _ c.position.result
    c.position.ensures.ran (YieldsList-from_slice _ c.iter.ensures.rest) (λ x b q k. search (rules, tests))
    ∙ position_from-zero (λ book. has_id c.args.id.now (arc_value book)) c.args.books.now
    ∙ position_from-map (has_id c.args.id.now) arc_value c.args.books.now 0
