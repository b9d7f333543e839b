use Rattle.std.proofs.Common.{rules, tests, ◌≡◌, ◌∙◌, sym, ap, List, ℕ, Bool, Some}
use Rattle.std.specs.List.{find}
use Rattle.std.specs.Str.{bytes_eq}
use Rattle.std.specs.Arc.{arc_value}
use Rattle.std.specs.Option.{option_map}
use Rattle.std.proofs.lemmas.Iterator.{YieldsList-from_slice}
use Rattle.std.proofs.lemmas.Iterator.Search.{find_from_yields_List}
use Rattle.world_model.specs.Book.{PlaceBook}
use Rattle.dimension_ops.proofs.Finding.{find-map, option_map-twice}
use Rattle.dimension_ops.proofs.world.World.find.Goals.{After-find}
use Rattle.dimension_ops.proofs.world.World.find.Goals as goal

-- the spreadsheet has the id
abbrev has_id : List ℕ → PlaceBook → Bool
has_id id book = bytes_eq book.id id

-- what is found among the shared spreadsheets is found among what they are
seen : (c : After-find) → option_map (λ book. arc_value book.now) c.find.result
    ≡ find (has_id c.args.id.now) c.args.self.now
seen c =
    option_map-twice (λ book. book.now) arc_value c.find.result
    ∙ ap (option_map arc_value) (find_from_yields_List (λ book. has_id c.args.id.now (arc_value book)) _ _ c.find.result
    c.find.ensures.ran (YieldsList-from_slice _ c.iter.ensures.rest) (λ x b q k. search (rules, tests)))
    ∙ ap (λ list. option_map arc_value (find (λ book. has_id c.args.id.now (arc_value book)) list))
    c.deref.ensures.value
    ∙ find-map (has_id c.args.id.now) arc_value c.self.inside.books.items
    ∙ ap (find (has_id c.args.id.now)) c.self.view_is

pub returns-in-Some : goal.returns-in-Some
returns-in-Some c =
    ap Some c.deref-in-Some.ensures
    ∙ ap (option_map (λ book. arc_value book.now)) (sym c.in-Some.is)
    ∙ seen (goal.at.returns-in-Some c).After-find

pub returns-in-None : goal.returns-in-None
returns-in-None c =
    ap (option_map (λ book. arc_value book.now)) (sym c.in-None.is)
    ∙ seen (goal.at.returns-in-None c).After-find
