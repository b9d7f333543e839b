use Rattle.std.proofs.Common.{rules, tests, ◌≡◌, ◌∙◌, sym, ap, ℕ, Bool, Some}
use Rattle.std.specs.Prelude.{List}
use Rattle.std.specs.Str.{str_eq_ignore_ascii_case}
use Rattle.std.specs.List.{find}
use Rattle.std.specs.Arc.{arc_value}
use Rattle.std.specs.Option.{option_map}
use Rattle.std.proofs.lemmas.Iterator.{YieldsList-from_slice}
use Rattle.std.proofs.lemmas.Iterator.Search.{find_from_yields_List}
use Rattle.world_model.specs.Sheet.{PlaceSheet}
use Rattle.dimension_ops.proofs.Finding.{find-map, option_map-twice}
use Rattle.dimension_ops.proofs.book.Book.titled.Goals.{After-find}
use Rattle.dimension_ops.proofs.book.Book.titled.Goals as goal

-- the sheet has the title
abbrev has_title : List ℕ → PlaceSheet → Bool
has_title title sheet = str_eq_ignore_ascii_case sheet.title title

-- what is found among the shared sheets is found among what they are
seen : (c : After-find) → option_map (λ sheet. arc_value sheet.now) c.find.result
    ≡ find (has_title c.args.title.now) c.args.self.now.sheets
seen c =
    option_map-twice (λ sheet. sheet.now) arc_value c.find.result
    ∙ ap (option_map arc_value)
    (find_from_yields_List (λ sheet. has_title c.args.title.now (arc_value sheet)) _ _ c.find.result
    c.find.ensures.ran (YieldsList-from_slice _ c.iter.ensures.rest) (λ x b q k. search (rules, tests)))
    ∙ ap (λ list. option_map arc_value (find (λ sheet. has_title c.args.title.now (arc_value sheet)) list))
    c.deref.ensures.value
    ∙ find-map (has_title c.args.title.now) arc_value c.self.inside.sheets.items
    ∙ ap (λ book. find (has_title c.args.title.now) book.sheets) c.self.view_is

pub returns-in-Some : goal.returns-in-Some
returns-in-Some c =
    ap Some c.deref-in-Some.ensures
    ∙ ap (option_map (λ sheet. arc_value sheet.now)) (sym c.in-Some.is)
    ∙ seen (goal.at.returns-in-Some c).After-find

pub returns-in-None : goal.returns-in-None
returns-in-None c =
    ap (option_map (λ sheet. arc_value sheet.now)) (sym c.in-None.is)
    ∙ seen (goal.at.returns-in-None c).After-find
