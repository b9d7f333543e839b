use Rattle.std.proofs.Common.{rules, tests, ◌∙◌, ap, Bool, ℕ, ◌||◌}
use Rattle.std.specs.Prelude.{◌==◌}
use Rattle.std.specs.Arc.{arc_value}
use Rattle.std.specs.List.{list_all}
use Rattle.std.proofs.lemmas.Iterator.{YieldsList-from_slice}
use Rattle.std.proofs.lemmas.Iterator.Search.{all_from_yields_List}
use Rattle.world_model.specs.Sheet.{PlaceSheet}
use Rattle.world_model.specs.SheetChange.{other_sheets}
use Rattle.dimension_ops.proofs.LostReferences.{others_are_hidden}
use Rattle.dimension_ops.proofs.book.Book.others_hidden.Goals as goal

-- the sheet is that one, or hidden
abbrev passes : ℕ → PlaceSheet → Bool
passes id sheet = sheet.id == id || sheet.hidden

pub returns : goal.returns
returns c =
    all_from_yields_List (λ sheet. passes c.args.sheet (arc_value sheet)) _ _ c.all.result
    c.all.ensures.ran (YieldsList-from_slice _ c.iter.ensures.rest) (λ x b q k. search (rules, tests))
    ∙ ap (λ list. list_all (λ sheet. passes c.args.sheet (arc_value sheet)) list) c.deref.ensures.value
    ∙ others_are_hidden arc_value c.args.sheet c.self.inside.sheets.items
    ∙ ap (λ book. list_all (λ (sheet : PlaceSheet). sheet.hidden) (other_sheets c.args.sheet book.sheets))
    c.self.view_is
