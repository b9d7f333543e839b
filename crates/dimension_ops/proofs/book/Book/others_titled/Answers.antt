use Rattle.std.proofs.Common.{rules, tests, ◌∙◌, ap, Bool, ℕ, ◌&&◌, List, not}
use Rattle.std.specs.Prelude.{◌==◌}
use Rattle.std.specs.Arc.{arc_value}
use Rattle.std.specs.List.{list_any}
use Rattle.std.specs.Str.{str_eq_ignore_ascii_case}
use Rattle.std.proofs.lemmas.Iterator.{YieldsList-from_slice}
use Rattle.std.proofs.lemmas.Iterator.Search.{any_from_yields_List}
use Rattle.world_model.specs.Sheet.{PlaceSheet}
use Rattle.world_model.specs.SheetChange.{other_sheets}
use Rattle.dimension_ops.specs.SheetRequests.{has_title}
use Rattle.dimension_ops.proofs.Setting.{others_have_title}
use Rattle.dimension_ops.proofs.book.Book.others_titled.Goals as goal

-- the sheet is another one with the title
abbrev passes : ℕ → List ℕ → PlaceSheet → Bool
passes id title sheet = not (sheet.id == id) && str_eq_ignore_ascii_case sheet.title title

pub returns : goal.returns
returns c =
    any_from_yields_List (λ sheet. passes c.args.sheet c.args.title.now (arc_value sheet)) _ _ c.any.result
    c.any.ensures.ran (YieldsList-from_slice _ c.iter.ensures.rest) (λ x b q k. search (rules, tests))
    ∙ ap (λ list. list_any (λ sheet. passes c.args.sheet c.args.title.now (arc_value sheet)) list) c.deref.ensures.value
    ∙ others_have_title arc_value c.args.sheet c.args.title.now c.self.inside.sheets.items
    ∙ ap (λ book. has_title (other_sheets c.args.sheet book.sheets) c.args.title.now) c.self.view_is
