use Rattle.std.proofs.Common.{◌≡◌, sym, ap, subst, ◌∙◌, map}
use Rattle.std.specs.Arc.{arc_value}
use Rattle.std.specs.List.{insert}
use Rattle.world_model.specs.Sheet.{PlaceSheet}
use Rattle.world_model.specs.SheetChange.{place_sheet_added}
use Rattle.world_model.specs.Sound.{IsSound}
use Rattle.dimension_ops.proofs.Inserting.{map-insert}
use Rattle.dimension_ops.proofs.Marking.{kept_book}
use Rattle.dimension_ops.proofs.book.Book.insert.Goals.{After-drop-self-inside}
use Rattle.dimension_ops.proofs.book.Book.insert.Goals as goal

-- the sheets after
sheets_after : (c : After-drop-self-inside) → map arc_value c.insert.new.self.items
    ≡ insert (map arc_value c.self.inside.sheets.items) c.args.at c.args.sheet
sheets_after c =
    ap (map arc_value) c.in_ok-insert.ensures.items
    ∙ map-insert arc_value c.self.inside.sheets.items c.args.at c.in_ok-shared.shared
    ∙ ap (insert (map arc_value c.self.inside.sheets.items) c.args.at) c.in_ok-shared.ensures

book_after : (c : After-drop-self-inside)
    → kept_book c.self.inside (map arc_value c.insert.new.self.items)
    ≡ place_sheet_added c.args.at c.args.sheet c.args.self.now
book_after c =
    ap (kept_book c.self.inside) (sheets_after c)
    ∙ ap (place_sheet_added c.args.at c.args.sheet) c.self.view_is

pub invariant_of-self-2 : goal.invariant_of-self-2
invariant_of-self-2 c = (
  subst IsSound (sym (book_after c)) c.requires.sound,
  c.in_ok-ids.ensures
      ∙ ap (insert c.self.inside.ids c.args.at) c.id.ensures
      ∙ ap (λ ids. insert ids c.args.at c.args.sheet.id) c.self.invariant.1
      ∙ sym (map-insert (λ (sheet : PlaceSheet). sheet.id) (map arc_value c.self.inside.sheets.items) c.args.at
      c.args.sheet)
      ∙ sym (ap (map (λ (sheet : PlaceSheet). sheet.id)) (sheets_after c)),
)

pub returns-clause-added : goal.returns-clause-added
returns-clause-added c = book_after c
