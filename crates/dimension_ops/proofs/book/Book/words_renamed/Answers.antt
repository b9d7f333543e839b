use Rattle.std.proofs.Common.{refl, ◌∙◌, map}
use Rattle.std.specs.Arc.{arc_value}
use Rattle.dimension_ops.proofs.Marking.{kept_book}
use Rattle.dimension_ops.proofs.RenamedWords.{ids_stay}
use Rattle.dimension_ops.proofs.book.Book.words_renamed.Goals as goal

pub invariant_of-result : goal.invariant_of-result
invariant_of-result c =
    let before = map arc_value c.self.inside.sheets.items in
    let renamed = map arc_value c.in_ok-sheets.sheets.items in (
      c.words_are_renamed.ensures.stays
          (kept_book c.self.inside before) (kept_book c.self.inside renamed)
          c.args.old.now c.args.new.now c.self.invariant.0
          (record {
            id = refl;
            title = refl;
            owner = refl;
            sheets = c.in_ok-sheets.ensures;
            ranges = refl;
            protections = refl;
            metadata = refl;
          }),
      c.self.invariant.1 ∙ ids_stay c.args.old.now c.args.new.now before renamed c.in_ok-sheets.ensures,
    )
