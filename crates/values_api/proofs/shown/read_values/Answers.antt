use Rattle.std.proofs.Common.{◌≡◌, Some, sym, ◌∙◌, ap, subst}
use Rattle.std.specs.Prelude.{IfSome}
use Rattle.std.specs.Option.{option_copied}
use Rattle.cell_calc.specs.Marks.{values_of}
use Rattle.world_model.specs.Sound.{place_sheet_with}
use Rattle.values_api.specs.Reading.{value_told}
use Rattle.values_api.specs.Shown.{IsAreaShown}
use Rattle.values_api.proofs.CellsShown.{values_shown}
use Rattle.values_api.proofs.LinesRead.{read_of}
use Rattle.values_api.proofs.shown.read_values.Goals.{in-Some+in_ok-values, in_default}
use Rattle.values_api.proofs.shown.read_values.Goals as goal

pub returns-clause-values : goal.returns-clause-values
returns-clause-values c = elim c.match-sheet.branch [
  | in-Some+in_ok-values w ↦
      let book = c.args.book.now in
      let area = c.args.area.now in
      let told = values_of c.args.table.now in
      let sheet = w.in-Some.sheet.now in
      let there : place_sheet_with area.sheet book.sheets ≡ Some sheet = sym c.sheet.ensures
      ∙ ap option_copied w.in-Some.is in
      subst (λ found. IfSome found
      (λ one. IsAreaShown book area c.args.columns_first c.args.render one c.match-sheet.values))
      (sym there) (record {
        values = value_told area sheet told;
        values_are = values_shown c.stored_values.ensures book area sheet there told c.args.render c.requires.told;
        lines_are = w.values-is ∙ w.in_ok-values.ensures
            ∙ read_of (record {
              alloc = c.args.alloc;
              names = w.of.result;
              sheet = w.in-Some.sheet;
              table = c.args.table;
              area = c.args.area;
              columns_first = c.args.columns_first;
              render = c.args.render;
            }) c.args.book.now w.of.ensures;
      })
  | in_default w ↦ subst (λ found. IfSome found (λ sheet. IsAreaShown c.args.book.now c.args.area.now
      c.args.columns_first c.args.render sheet c.match-sheet.values))
      (sym (ap option_copied w.in_default.is) ∙ c.sheet.ensures) tt
]
