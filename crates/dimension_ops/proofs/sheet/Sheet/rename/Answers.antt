use Rattle.std.proofs.Common.{sym, ap, subst, ◌∙◌}
use Rattle.std.specs.Option.{option_map}
use Rattle.cell_store.specs.Table.{item_at}
use Rattle.world_model.specs.RangeChange.{content_renamed}
use Rattle.world_model.specs.Sheet.{PlaceSheet}
use Rattle.dimension_ops.specs.Renaming.{AreNaming, has_word}
use Rattle.dimension_ops.proofs.Becoming.{cols_stay, items_become, rows_stay}
use Rattle.dimension_ops.proofs.Marked.{kept_marked}
use Rattle.dimension_ops.proofs.RenamedWords.{content_stays}
use Rattle.dimension_ops.proofs.sheet.Sheet.rename.Goals as goal

pub returns : goal.returns
returns c =
    let are =
    subst (λ (sheet : PlaceSheet). AreNaming c.args.old.now sheet.table c.args.places.now) (sym c.self.view_is)
    c.requires.places in
    let becomes = content_renamed c.args.old.now c.args.new.now in
    let stays = content_stays c.args.old.now c.args.new.now in
    record {
      id = ap (λ (sheet : PlaceSheet). sheet.id) c.self.view_is;
      title = ap (λ (sheet : PlaceSheet). sheet.title) c.self.view_is;
      hidden = ap (λ (sheet : PlaceSheet). sheet.hidden) c.self.view_is;
      merges = ap (λ (sheet : PlaceSheet). sheet.merges) c.self.view_is;
      filter = ap (λ (sheet : PlaceSheet). sheet.filter) c.self.view_is;
      rows = ap (λ table. table.rows) c.in_ok-rename_places.ensures.renamed
          ∙ rows_stay becomes (has_word c.args.old.now) stays c.self.inside.cells.table c.args.places.now are
          ∙ ap (λ (sheet : PlaceSheet). sheet.table.rows) c.self.view_is;
      cols = ap (λ table. table.cols) c.in_ok-rename_places.ensures.renamed
          ∙ cols_stay becomes (has_word c.args.old.now) stays c.self.inside.cells.table c.args.places.now are
          ∙ ap (λ (sheet : PlaceSheet). sheet.table.cols) c.self.view_is;
      items = λ row col.
          ap (λ table. item_at table row col) c.in_ok-rename_places.ensures.renamed
          ∙ items_become becomes (has_word c.args.old.now) stays c.self.inside.cells.table c.args.places.now are row col
          ∙ ap (λ (sheet : PlaceSheet). option_map (content_renamed c.args.old.now c.args.new.now)
          (item_at sheet.table row col)) c.self.view_is;
    }

pub invariant_of-self : goal.invariant_of-self
invariant_of-self c = (
  c.self.invariant.0 ∙ sym c.rename_places.ensures.formulas.count,
  kept_marked c.self.inside.cells.table c.rename_places.new.cells.table c.self.inside.marks.table
      c.rename_places.ensures.formulas c.self.invariant.1,
)

pub invariant_of-self-2 : goal.invariant_of-self-2
invariant_of-self-2 c = (
  c.self.invariant.0 ∙ sym c.rename_places.ensures.formulas.count,
  kept_marked c.self.inside.cells.table c.rename_places.new.cells.table c.self.inside.marks.table
      c.rename_places.ensures.formulas c.self.invariant.1,
)
