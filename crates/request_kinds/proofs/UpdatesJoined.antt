-- One update of a spreadsheet after another is one update.
use Rattle.std.proofs.Common.{◌≡◌, ℕ, ◌∙◌, sym, ap, Bool, true, false, List, [], ◌∷◌}
use Rattle.std.specs.Prelude.{◌==◌, Option, unwrap_or, if◌then◌else◌}
use Rattle.std.specs.List.{AllZip}
use Rattle.cell_store.specs.Table.{item_at}
use Rattle.ref_rewrite.specs.declared.cell_content.Content.{Content}
use Rattle.world_model.specs.Book.{PlaceBook}
use Rattle.world_model.specs.Sheet.{PlaceSheet}
use Rattle.world_model.specs.Updating.{BookUpdated, SheetUpdated, Updates}

module _ (id : ℕ) (one later both : Updates) (same : (row col : ℕ) (held : Option Content)
    → unwrap_or (both row col) held ≡ unwrap_or (later row col) (unwrap_or (one row col) held)) where
  sheet_both : (before between after : PlaceSheet) → SheetUpdated id one before between
      → SheetUpdated id later between after → SheetUpdated id both before after
  sheet_both before between after first second = record {
    id = second.id ∙ first.id;
    title = second.title ∙ first.title;
    hidden = second.hidden ∙ first.hidden;
    rows = second.rows ∙ first.rows;
    cols = second.cols ∙ first.cols;
    items = λ row col.
        second.items row col
        ∙ ap (λ n. if n == id then unwrap_or (later row col) (item_at between.table row col)
        else item_at between.table row col) first.id
        ∙ on (before.id == id) row col (item_at before.table row col) (item_at between.table row col)
        (first.items row col);
    merges = second.merges ∙ first.merges;
    filter = second.filter ∙ first.filter;
  }
    where
      on : (own : Bool) (row col : ℕ) (held now : Option Content)
          → now ≡ (if own then unwrap_or (one row col) held else held)
          → (if own then unwrap_or (later row col) now else now)
          ≡ (if own then unwrap_or (both row col) held else held)
      on true row col held now is = ap (unwrap_or (later row col)) is ∙ sym (same row col held)
      on false row col held now is = is

  sheets_both : (before between after : List PlaceSheet) → AllZip (SheetUpdated id one) before between
      → AllZip (SheetUpdated id later) between after → AllZip (SheetUpdated id both) before after
  sheets_both [] [] [] first second = tt
  sheets_both [] [] (s ∷ ss) first second = absurd second
  sheets_both [] (s ∷ ss) after first second = absurd first
  sheets_both (s ∷ ss) [] after first second = absurd first
  sheets_both (s ∷ ss) (t ∷ ts) [] first second = absurd second
  sheets_both (s ∷ ss) (t ∷ ts) (u ∷ us) first second =
      (sheet_both s t u first.0 second.0, sheets_both ss ts us first.1 second.1)

  pub updated_both : (before between after : PlaceBook) → BookUpdated id one before between
      → BookUpdated id later between after → BookUpdated id both before after
  updated_both before between after first second = record {
    id = second.id ∙ first.id;
    title = second.title ∙ first.title;
    owner = second.owner ∙ first.owner;
    sheets = sheets_both before.sheets between.sheets after.sheets first.sheets second.sheets;
    ranges = second.ranges ∙ first.ranges;
    protections = second.protections ∙ first.protections;
    metadata = second.metadata ∙ first.metadata;
  }
