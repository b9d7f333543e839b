-- Rows that are written, or refused, from what the write of their values says.
use Rattle.std.proofs.Common.{◌≡◌, ℕ, Bool, true, refl, sym, ap, List, ◌++◌}
use Rattle.std.specs.Prelude.{IsSomeAnd, Option, None, Some, Result, Ok, Err}
use Rattle.cell_value.specs.declared.cell.Block.{Block}
use Rattle.grid_range.specs.declared.area.Area.{Area}
use Rattle.world_model.specs.Book.{PlaceBook}
use Rattle.world_model.specs.BookChange.{AreChanges, BookChange}
use Rattle.world_model.specs.ChangingLaws.{ChangesInTurn, UpdatesAreChanges}
use Rattle.world_model.specs.Sheet.{PlaceSheet}
use Rattle.world_model.specs.Sound.{place_sheet_with}
use Rattle.dimension_ops.specs.Rules.{IsUnlessNoMemory}
use Rattle.dimension_ops.specs.declared.rule.Rule.{Rule}
use Rattle.dimension_ops.specs.declared.rule.Rule.TheVariants as rule
use Rattle.dimension_ops.specs.declared.rule.RuleOr.{RuleOr}
use Rattle.dimension_ops.specs.declared.rule.RuleOr.TheVariants as refusal
use Rattle.values_api.specs.Blocks.{IsWrite, contents_of}
use Rattle.values_api.specs.Denials.{IsDenial, WriteCells, unless_denied}
use Rattle.values_api.specs.declared.writing.WrittenCells.{WrittenCells}
use Rattle.sheets_json.specs.declared.spreadsheet.Reply.{Reply}
use Rattle.sheets_json.specs.declared.spreadsheet.Reply.TheVariants as reply
use Rattle.request_kinds.specs.AppendCells.{AreRowsWrittenBy}
use Rattle.request_kinds.specs.Telling.{IsDoneTo, cells_updated}
use Rattle.request_kinds.specs.Rows.{AreRowsPut, AreRowsWritten}
use Rattle.values_api.specs.FoundLaws.{some_and}
use Rattle.request_kinds.specs.TellingLaws.{update_made}

module _ (first : List BookChange) (rows : Block) (one_cell : Bool) (before between after : PlaceBook) (area : Area)
    (changed : AreChanges first before between) where
  -- on what the first changes leave
  pub rows_put : ChangesInTurn → UpdatesAreChanges → (wrote : WrittenCells)
      → IsSomeAnd (place_sheet_with area.sheet between.sheets)
      (λ sheet. IsUnlessNoMemory (IsWrite one_cell area rows sheet between after) (Ok wrote))
      → IsDoneTo (AreRowsPut first rows one_cell between area) before after (Ok reply.Empty)
  rows_put turns are wrote there =
      let (sheet, is, writes) =
      some_and (λ (sheet : PlaceSheet). IsWrite one_cell area rows sheet between after (Ok wrote))
      (place_sheet_with area.sheet between.sheets) there in
      let updates = contents_of writes.entries in (
        first ++ cells_updated area.sheet updates,
        record { after = after; sheet = sheet; there = is; wrote = Ok wrote; writes = writes; tells = refl },
        turns.both first (cells_updated area.sheet updates) before between after changed
            (update_made are area.sheet updates between after writes.updated),
      )

  pub put_refused : (broken : Rule) → IsSomeAnd (place_sheet_with area.sheet between.sheets)
      (λ sheet. IsUnlessNoMemory (IsWrite one_cell area rows sheet between after) (Err (refusal.Rule broken)))
      → AreRowsPut first rows one_cell between area (Err broken)
  put_refused broken there =
      let (sheet, is, writes) =
      some_and (λ (sheet : PlaceSheet). IsWrite one_cell area rows sheet between after (Err broken))
      (place_sheet_with area.sheet between.sheets) there in
      record { after = after; sheet = sheet; there = is; wrote = Err broken; writes = writes; tells = refl }

  -- behind the first changes
  pub rows_written : ChangesInTurn → UpdatesAreChanges → (wrote : WrittenCells)
      → IsSomeAnd (place_sheet_with area.sheet between.sheets)
      (λ sheet. IsUnlessNoMemory (IsWrite one_cell area rows sheet between after) (Ok wrote))
      → IsDoneTo (AreRowsWritten first rows one_cell before area) before after (Ok reply.Empty)
  rows_written turns are wrote there =
      let (changes, put, made) = rows_put turns are wrote there in
      (changes, record { between = between; changed = changed; put = put }, made)

  pub rows_refused : (fault : RuleOr) → IsSomeAnd (place_sheet_with area.sheet between.sheets)
      (λ sheet. IsUnlessNoMemory (IsWrite one_cell area rows sheet between after) (Err fault))
      → IsUnlessNoMemory (IsDoneTo (AreRowsWritten first rows one_cell before area) before after) (Err fault)
  rows_refused (refusal.Rule broken) there =
      record { between = between; changed = changed; put = put_refused broken there }
  rows_refused refusal.NoMemory there = tt

-- ---- a user's rows

module _ (user : List ℕ) (first : List BookChange) (rows : Block) (before between after : PlaceBook) (area : Area)
    (changed : AreChanges first before between) (denied : Option ℕ)
    (is_denied : IsDenial user between (WriteCells between.sheets true area rows) denied) where
  -- what is made of them where they are put
  by : (told put : Result (Reply × List BookChange) Rule) → AreRowsPut first rows true between area put
      → told ≡ unless_denied denied put → AreRowsWrittenBy user first rows before area told
  by told put is tells = record {
    between = between;
    changed = changed;
    put = record { denied = denied; is_denied = is_denied; done = put; is = is; told_is = tells };
  }

  module _ (turns : ChangesInTurn) (are : UpdatesAreChanges) (wrote : WrittenCells)
      (there : IsSomeAnd (place_sheet_with area.sheet between.sheets)
      (λ sheet. IsUnlessNoMemory (IsWrite true area rows sheet between after) (Ok wrote))) where
    pub rows_written_by : denied ≡ None
        → IsDoneTo (AreRowsWrittenBy user first rows before area) before after (Ok reply.Empty)
    rows_written_by none =
        let (changes, put, made) = rows_put first rows true before between after area changed turns are wrote there in (
          changes,
          by (Ok (reply.Empty, changes)) (Ok (reply.Empty, changes)) put
              (ap (λ d. unless_denied d (Ok (reply.Empty, changes))) (sym none)),
          made,
        )

    pub rows_denied : (id : ℕ) → denied ≡ Some id
        → AreRowsWrittenBy user first rows before area (Err (rule.Protected id))
    rows_denied id some =
        let (changes, put, made) = rows_put first rows true before between after area changed turns are wrote there in
        by (Err (rule.Protected id)) (Ok (reply.Empty, changes)) put
        (ap (λ d. unless_denied d (Ok (reply.Empty, changes))) (sym some))

  pub rows_refused_by : (fault : RuleOr) → IsSomeAnd (place_sheet_with area.sheet between.sheets)
      (λ sheet. IsUnlessNoMemory (IsWrite true area rows sheet between after) (Err fault))
      → IsUnlessNoMemory (IsDoneTo (AreRowsWrittenBy user first rows before area) before after) (Err fault)
  rows_refused_by (refusal.Rule broken) there =
      by (Err broken) (Err broken) (put_refused first rows true before between after area changed broken there) refl
  rows_refused_by refusal.NoMemory there = tt
