-- Laws of an append: once its lines are added and its values are written, or refused, what is told of it.
use Rattle.std.proofs.Common.{◌≡◌, ℕ, ◌++◌, true, List, [], ◌∷◌, refl}
use Rattle.std.specs.Prelude.{Option, Some, Result, Ok, Err}
use Rattle.cell_value.specs.declared.cell.Block.{Block}
use Rattle.world_model.specs.Book.{PlaceBook}
use Rattle.world_model.specs.BookChange.{AreChanges, BookChange}
use Rattle.world_model.specs.ChangingLaws.{ChangesInTurn, UpdatesAreChanges}
use Rattle.world_model.specs.Sheet.{PlaceSheet}
use Rattle.world_model.specs.Sound.{place_sheet_with}
use Rattle.world_model.specs.Updating.{Updates}
use Rattle.dimension_ops.specs.declared.rule.Rule.{Rule}
use Rattle.values_api.specs.Appends.{IsAppended, answer_with, cell_area, changes_of}
use Rattle.values_api.specs.Blocks.{contents_of}
use Rattle.values_api.specs.Denials.{IsWriteBy}
use Rattle.values_api.specs.declared.appending.Added.{Added}
use Rattle.values_api.specs.declared.table.Rectangle.{Rectangle}
use Rattle.values_api.specs.declared.writing.WrittenCells.{WrittenCells}

-- the changes that add the lines, and then the one of cells
abbrev pub changes_with : ℕ → Added → Updates → List BookChange
changes_with sheet added updates = changes_of sheet added ++ BookChange.CellsUpdated sheet updates ∷ []

module _ (user : List ℕ) (sheet : ℕ) (added : Added) (start : ℕ × ℕ) (block : Block) (before between after : PlaceBook)
    (lines : AreChanges (changes_of sheet added) before between) (own : PlaceSheet) where
  -- they lead from the one spreadsheet to the other
  pub lead_on : ChangesInTurn → UpdatesAreChanges → (told : Result WrittenCells Rule)
      → (write : IsWriteBy user true (cell_area sheet start) block own between after told)
      → AreChanges (changes_with sheet added (contents_of write.is.entries)) before after
  lead_on turns updates told write =
      turns.both (changes_of sheet added) (BookChange.CellsUpdated sheet (contents_of write.is.entries) ∷ []) before
      between after lines
      (updates.changes between after sheet (contents_of write.is.entries) write.is.updated.places.id
      write.is.updated.names)

  module _ (table : Option Rectangle) (there : place_sheet_with sheet between.sheets ≡ Some own) where
    -- values that are written
    pub written : (counts : WrittenCells)
        → (write : IsWriteBy user true (cell_area sheet start) block own between after (Ok counts))
        → IsAppended user sheet added start block table (changes_with sheet added (contents_of write.is.entries)) before
        after (Ok (answer_with sheet table counts))
    written counts write = record {
      between = between;
      lines = lines;
      own = own;
      there = there;
      told = Ok counts;
      write = write;
      answered = refl;
      changes_are = refl;
    }

    -- values that are refused
    pub refused : (broken : Rule)
        → (write : IsWriteBy user true (cell_area sheet start) block own between after (Err broken))
        → IsAppended user sheet added start block table (changes_with sheet added (contents_of write.is.entries)) before
        after (Err broken)
    refused broken write = record {
      between = between;
      lines = lines;
      own = own;
      there = there;
      told = Err broken;
      write = write;
      answered = refl;
      changes_are = refl;
    }
