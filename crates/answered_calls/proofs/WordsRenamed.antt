-- Words of a spreadsheet's formulas can be renamed, place by place.
use Rattle.std.proofs.Common.{List, ℕ, [], ◌∷◌, map, refl}
use Rattle.std.specs.List.{AllZip}
use Rattle.world_model.specs.Book.{PlaceBook}
use Rattle.world_model.specs.RangeChange.{PlaceWordsRenamed, WordsRenamedIn, content_renamed}
use Rattle.world_model.specs.Sheet.{PlaceSheet}
use Rattle.answered_calls.proofs.Tables.{items_become, table_become}

module _ (old new : List ℕ) where
  abbrev renamed : PlaceSheet → PlaceSheet
  renamed sheet = record sheet { table = table_become (content_renamed old new) sheet.table }

  all_renamed : (sheets : List PlaceSheet) → AllZip (WordsRenamedIn old new) sheets (map renamed sheets)
  all_renamed [] = tt
  all_renamed (sheet ∷ sheets) = (
    record {
      id = refl;
      title = refl;
      hidden = refl;
      rows = refl;
      cols = refl;
      items = items_become (content_renamed old new) sheet.table;
      merges = refl;
      filter = refl;
    },
    all_renamed sheets,
  )

  abbrev pub book_renamed : PlaceBook → PlaceBook
  book_renamed book = record book { sheets = map renamed book.sheets }

  pub words_renamed : (book : PlaceBook) → PlaceWordsRenamed old new book (book_renamed book)
  words_renamed book = record {
    id = refl;
    title = refl;
    owner = refl;
    sheets = all_renamed book.sheets;
    ranges = refl;
    protections = refl;
    metadata = refl;
  }
