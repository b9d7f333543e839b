-- Sheets that are looked at one after another.
use Rattle.std.proofs.Common.{◌≡◌, ℕ, ◌+◌, ◌<◌, List, [], ◌∷◌, ◌++◌, length, map, take, get_or, refl, sym, ap, ◌∙◌, arith, Bor}
use Rattle.std.specs.Prelude.{Bool, true, false, Option, Some, None}
use Rattle.std.specs.List.{AllZip}
use Rattle.std.specs.Option.{IsSome, option_copied}
use Rattle.std.proofs.lemmas.Bool.{false≢true}
use Rattle.std.proofs.lemmas.List.{get_or-map, length-take-le, take_more}
use Rattle.world_model.specs.Book.{PlaceBook}
use Rattle.world_model.specs.Laws.{IdsFind}
use Rattle.world_model.specs.Sheet.{PlaceSheet}
use Rattle.world_model.specs.Sound.{IsSound, place_sheet_with}
use Rattle.sheets_json.specs.declared.spreadsheet.DimensionProperties.{DimensionProperties}
use Rattle.sheets_json.specs.declared.spreadsheet.GridData.{GridData}
use Rattle.sheets_json.specs.declared.spreadsheet.ShownSheet.{ShownSheet}
use Rattle.sheets_json.specs.declared.spreadsheet.Spreadsheet.{Spreadsheet}
use Rattle.values_api.specs.Values.{CellsHaveOneValue}
use Rattle.batch_engine.specs.HiddenRows.{AreRowsTold}
use Rattle.batch_engine.specs.Looks.{AreSheetsShown, IsGridShown, IsSpreadsheetShown, shown_from, shown_sheet, spreadsheet_alone, spreadsheet_with, with_rows, with_sheets}
use Rattle.batch_engine.specs.Looks.{shown_protections}
use Rattle.batch_engine.proofs.HiddenRows.{rows_once, zip_next}

module _ (user : List ℕ) (book : PlaceBook) where
  -- the sheet with its protected ranges
  abbrev shown_at : ℕ → PlaceSheet → Option GridData → ShownSheet
  shown_at index sheet grid = shown_sheet index sheet grid (shown_protections user book sheet.id)

  -- one sheet more
  shown_more : (R : PlaceSheet → Option GridData → Type 0) (index : ℕ) (sheets : List PlaceSheet)
      (grids : List (Option GridData)) (last : PlaceSheet) (grid : Option GridData) → AllZip R sheets grids
      → shown_from user book index (sheets ++ last ∷ []) (grids ++ grid ∷ [])
      ≡ shown_from user book index sheets grids ++ shown_at (index + length sheets) last grid ∷ []
  shown_more R index [] [] last grid all = ap (λ place. shown_at place last grid ∷ []) (omega arith)
  shown_more R index [] (g ∷ gs) last grid all = absurd all
  shown_more R index (sheet ∷ sheets) [] last grid all = absurd all
  shown_more R index (sheet ∷ sheets) (g ∷ gs) last grid all =
      let first = shown_at index sheet g in
      ap (λ shown. first ∷ shown) (shown_more R (index + 1) sheets gs last grid all.1)
      ∙ ap (λ place. first ∷ (shown_from user book (index + 1) sheets gs ++ shown_at place last grid ∷ []))
      (omega arith)

  pub shown_next : (wanted : Bool) (sheets : List PlaceSheet) (at : ℕ) (d : PlaceSheet) (grid : Option GridData)
      (shown : List ShownSheet) → at < length sheets → AreSheetsShown user wanted book (take at sheets) shown
      → IsGridShown wanted book (get_or sheets at d) grid
      → AreSheetsShown user wanted book (take (at + 1) sheets) (shown ++ shown_at at (get_or sheets at d) grid ∷ [])
  shown_next wanted sheets at d grid shown there so_far is =
      let short = length-take-le at sheets (omega (arith, there)) in
      let long : at ≡ 0 + length (take at sheets) = omega (arith, short) in
      let last = get_or sheets at d in
      record {
        grids = so_far.grids ++ grid ∷ [];
        each = zip_next (IsGridShown wanted book) sheets at d so_far.grids grid there so_far.each is;
        shown_are =
            ap (λ all. all ++ shown_at at last grid ∷ []) so_far.shown_are
            ∙ ap (λ place. shown_from user book 0 (take at sheets) so_far.grids ++ shown_at place last grid ∷ []) long
            ∙ sym (shown_more (IsGridShown wanted book) 0 (take at sheets) so_far.grids last grid so_far.each)
            ∙ ap (λ some. shown_from user book 0 some (so_far.grids ++ grid ∷ [])) (sym (take_more sheets at d there));
      }

  -- with all sheets
  pub sheets_shown : (wanted : Bool) (sheets : List ShownSheet) (shown : Spreadsheet)
      → AreSheetsShown user wanted book book.sheets sheets → shown ≡ with_sheets book sheets
      → IsSpreadsheetShown user wanted book shown
  sheets_shown wanted sheets shown are is = record {
    grids = are.grids;
    each = are.each;
    shown_is = is ∙ ap (with_sheets book) are.shown_are;
  }

  -- without what is known of rows
  none_shown : (sheets : List PlaceSheet) (grids : List (Option GridData))
      → AllZip (IsGridShown false book) sheets grids → grids ≡ map (λ sheet. None) sheets
  none_shown [] [] all = refl
  none_shown [] (g ∷ gs) all = absurd all
  none_shown (s ∷ ss) [] all = absurd all
  none_shown (s ∷ ss) (g ∷ gs) all =
      ap (λ grid. grid ∷ gs) all.0 ∙ ap (λ rest. None ∷ rest) (none_shown ss gs all.1)

  pub shown_alone : (shown : Spreadsheet) → IsSpreadsheetShown user false book shown
      → shown ≡ spreadsheet_alone user book
  shown_alone shown is = is.shown_is ∙ ap (spreadsheet_with user book) (none_shown book.sheets is.grids is.each)

-- what is known of rows where it is asked for, and where it isn't
pub rows_asked : (wanted : Bool) (book : PlaceBook) (sheet : PlaceSheet) (rows : List DimensionProperties)
    → wanted ≡ true → AreRowsTold book sheet sheet.filter rows → IsGridShown wanted book sheet (with_rows rows)
rows_asked true book sheet rows asked told = (rows, told, refl)
rows_asked false book sheet rows asked told = absurd (false≢true asked)

pub none_asked : (wanted : Bool) (book : PlaceBook) (sheet : PlaceSheet) → wanted ≡ false
    → IsGridShown wanted book sheet None
none_asked true book sheet asked = absurd (false≢true (sym asked))
none_asked false book sheet asked = refl

-- ---- a look shows one thing

module _ (law : CellsHaveOneValue) (user : List ℕ) (book : PlaceBook) (sound : IsSound book) where
  grid_once : (wanted : Bool) (sheet : PlaceSheet) (one other : Option GridData) → IsGridShown wanted book sheet one
      → IsGridShown wanted book sheet other → one ≡ other
  grid_once false sheet one other is is' = is ∙ sym is'
  grid_once true sheet one other (rows, told, is) (rows', told', is') =
      is ∙ ap with_rows (rows_once law book sound sheet sheet.filter rows rows' told told') ∙ sym is'

  grids_once : (wanted : Bool) (sheets : List PlaceSheet) (one other : List (Option GridData))
      → AllZip (IsGridShown wanted book) sheets one → AllZip (IsGridShown wanted book) sheets other → one ≡ other
  grids_once wanted [] [] [] is is' = refl
  grids_once wanted [] [] (g ∷ gs) is is' = absurd is'
  grids_once wanted [] (g ∷ gs) other is is' = absurd is
  grids_once wanted (s ∷ ss) [] other is is' = absurd is
  grids_once wanted (s ∷ ss) (g ∷ gs) [] is is' = absurd is'
  grids_once wanted (s ∷ ss) (g ∷ gs) (h ∷ hs) is is' =
      ap (λ grid. grid ∷ gs) (grid_once wanted s g h is.0 is'.0)
      ∙ ap (λ rest. h ∷ rest) (grids_once wanted ss gs hs is.1 is'.1)

  pub look_once : (wanted : Bool) (one other : Spreadsheet) → IsSpreadsheetShown user wanted book one
      → IsSpreadsheetShown user wanted book other → one ≡ other
  look_once wanted one other is is' =
      is.shown_is
      ∙ ap (spreadsheet_with user book) (grids_once wanted book.sheets is.grids is'.grids is.each is'.each)
      ∙ sym is'.shown_is

-- the sheet at a place is found by its id
pub found_at : (book : PlaceBook) → IdsFind → IsSound book → (at : ℕ) → at < length book.sheets → (d : PlaceSheet)
    → place_sheet_with (get_or (map (λ sheet. sheet.id) book.sheets) at 0) book.sheets ≡ Some (get_or book.sheets at d)
found_at book law sound at there d =
    ap (λ id. place_sheet_with id book.sheets) (get_or-map (λ (sheet : PlaceSheet). sheet.id) book.sheets at d 0 there)
    ∙ law.finds book sound at d there

some_sheet : (sheets : List PlaceSheet) (at : ℕ) → at < length sheets → PlaceSheet
some_sheet [] at there = absurd (omega (arith, there))
some_sheet (sheet ∷ sheets) at there = sheet

none_is_some : {A : Type 0} (x : A) → None ≡ Some x → ⊥
none_is_some x e = cc

is_there : {A : Type 0} (found : Option (Bor A)) (x : A) → option_copied found ≡ Some x → IsSome found
is_there None x e = absurd (none_is_some x e)
is_there (Some lent) x e = refl

pub is_found : (book : PlaceBook) → IdsFind → IsSound book → (at : ℕ) → at < length book.sheets
    → (found : Option (Bor PlaceSheet))
    → option_copied found ≡ place_sheet_with (get_or (map (λ sheet. sheet.id) book.sheets) at 0) book.sheets
    → IsSome found
is_found book law sound at there found is =
    let d = some_sheet book.sheets at there in
    is_there found (get_or book.sheets at d) (is ∙ found_at book law sound at there d)
