-- A sound spreadsheet as its formulas read it, and what a read shows of it: one thing.
use Rattle.std.proofs.Common.{◌≡◌, ◌≢◌, inl, inr, ℕ, ◌+◌, ◌<◌, Bool, true, false, cond, List, [], ◌∷◌, length, map, get_or, Contains, Option, Some, None, refl, ap, sym, subst, ◌∙◌, arith}
use Rattle.std.specs.Prelude.{◌==◌, IfSome, IsSomeAnd, MatchOption, ◌↔◌}
use Rattle.std.specs.List.Sorted.{IsStrictlySortedBy}
use Rattle.std.specs.List.{AllPairs, range_with_len}
use Rattle.std.specs.Option.{IsSome, option_map, option_and_then}
use Rattle.std.proofs.lemmas.Bool.{eqb-true}
use Rattle.std.proofs.lemmas.Bool.Decides.{nat_tests}
use Rattle.std.proofs.lemmas.List.{get_or-map, length-map}
use Rattle.std.proofs.lemmas.List.FromFn.{length-map-range_with_len, get_or-map-range_with_len, fill_by_all}
use Rattle.cell_value.specs.Elements.{nothing_in, Contains-head, Contains-cons, Contains-cons_cases}
use Rattle.cell_value.specs.declared.cell.Cell.{Cell}
use Rattle.cell_value.specs.declared.cell.Cell.TheVariants as cell
use Rattle.cell_value.specs.declared.cell.Render.{Render}
use Rattle.cell_value.specs.declared.cell.Render.TheVariants.{Formatted, Unformatted, Formula}
use Rattle.cell_value.specs.declared.cell.Value.{Value}
use Rattle.grid_range.specs.Area.{AreaWithin, Holds, by_rows}
use Rattle.grid_range.specs.Band.{first_line}
use Rattle.grid_range.specs.declared.area.Area.{Area}
use Rattle.cell_store.specs.Places.{AreFilledPlaces}
use Rattle.cell_store.specs.Table.{item_at}
use Rattle.ref_rewrite.specs.declared.cell_content.Content.{Content}
use Rattle.ref_rewrite.specs.declared.cell_content.Content.TheVariants as content
use Rattle.ref_rewrite.specs.declared.pieces.Piece.{Piece}
use Rattle.ref_rewrite.specs.declared.pieces.Piece.TheVariants as piece
use Rattle.named_ranges.specs.Listed.{with_name}
use Rattle.named_ranges.specs.declared.range.NamedRange.{NamedRange}
use Rattle.cell_calc.specs.Book.{Place}
use Rattle.cell_calc.specs.Calculated.{IsValueIn, ValuesOnce}
use Rattle.cell_calc.specs.Contents.{AreSound, AreStoredPlaces, HasArea, IsContentSound, IsPieceWithin as IsPieceThere}
use Rattle.dimension_ops.specs.Found.{ArePlacesOf}
use Rattle.world_model.specs.Book.{PlaceBook}
use Rattle.world_model.specs.Sheet.{PlaceSheet}
use Rattle.world_model.specs.Sound.{IsContentWithin, IsPieceWithin, IsSound, place_sheet_with}
use Rattle.values_api.specs.FoundLaws.{range_there, sound_sheet}
use Rattle.values_api.specs.Laws.{ReadsOnce}
use Rattle.values_api.specs.Sheets.{formula_sheets, size_of, stored_in}
use Rattle.values_api.specs.Shown.{AreShownValues, area_shown, cell_along, cell_of, cell_shown, has_no_cells, height, line_length, line_shown, lines_of, lines_shown, shows_nothing, width, without_empty_end}
use Rattle.values_api.proofs.Ends.{has_line_behind}

-- ---- a spreadsheet as its formulas read it

abbrev size_of_sheet : PlaceSheet → ℕ × ℕ
size_of_sheet sheet = (sheet.table.rows, sheet.table.cols)

-- just the ids of the sheets have a size
module _ (id : ℕ) where
  sized_there : (sheets : List PlaceSheet) → IsSome (size_of sheets id) → Contains (map (λ sheet. sheet.id) sheets) id
  sized_there [] some = let no : ⊥ = cc in absurd no
  sized_there (first ∷ later) some = by_test (first.id == id) refl (sized_there later) some
    where
      by_test : (test : Bool) → (first.id == id) ≡ test
          → (IsSome (size_of later id) → Contains (map (λ sheet. sheet.id) later) id)
          → IsSome (option_map size_of_sheet (cond test (Some first) (place_sheet_with id later)))
          → Contains (first.id ∷ map (λ sheet. sheet.id) later) id
      by_test true same behind found =
          subst (Contains (first.id ∷ map (λ sheet. sheet.id) later)) (eqb-true first.id id same)
          (Contains-head first.id (map (λ sheet. sheet.id) later))
      by_test false apart behind found = Contains-cons first.id id (map (λ sheet. sheet.id) later) (behind found)

  there_sized : (sheets : List PlaceSheet) → Contains (map (λ sheet. sheet.id) sheets) id → IsSome (size_of sheets id)
  there_sized [] has = absurd (nothing_in id has)
  there_sized (first ∷ later) has = by_test (first.id == id) refl (there_sized later)
    where
      itself : first.id ≡ id → (first.id == id) ≡ true
      itself same = grind (arith, nat_tests)

      later_has : (first.id == id) ≡ false → Contains (map (λ sheet. sheet.id) later) id
      later_has apart = elim (Contains-cons_cases first.id id (map (λ sheet. sheet.id) later) has) [
        | inl same ↦ let is = itself same in let no : ⊥ = cc in absurd no
        | inr there ↦ there
      ]

      by_test : (test : Bool) → (first.id == id) ≡ test
          → (Contains (map (λ sheet. sheet.id) later) id → IsSome (size_of later id))
          → IsSome (option_map size_of_sheet (cond test (Some first) (place_sheet_with id later)))
      by_test true same behind = refl
      by_test false apart behind = behind (later_has apart)

-- ids that differ
ids_apart : (sheets : List PlaceSheet) → AllPairs (λ one other. one.id ≢ other.id) sheets
    → AllPairs (λ one other. one ≢ other) (map (λ sheet. sheet.id) sheets)
ids_apart [] apart = λ i j d less within. absurd (omega (arith, within))
ids_apart (first ∷ later) apart = λ i j d less within.
    let ids = λ (sheet : PlaceSheet). sheet.id in
    let sheets = first ∷ later in
    let short : j < length sheets = subst (λ n. j < n) (length-map sheets ids) within in
    let one : get_or (map ids sheets) i d ≡ (get_or sheets i first).id =
    get_or-map ids sheets i first d (omega (arith, less, short)) in
    let other : get_or (map ids sheets) j d ≡ (get_or sheets j first).id = get_or-map ids sheets j first d short in
    λ same. apart i j first less short (sym one ∙ same ∙ other)

module _ (book : PlaceBook) (sound : IsSound book) where
  abbrev sheets : List PlaceSheet
  sheets = book.sheets

  -- the place's sheet has it
  place_there : (place : Place) (found : Option PlaceSheet) → place_sheet_with place.sheet sheets ≡ found
      → IsSome (option_and_then (λ sheet. item_at sheet.table place.row place.column) found)
      → IsSomeAnd (option_map size_of_sheet found) (λ size. (place.row < size.0) × (place.column < size.1))
  place_there place None is some = let no : ⊥ = cc in absurd no
  place_there place (Some sheet) is some =
      (sound_sheet book sound place.sheet sheet is).inside place.row place.column some

  area_there : (area : Area) (found : Option PlaceSheet)
      → IsSomeAnd found (λ sheet. AreaWithin area sheet.table.rows sheet.table.cols)
      → IsSomeAnd (option_map size_of_sheet found) (λ size. AreaWithin area size.0 size.1)
  area_there area None within = absurd within
  area_there area (Some sheet) within = within

  piece_there : (one : Piece) → IsPieceWithin sheets one → IsPieceThere (stored_in book) one
  piece_there (piece.Text text) within = tt
  piece_there (piece.Word word) within = tt
  piece_there (piece.Ref reference) within =
      area_there reference.area (place_sheet_with reference.area.sheet sheets) within.0
  piece_there piece.Lost within = tt

  content_sound : (one : Content) → IsContentWithin sheets one → IsContentSound (stored_in book) one
  content_sound (content.Number number) within = tt
  content_sound (content.Text text) within = tt
  content_sound (content.Truth truth) within = tt
  content_sound (content.Formula formula) within =
      λ k d there. piece_there (get_or formula.pieces k d) (within k d there)

  held_sound : (held : Option Content) → IfSome held (IsContentWithin sheets)
      → IfSome held (IsContentSound (stored_in book))
  held_sound None within = tt
  held_sound (Some one) within = content_sound one within

  formulas_sound : (place : Place) (found : Option PlaceSheet) → place_sheet_with place.sheet sheets ≡ found
      → IfSome (option_and_then (λ sheet. item_at sheet.table place.row place.column) found)
      (IsContentSound (stored_in book))
  formulas_sound place None is = tt
  formulas_sound place (Some sheet) is =
      held_sound (item_at sheet.table place.row place.column)
      ((sound_sheet book sound place.sheet sheet is).within place.row place.column)

  name_there : (word : List ℕ) (found : Option NamedRange) → with_name word book.ranges ≡ found
      → IfSome (option_map (λ (range : NamedRange). range.area) found) (HasArea (stored_in book))
  name_there word None is = tt
  name_there word (Some range) is =
      area_there range.area (place_sheet_with range.area.sheet sheets) (range_there book sound word range is)

  pub cells_sound : AreSound (stored_in book)
  cells_sound = record {
    once = ids_apart book.sheets sound.distinct;
    sized = λ id. (sized_there id book.sheets, there_sized id book.sheets);
    inside = λ place some. place_there place (place_sheet_with place.sheet book.sheets) refl some;
    formulas = λ place. formulas_sound place (place_sheet_with place.sheet book.sheets) refl;
    names = λ word. name_there word (with_name word book.ranges) refl;
  }

-- the places where something is stored
module _ (book : PlaceBook) (area : Area) (places : List (ℕ × ℕ)) where
  no_places : places ≡ [] → IsStrictlySortedBy by_rows places
  unfolding IsStrictlySortedBy
  no_places none = subst (IsStrictlySortedBy by_rows) (sym none) tt

  stored_by : (found : Option PlaceSheet) → place_sheet_with area.sheet book.sheets ≡ found
      → MatchOption found (places ≡ []) (λ sheet. AreFilledPlaces area sheet.table places)
      → AreStoredPlaces (stored_in book) area places
  stored_by None is none = record {
    in_order = no_places none;
    exactly = λ row col. (
      λ has. absurd (nothing_in (row, col) (subst (λ l. Contains l (row, col)) none has)),
      λ both. absurd (subst
          (λ found. IsSome (option_and_then (λ (sheet : PlaceSheet). item_at sheet.table row col) found) → ⊥)
          (sym is) (λ some. let no : ⊥ = cc in no) both.1),
    );
  }
  stored_by (Some sheet) is filled = record {
    in_order = filled.in_order;
    exactly = λ row col.
        subst (λ found. Contains places (row, col)
        ↔ (Holds area row col × IsSome (option_and_then (λ (sheet : PlaceSheet). item_at sheet.table row col) found)))
        (sym is) (filled.exactly row col);
  }

  pub places_stored : ArePlacesOf area book.sheets places → AreStoredPlaces (stored_in book) area places
  places_stored are = stored_by (place_sheet_with area.sheet book.sheets) refl are

-- ---- what a read shows

alike_on : {A : Type 0} (d : A) (f g : ℕ → A) (n : ℕ) → ((k : ℕ) → k < n → f k ≡ g k)
    → map f (range_with_len 0 n) ≡ map g (range_with_len 0 n)
alike_on d f g n same =
    fill_by_all g (map f (range_with_len 0 n)) n d (length-map-range_with_len f 0 n)
    (λ k below. get_or-map-range_with_len f 0 n k k d below (omega arith) ∙ same k (omega (arith, below)))

lines_alike : (cells cells' : ℕ → ℕ → Cell) (lines long : ℕ)
    → ((line place : ℕ) → line < lines → place < long → cells line place ≡ cells' line place)
    → lines_shown cells lines long ≡ lines_shown cells' lines long
lines_alike cells cells' lines long same =
    ap (without_empty_end has_no_cells)
    (alike_on [] (λ line. line_shown (cells line) long) (λ line. line_shown (cells' line) long) lines
    (λ line few. ap (without_empty_end shows_nothing)
    (alike_on (cell.Text []) (cells line) (cells' line) long (λ place short. same line place few short))))

module _ (once : ValuesOnce) (book : PlaceBook) (sound : IsSound book) (area : Area) (sheet : PlaceSheet)
    (values values' : ℕ → ℕ → Value) where
  abbrev shown_by : Render → (ℕ → ℕ → Value) → ℕ → ℕ → Cell
  shown_by render by = cell_of (formula_sheets book.sheets) render area sheet by

  same_value : (row col : ℕ) → row < height area sheet → col < width area sheet
      → ((row col : ℕ) → Holds area row col
      → IsValueIn (stored_in book) (record { sheet = area.sheet; row = row; column = col }) (values row col))
      → ((row col : ℕ) → Holds area row col
      → IsValueIn (stored_in book) (record { sheet = area.sheet; row = row; column = col }) (values' row col))
      → values (first_line area.rows + row) (first_line area.cols + col)
      ≡ values' (first_line area.rows + row) (first_line area.cols + col)
  same_value row col few short are are' =
      let holds : Holds area (first_line area.rows + row) (first_line area.cols + col) =
      (has_line_behind area.rows sheet.table.rows row few, has_line_behind area.cols sheet.table.cols col short) in
      once (stored_in book) (cells_sound book sound) _ _ _ (are _ _ holds) (are' _ _ holds)

  same_cell : (render : Render) → AreShownValues render book area values
      → AreShownValues render book area values' → (row col : ℕ) → row < height area sheet → col < width area sheet
      → shown_by render values row col ≡ shown_by render values' row col
  same_cell Formatted are are' row col few short =
      ap (cell_shown (formula_sheets book.sheets) Formatted
      (item_at sheet.table (first_line area.rows + row) (first_line area.cols + col)))
      (same_value row col few short are are')
  same_cell Unformatted are are' row col few short =
      ap (cell_shown (formula_sheets book.sheets) Unformatted
      (item_at sheet.table (first_line area.rows + row) (first_line area.cols + col)))
      (same_value row col few short are are')
  same_cell Formula are are' row col few short = refl

  same_area : (columns_first : Bool) (render : Render) → AreShownValues render book area values
      → AreShownValues render book area values'
      → area_shown (formula_sheets book.sheets) area columns_first render sheet values
      ≡ area_shown (formula_sheets book.sheets) area columns_first render sheet values'
  same_area true render are are' =
      lines_alike (cell_along true (shown_by render values)) (cell_along true (shown_by render values'))
      (lines_of true area sheet) (line_length true area sheet)
      (λ line place few short. same_cell render are are' place line short few)
  same_area false render are are' =
      lines_alike (cell_along false (shown_by render values)) (cell_along false (shown_by render values'))
      (lines_of false area sheet) (line_length false area sheet)
      (λ line place few short. same_cell render are are' line place few short)

pub reads_once : ValuesOnce → ReadsOnce
reads_once values_once = record {
  once = λ book area columns_first render sheet lines lines' sound one other.
      one.lines_are
      ∙ same_area values_once book sound area sheet one.values other.values columns_first render one.values_are
      other.values_are
      ∙ sym other.lines_are;
}
