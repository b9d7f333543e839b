-- Places that are emptied one after another.
use Rattle.std.proofs.Common.{◌≡◌, ℕ, ◌<◌, List, length, get_or, refl, sym, subst, ap, ◌∙◌, cond, Bool, true, false}
use Rattle.std.specs.Prelude.{Option, Some, None, [], IfSome, IsSomeAnd, MatchOption, ◌&&◌, nat_le, nat_lt, unwrap_or}
use Rattle.std.specs.Option.{IsSome}
use Rattle.std.proofs.lemmas.Bool.{and_parts, false≢true, leb-true, ltb-true, le-leb, lt-ltb}
use Rattle.std.proofs.lemmas.List.Elements.{Contains-get_or}
use Rattle.cell_value.specs.declared.cell.Block.{Block}
use Rattle.grid_range.specs.Area.{AreaWithin, Holds}
use Rattle.grid_range.specs.Band.{HasLine}
use Rattle.grid_range.specs.declared.area.Area.{Area}
use Rattle.grid_range.specs.declared.band.Band.{Band}
use Rattle.grid_range.specs.declared.band.Band.TheVariants.{Whole, From, Span}
use Rattle.cell_store.specs.Places.{AreFilledPlaces}
use Rattle.cell_store.specs.Table.{HasPlace, item_at}
use Rattle.ref_rewrite.specs.declared.cell_content.Content.{Content}
use Rattle.world_model.specs.Book.{PlaceBook}
use Rattle.world_model.specs.Sheet.{PlaceSheet}
use Rattle.world_model.specs.Sound.{IsSound, place_sheet_with}
use Rattle.dimension_ops.specs.Found.{ArePlacesOf}
use Rattle.values_api.specs.FoundLaws.{some_and, sound_sheet}
use Rattle.values_api.specs.Ranges.{IsThere}
use Rattle.values_api.specs.Given.{is_listed}
use Rattle.values_api.proofs.Listed.{both_true, listed_of, listed_there, there_listed}
use Rattle.world_model.specs.Updating.{Updates}
use Rattle.merge_ranges.specs.Tests.{has_line}
use Rattle.values_api.specs.Rest.{is_reached, rest_cleared}
use Rattle.values_api.specs.Updates.{cleared}

abbrev pub emptied : List (ℕ × ℕ) → Updates
emptied places = listed_of (λ row col. Some None) places

-- those of the area that the block doesn't reach
abbrev pub unreached : Area → Block → Updates
unreached area block row col = cond (is_reached area block row col) None (Some None)

abbrev pub rest_emptied : Area → Block → List (ℕ × ℕ) → Updates
rest_emptied area block places = listed_of (unreached area block) places

pub unreached_none : (area : Area) (block : Block) (row col : ℕ) → is_reached area block row col ≡ true
    → unreached area block row col ≡ None
unreached_none area block row col is = ap (λ b. cond b None (Some None)) is

pub unreached_some : (area : Area) (block : Block) (row col : ℕ) → is_reached area block row col ≡ false
    → unreached area block row col ≡ Some None
unreached_some area block row col is = ap (λ b. cond b None (Some None)) is

-- ---- a cleared area

pub line_is : (band : Band) (line : ℕ) → HasLine band line → has_line band line ≡ true
line_is Whole line has = refl
line_is (From start) line has = le-leb start line has
line_is (Span start end) line has =
    both_true (nat_le start line) (nat_lt line end) (le-leb start line has.0) (lt-ltb line end has.1)

line_of : (band : Band) (line : ℕ) → has_line band line ≡ true → HasLine band line
line_of Whole line is = tt
line_of (From start) line is = leb-true start line is
line_of (Span start end) line is =
    let parts = and_parts (nat_le start line) (nat_lt line end) is in
    (leb-true start line parts.0, ltb-true line end parts.1)

-- what is made of a place either way
by_cases : (listed held : Bool) (item : Option Content) → (listed ≡ true → held ≡ true)
    → (held ≡ true → listed ≡ false → item ≡ None)
    → unwrap_or (cond listed (Some None) None) item ≡ unwrap_or (cond held (Some None) None) item
by_cases true true item in_area not_there = refl
by_cases true false item in_area not_there = absurd (false≢true (in_area refl))
by_cases false true item in_area not_there = not_there refl refl
by_cases false false item in_area not_there = refl

module _ (area : Area) (sheet : PlaceSheet) (places : List (ℕ × ℕ)) (filled : AreFilledPlaces area sheet.table places)
    (row col : ℕ) where
  listed_held : is_listed places row col ≡ true → (has_line area.rows row && has_line area.cols col) ≡ true
  listed_held is =
      let holds = (filled.exactly row col).0 (listed_there places row col is) in
      both_true (has_line area.rows row) (has_line area.cols col) (line_is area.rows row holds.0.0)
      (line_is area.cols col holds.0.1)

  not_some : (item : Option Content) → item_at sheet.table row col ≡ item
      → (has_line area.rows row && has_line area.cols col) ≡ true → is_listed places row col ≡ false → item ≡ None
  not_some None is held unlisted = refl
  not_some (Some content) is held unlisted =
      let parts = and_parts (has_line area.rows row) (has_line area.cols col) held in
      let holds : Holds area row col = (line_of area.rows row parts.0, line_of area.cols col parts.1) in
      absurd (false≢true
      (sym unlisted ∙ there_listed places row col ((filled.exactly row col).1 (holds, subst IsSome (sym is) refl))))

  pub same_made : unwrap_or (emptied places row col) (item_at sheet.table row col)
      ≡ unwrap_or (cleared area row col) (item_at sheet.table row col)
  same_made = by_cases (is_listed places row col) (has_line area.rows row && has_line area.cols col)
      (item_at sheet.table row col) listed_held (not_some (item_at sheet.table row col) refl)

rest_by_cases : (reached listed held : Bool) (item : Option Content)
    → unwrap_or (cond listed (Some None) None) item ≡ unwrap_or (cond held (Some None) None) item
    → unwrap_or (cond listed (cond reached None (Some None)) None) item
    ≡ unwrap_or (cond reached None (cond held (Some None) None)) item
rest_by_cases true true held item same = refl
rest_by_cases true false held item same = refl
rest_by_cases false listed held item same = same

-- ---- a spreadsheet

if_some : (P : PlaceSheet → Type 0) (found : Option PlaceSheet) → ((sheet : PlaceSheet) → found ≡ Some sheet → P sheet)
    → IfSome found P
if_some P None each = tt
if_some P (Some sheet) each = each sheet refl

module _ (book : PlaceBook) (sound : IsSound book) (area : Area) (places : List (ℕ × ℕ))
    (there : IsThere book.sheets area) (filled : ArePlacesOf area book.sheets places) where
  pub are_filled : (sheet : PlaceSheet) → place_sheet_with area.sheet book.sheets ≡ Some sheet
      → AreFilledPlaces area sheet.table places
  are_filled sheet is =
      subst (λ found. MatchOption found (places ≡ []) (λ one. AreFilledPlaces area one.table places)) is filled

  -- a place that is listed is one of the sheet
  pub listed_place : (k : ℕ) → k < length places
      → IsSomeAnd (place_sheet_with area.sheet book.sheets)
      (λ sheet. HasPlace sheet.table (get_or places k (0, 0)).0 (get_or places k (0, 0)).1)
  listed_place k below =
      let (sheet, is, within) = some_and (λ (sheet : PlaceSheet). AreaWithin area sheet.table.rows sheet.table.cols)
      (place_sheet_with area.sheet book.sheets) there in
      let own = sound_sheet book sound area.sheet sheet is in
      let place = get_or places k (0, 0) in
      let held = ((are_filled sheet is).exactly place.0 place.1).0 (Contains-get_or places k (0, 0) below) in
      subst (λ found. IsSomeAnd found (λ one. HasPlace one.table place.0 place.1)) (sym is)
      (own.inside place.0 place.1 held.1)

  -- what is made of each place of the sheet
  abbrev MakeSame : Updates → Updates → PlaceSheet → Type 0
  MakeSame updates updates' sheet = (row col : ℕ)
      → unwrap_or (updates row col) (item_at sheet.table row col)
      ≡ unwrap_or (updates' row col) (item_at sheet.table row col)

  pub all_same_made : IfSome (place_sheet_with area.sheet book.sheets) (MakeSame (emptied places) (cleared area))
  all_same_made = if_some (MakeSame (emptied places) (cleared area)) (place_sheet_with area.sheet book.sheets)
      (λ sheet is row col. same_made area sheet places (are_filled sheet is) row col)

  pub all_same_rest : (block : Block) → IfSome (place_sheet_with area.sheet book.sheets)
      (MakeSame (rest_emptied area block places) (rest_cleared area block))
  all_same_rest block = if_some (MakeSame (rest_emptied area block places) (rest_cleared area block))
      (place_sheet_with area.sheet book.sheets)
      (λ sheet is row col. rest_by_cases (is_reached area block row col) (is_listed places row col)
      (has_line area.rows row && has_line area.cols col) (item_at sheet.table row col)
      (same_made area sheet places (are_filled sheet is) row col))
