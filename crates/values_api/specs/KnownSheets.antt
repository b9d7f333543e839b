-- Laws of what formulas refer to: each sheet of a sound spreadsheet can be told by its title, and what a formula refers
-- to is there.
use Rattle.std.proofs.Common.{◌≡◌, ℕ, ◌<◌, min, List, get_or, refl, sym, ap, ◌∙◌, cond, Bool, true, false, arith}
use Rattle.std.specs.Prelude.{Option, Some, None, ◌&&◌, nat_lt, IsSomeAnd}
use Rattle.std.specs.List.{All, find}
use Rattle.std.specs.Option.{IsSome, option_map}
use Rattle.std.specs.Str.{bytes_eq, str_to_ascii_lowercase}
use Rattle.std.proofs.lemmas.Bool.{and_parts, ltb-true}
use Rattle.std.proofs.lemmas.Option.{none-some, same_Some}
use Rattle.std.proofs.lemmas.Slice.Eq.{bytes_eq-Decides}
use Rattle.grid_range.specs.Area.{AreaWithin, cut_area}
use Rattle.grid_range.specs.Band.{IsNonEmpty, Within, first_line, cut_band}
use Rattle.grid_range.specs.declared.area.Area.{Area}
use Rattle.grid_range.specs.declared.band.Band.{Band}
use Rattle.grid_range.specs.declared.band.Band.TheVariants.{Whole, From, Span}
use Rattle.ref_rewrite.specs.declared.pieces.Piece.{Piece}
use Rattle.ref_rewrite.specs.declared.pieces.Piece.TheVariants as piece
use Rattle.formula_reader.specs.Pieces.{clipped}
use Rattle.formula_reader.specs.Printed.{IsPrintable, ArePrintable}
use Rattle.formula_reader.specs.ReadBack.{AreKnown, IsKnown, IsPresent}
use Rattle.formula_reader.specs.ReferenceText.{HasForm}
use Rattle.formula_reader.specs.Sheets.{HasTitle, sheet_named}
use Rattle.world_model.specs.Book.{PlaceBook}
use Rattle.world_model.specs.Sheet.{PlaceSheet}
use Rattle.world_model.specs.Sound.{HasNotation, IsPieceWithin, IsSound, place_sheet_with}
use Rattle.values_api.specs.FoundLaws.{found_passes, holds_of_found, sound_sheet}
use Rattle.values_api.specs.Sheets.{formula_sheets}

-- what is told of something is told of a thing that is there
told_of : {X A : Type 0} (tell : X → A) (found : Option X) (told : A) → option_map tell found ≡ Some told
    → (x : X) × (found ≡ Some x) × (tell x ≡ told)
told_of tell None told is = absurd (none-some told is)
told_of tell (Some x) told is = (x, refl, same_Some (tell x) told is)

-- ---- sheets

module _ (book : PlaceBook) (sound : IsSound book)
    (own : All (λ sheet. place_sheet_with sheet.id book.sheets ≡ Some sheet) book.sheets) where
  -- a sheet that is found has a title
  abbrev titled : (id : ℕ) (sheet : PlaceSheet) → place_sheet_with id book.sheets ≡ Some sheet
      → HasTitle (formula_sheets book.sheets) id
  titled id sheet is = record {
    title = sheet.title;
    has = ap (option_map (λ (one : PlaceSheet). one.title)) is;
    some = (sound_sheet book sound id sheet is).titled;
  }

  -- one that a title names is named by its own
  known : (title : List ℕ) (id : ℕ) → sheet_named (formula_sheets book.sheets) title ≡ Some id
      → IsKnown (formula_sheets book.sheets) id
  known title id named =
      let test : PlaceSheet → Bool =
      λ sheet. bytes_eq (str_to_ascii_lowercase sheet.title) (str_to_ascii_lowercase title) in
      let (sheet, found, same_id) = told_of (λ (sheet : PlaceSheet). sheet.id) (find test book.sheets) id named in
      let there = holds_of_found (λ (one : PlaceSheet). place_sheet_with one.id book.sheets ≡ Some one) test book.sheets
      sheet own found in
      let same_title = (bytes_eq-Decides (str_to_ascii_lowercase sheet.title) (str_to_ascii_lowercase title)).0
      (found_passes test book.sheets sheet found) in
      record {
        titled = titled id sheet (ap (λ n. place_sheet_with n book.sheets) (sym same_id) ∙ there);
        names = ap (formula_sheets book.sheets).named same_title ∙ named;
      }

  -- so the sheets can be told by their titles, as seen from one that is there
  pub are_known : (here : ℕ) → IsSome (place_sheet_with here book.sheets) → AreKnown (formula_sheets book.sheets) here
  are_known here some = record {
    own = titled_some (place_sheet_with here book.sheets) refl some;
    others = known;
  }
    where
      titled_some : (found : Option PlaceSheet) → place_sheet_with here book.sheets ≡ found → IsSome found
          → HasTitle (formula_sheets book.sheets) here
      titled_some None is some = absurd (no some)
        where
          no : IsSome {T = PlaceSheet} None → ⊥
          no e = cc
      titled_some (Some sheet) is some = titled here sheet is

-- ---- references

band_within : (band : Band) (count : ℕ) → first_line band < count → cut_band band count ≡ band → IsNonEmpty band
    → Within band count
band_within Whole count there same some = tt
band_within (From start) count there same some = there
band_within (Span start end) count there same some = (some, omega (arith, is))
  where
    is : min end count ≡ end
    is = cc

-- an area that A1 notation has has a line on both axes
has_lines : (rows cols : Band) → HasForm rows cols → IsNonEmpty rows × IsNonEmpty cols × HasNotation rows cols
has_lines Whole (Span start end) form = (tt, form.1.0, tt)
has_lines (From first) (Span start end) form = (tt, form.1.0, tt)
has_lines (Span first last) (Span start end) form = (form.0.0, form.1.0, tt)
has_lines (Span first last) Whole form = (form.0, tt, tt)
has_lines (Span first last) (From start) form = absurd form
has_lines (From first) Whole form = absurd form
has_lines (From first) (From start) form = absurd form
has_lines Whole Whole form = absurd form
has_lines Whole (From start) form = absurd form

abbrev is_in : Area → ℕ × ℕ → Bool
is_in area size = nat_lt (first_line area.rows) size.0 && nat_lt (first_line area.cols) size.1

cut_same : (area : Area) (size : ℕ × ℕ) (b : Bool) → is_in area size ≡ b
    → cond b (Some (cut_area area size.0 size.1)) None ≡ Some area
    → (is_in area size ≡ true) × (cut_area area size.0 size.1 ≡ area)
cut_same area size true inside is = (inside, same_Some (cut_area area size.0 size.1) area is)
cut_same area size false inside is = absurd (none-some area is)

area_within : (area : Area) (size : ℕ × ℕ) → clipped area (Some size) ≡ Some area → HasForm area.rows area.cols
    → AreaWithin area size.0 size.1 × HasNotation area.rows area.cols
area_within area size is form =
    let (inside, same) = cut_same area size (is_in area size) refl is in
    let parts = and_parts (nat_lt (first_line area.rows) size.0) (nat_lt (first_line area.cols) size.1) inside in
    let (some_rows, some_cols, notation) = has_lines area.rows area.cols form in (
      (
        band_within area.rows size.0 (ltb-true (first_line area.rows) size.0 parts.0)
            (ap (λ (one : Area). one.rows) same) some_rows,
        band_within area.cols size.1 (ltb-true (first_line area.cols) size.1 parts.1)
            (ap (λ (one : Area). one.cols) same) some_cols,
      ),
      notation,
    )

module _ (sheets : List PlaceSheet) (here : ℕ) where
  area_there : (area : Area) (found : Option PlaceSheet)
      → clipped area (option_map (λ (sheet : PlaceSheet). (sheet.table.rows, sheet.table.cols)) found) ≡ Some area
      → HasForm area.rows area.cols
      → IsSomeAnd found (λ sheet. AreaWithin area sheet.table.rows sheet.table.cols) × HasNotation area.rows area.cols
  area_there area None is form = absurd (none-some area is)
  area_there area (Some sheet) is form = area_within area (sheet.table.rows, sheet.table.cols) is form

  piece_within : (one : Piece) → IsPrintable (formula_sheets sheets) one → IsPresent (formula_sheets sheets) here one
      → IsPieceWithin sheets one
  piece_within (piece.Text text) printable present = tt
  piece_within (piece.Word word) printable present = tt
  piece_within (piece.Ref reference) printable present =
      area_there reference.area (place_sheet_with reference.area.sheet sheets) present.inside printable.form
  piece_within piece.Lost printable present = tt

  -- what a formula that was read refers to is there
  pub pieces_within : (pieces : List Piece) → ArePrintable (formula_sheets sheets) pieces
      → All (IsPresent (formula_sheets sheets) here) pieces → All (IsPieceWithin sheets) pieces
  pieces_within pieces printable present = λ k d there.
      piece_within (get_or pieces k d) (printable k d there) (present k d there)
