-- Law of the area that a range text names: it lies on its sheet, which is there.
use Rattle.std.proofs.Common.{◌≡◌, ℕ, ◌<◌, ◌≤◌, Bool, true, false, not, List, refl, sym, subst, arith}
use Rattle.std.specs.Prelude.{Option, Some, None, Result, Ok, Err, IsSomeAnd, nat_lt, ◌&&◌, if◌then◌else◌}
use Rattle.std.specs.List.{find}
use Rattle.std.specs.Option.{option_map_or}
use Rattle.std.specs.Str.{str_eq_ignore_ascii_case}
use Rattle.std.proofs.lemmas.Bool.{ltb-true}
use Rattle.a1_notation.specs.declared.a1.Part.{Part}
use Rattle.a1_notation.specs.declared.a1.Part.TheVariants.{Cells, WholeSheet, Word}
use Rattle.grid_range.specs.Area.{AreaWithin, cut_area}
use Rattle.grid_range.specs.Band.{Within, cut_band, end_line, first_line}
use Rattle.grid_range.specs.declared.area.Area.{Area}
use Rattle.grid_range.specs.declared.band.Band.{Band}
use Rattle.grid_range.specs.declared.band.Band.TheVariants.{Whole, From, Span}
use Rattle.formula_reader.specs.ReferenceText.{is_one_cell}
use Rattle.named_ranges.specs.Listed.{with_name}
use Rattle.named_ranges.specs.declared.range.NamedRange.{NamedRange}
use Rattle.world_model.specs.Book.{PlaceBook}
use Rattle.world_model.specs.Laws.{IdsFind}
use Rattle.world_model.specs.Sheet.{PlaceSheet}
use Rattle.world_model.specs.Sound.{IsSound, place_sheet_with}
use Rattle.dimension_ops.specs.Titles.{sheet_titled, first_visible}
use Rattle.dimension_ops.specs.declared.rule.Rule.{Rule}
use Rattle.dimension_ops.specs.declared.rule.Rule.TheVariants.{NoSheet, BadRange, OutsideGrid}
use Rattle.values_api.specs.FoundLaws.{holds_of_found, range_there, some_and}
use Rattle.values_api.specs.Ranges.{FoundArea, Resolves, named, unnamed, of_range, on_found, on_sheet, part_of, part_of_sheet}

-- no line of the area's ends is behind the sheet's last one
abbrev pub EndOn : Area → PlaceSheet → Type 0
EndOn area sheet =
    (end_line area.rows sheet.table.rows ≤ sheet.table.rows) × (end_line area.cols sheet.table.cols ≤ sheet.table.cols)

-- its first row is the sheet's, too, or the one behind the last one
abbrev pub LiesOn : Area → PlaceSheet → Type 0
LiesOn area sheet = EndOn area sheet × (first_line area.rows ≤ sheet.table.rows)

-- the area's sheet is there, and the area lies on it
abbrev pub LiesThere : List PlaceSheet → Area → Type 0
LiesThere sheets area = IsSomeAnd (place_sheet_with area.sheet sheets) (LiesOn area)

-- ---- bands

cut_ends : (band : Band) (count : ℕ) → end_line (cut_band band count) count ≤ count
cut_ends Whole count = omega arith
cut_ends (From start) count = omega arith
cut_ends (Span start end) count = omega arith

cut_first : (band : Band) (count : ℕ) → first_line (cut_band band count) ≡ first_line band
cut_first Whole count = refl
cut_first (From start) count = refl
cut_first (Span start end) count = refl

first_within : (band : Band) (count : ℕ) → Within band count → first_line band ≤ count
first_within Whole count within = omega arith
first_within (From start) count within = omega (arith, within)
first_within (Span start end) count within = omega (arith, within.0, within.1)

within_ends : (band : Band) (count : ℕ) → Within band count → end_line band count ≤ count
within_ends Whole count within = omega arith
within_ends (From start) count within = omega arith
within_ends (Span start end) count within = within.1

-- an area that is cut at the grid ends on its sheet
pub cut_area_ends : (area : Area) (sheet : PlaceSheet) → EndOn (cut_area area sheet.table.rows sheet.table.cols) sheet
cut_area_ends area sheet = (cut_ends area.rows sheet.table.rows, cut_ends area.cols sheet.table.cols)

-- ---- what is found

abbrev as_found : FoundArea → Result FoundArea Rule
as_found one = Ok one

abbrev as_broken : Rule → Result FoundArea Rule
as_broken broken = Err broken

found_same : (one other : FoundArea) → as_found one ≡ as_found other → one ≡ other
found_same one other e = cc

found_not_broken : (one : FoundArea) (broken : Rule) → as_found one ≡ as_broken broken → ⊥
found_not_broken one broken e = cc

-- the area, cut at the grid of the sheet
abbrev cut_on : Band → Band → PlaceSheet → FoundArea
cut_on rows cols sheet = (
  cut_area (record { sheet = sheet.id; rows = rows; cols = cols }) sheet.table.rows sheet.table.cols,
  is_one_cell rows cols,
)

module _ (sheets : List PlaceSheet) where
  abbrev Lies : FoundArea → Type 0
  Lies found = LiesThere sheets found.0

  abbrev Finds : PlaceSheet → Type 0
  Finds sheet = place_sheet_with sheet.id sheets ≡ Some sheet

  cut_lies : (rows cols : Band) (sheet : PlaceSheet) → Finds sheet → first_line rows < sheet.table.rows
      → Lies (cut_on rows cols sheet)
  cut_lies rows cols sheet finds there =
      subst (λ found. IsSomeAnd found (LiesOn (cut_on rows cols sheet).0)) (sym finds) (
        (cut_ends rows sheet.table.rows, cut_ends cols sheet.table.cols),
        let same = cut_first rows sheet.table.rows in omega (arith, same, there),
      )

  on_sheet_lies : (rows cols : Band) (sheet : PlaceSheet) (found : FoundArea) → Finds sheet
      → as_found found ≡ on_sheet rows cols sheet → Lies found
  on_sheet_lies rows cols sheet found finds =
      by_test (nat_lt (first_line rows) sheet.table.rows) (nat_lt (first_line cols) sheet.table.cols) refl
    where
      by_test : (row col : Bool) → nat_lt (first_line rows) sheet.table.rows ≡ row
          → as_found found ≡ (if row && col then as_found (cut_on rows cols sheet) else as_broken OutsideGrid)
          → Lies found
      by_test true true there is =
          subst Lies (sym (found_same found (cut_on rows cols sheet) is))
          (cut_lies rows cols sheet finds (ltb-true (first_line rows) sheet.table.rows there))
      by_test true false there is = absurd (found_not_broken found OutsideGrid is)
      by_test false col there is = absurd (found_not_broken found OutsideGrid is)

  on_found_lies : (missing : Rule) (rows cols : Band) (sheet : Option PlaceSheet) (found : FoundArea)
      → ((one : PlaceSheet) → sheet ≡ Some one → Finds one) → as_found found ≡ on_found missing rows cols sheet
      → Lies found
  on_found_lies missing rows cols None found finds is = absurd (found_not_broken found missing is)
  on_found_lies missing rows cols (Some sheet) found finds is =
      on_sheet_lies rows cols sheet found (finds sheet refl) is

module _ (ids : IdsFind) (book : PlaceBook) (sound : IsSound book) where
  -- each sheet that is looked for is found by its id
  looked_for : (test : PlaceSheet → Bool) (one : PlaceSheet) → find test book.sheets ≡ Some one
      → Finds book.sheets one
  looked_for test one is = holds_of_found (Finds book.sheets) test book.sheets one (ids.finds book sound) is

  range_lies : (word : List ℕ) (range : NamedRange) → with_name word book.ranges ≡ Some range
      → Lies book.sheets (of_range range)
  range_lies word range is =
      let (sheet, there, within) = some_and (λ (sheet : PlaceSheet). AreaWithin range.area sheet.table.rows
      sheet.table.cols) (place_sheet_with range.area.sheet book.sheets) (range_there book sound word range is) in
      subst (λ found. IsSomeAnd found (LiesOn range.area)) (sym there) (
        (within_ends range.area.rows sheet.table.rows within.0, within_ends range.area.cols sheet.table.cols within.1),
        first_within range.area.rows sheet.table.rows within.0,
      )

  called_lies : (word : List ℕ) (range : Option NamedRange) (found : FoundArea) → with_name word book.ranges ≡ range
      → as_found found ≡ option_map_or (λ range. Ok (of_range range)) range
      (on_found BadRange Whole Whole (sheet_titled word book.sheets)) → Lies book.sheets found
  called_lies word None found is names =
      on_found_lies book.sheets BadRange Whole Whole (sheet_titled word book.sheets) found
      (looked_for (λ sheet. str_eq_ignore_ascii_case sheet.title word)) names
  called_lies word (Some range) found is names =
      subst (Lies book.sheets) (sym (found_same found (of_range range) names)) (range_lies word range is)

  titled_lies : (title : List ℕ) (part : Part) (found : FoundArea)
      → as_found found ≡ part_of_sheet part (sheet_titled title book.sheets) → Lies book.sheets found
  titled_lies title (Cells rows cols) found is =
      on_found_lies book.sheets NoSheet rows cols (sheet_titled title book.sheets) found
      (looked_for (λ sheet. str_eq_ignore_ascii_case sheet.title title)) is
  titled_lies title WholeSheet found is =
      on_found_lies book.sheets NoSheet Whole Whole (sheet_titled title book.sheets) found
      (looked_for (λ sheet. str_eq_ignore_ascii_case sheet.title title)) is
  titled_lies title (Word word) found is = absurd (found_not_broken found BadRange is)

  part_lies : (title : Option (List ℕ)) (part : Part) (found : FoundArea) → as_found found ≡ part_of book title part
      → Lies book.sheets found
  part_lies (Some title) part found is = titled_lies title part found is
  part_lies None (Cells rows cols) found is =
      on_found_lies book.sheets NoSheet rows cols (first_visible book.sheets) found
      (looked_for (λ sheet. not sheet.hidden)) is
  part_lies None (Word word) found is = called_lies word (with_name word book.ranges) found refl is
  part_lies None WholeSheet found is = absurd (found_not_broken found BadRange is)

  -- what a range text names lies on its sheet, which is there
  pub named_lies : (text : List ℕ) (found : FoundArea) → Resolves text book (Ok found) → LiesThere book.sheets found.0
  named_lies text found (named range names is) = part_lies range.sheet range.part found is
  named_lies text found (unnamed none is) = absurd (found_not_broken found BadRange is)
