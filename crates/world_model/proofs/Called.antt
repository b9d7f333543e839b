-- A sound spreadsheet stands for the one whose lines are called by their places.
use Rattle.std.proofs.Common.{◌≡◌, ℕ, suc, ◌<◌, refl, sym, ap, subst, ◌∙◌, List, [], ◌∷◌, cond, Bool, true, false, get_or, arith}
use Rattle.std.specs.Prelude.{Option, None, Some, is_some, map, slice_get, ◌==◌, ◌↔◌, Contains}
use Rattle.std.specs.List.{All, AllZip, range_with_len}
use Rattle.std.specs.Option.{option_map, option_map_or}
use Rattle.std.proofs.Math.Path.{fun_ext}
use Rattle.std.proofs.lemmas.List.FromFn.{length-range_with_len, get_or-range_with_len}
use Rattle.std.proofs.lemmas.Option.{slice_get_within, slice_get-get_or, get_or_from_slice_get}
use Rattle.grid_range.specs.Order.{IsOrder}
use Rattle.grid_range.specs.declared.axis.Axis.{Axis}
use Rattle.grid_range.specs.declared.axis.Axis.TheVariants.{Rows, Columns}
use Rattle.cell_store.specs.Moved.{lines_on}
use Rattle.cell_store.specs.Table.{HasItemsInside, item_at}
use Rattle.ref_rewrite.specs.declared.cell_content.Content.{Content}
use Rattle.world_model.specs.Area.{Orders, area_named}
use Rattle.world_model.specs.Book.{NameBook, PlaceBook, orders_of, sheet_with}
use Rattle.world_model.specs.Content.{NameContent, content_named}
use Rattle.world_model.specs.Filters.{filter_named}
use Rattle.world_model.specs.Metadata.{item_named}
use Rattle.world_model.specs.Protections.{protection_named}
use Rattle.world_model.specs.Ranges.{range_named}
use Rattle.world_model.specs.Sheet.{NameSheet, PlaceSheet, lines_of}
use Rattle.world_model.specs.Sound.{IsSound, IsSheetSound, place_sheet_with}
use Rattle.world_model.specs.StandsFor.{SheetStandsFor, BookStandsFor}
use Rattle.world_model.proofs.Lines.{listed}

-- as many lines, each called by its place
abbrev by_places : ℕ → List ℕ
by_places count = range_with_len 0 count

held_at : (count place d : ℕ) → place < count → get_or (by_places count) place d ≡ place
held_at count place d there = omega (arith, get_or-range_with_len 0 count place d there)

name_at : (count place name : ℕ) → slice_get (by_places count) place ≡ Some name → name ≡ place
name_at count place name at =
    let there : place < count =
    subst (λ n. place < n) (length-range_with_len 0 count) (slice_get_within (by_places count) place name at) in
    sym (get_or_from_slice_get (by_places count) place name 0 at) ∙ held_at count place 0 there

is_listed : (count place : ℕ) → place < count → Contains (by_places count) place
is_listed count place there =
    listed (by_places count) place place
    (slice_get-get_or (by_places count) place 0 (subst (λ n. place < n) (sym (length-range_with_len 0 count)) there)
    ∙ ap Some (held_at count place 0 there))

is_order : (count : ℕ) → IsOrder (by_places count)
is_order count i j d less there =
    let inside : j < count = subst (λ n. j < n) (length-range_with_len 0 count) there in
    λ same. absurd (omega (arith, sym (held_at count i d (omega arith)) ∙ same ∙ held_at count j d inside))

-- the sheet by these names
abbrev called : Orders → PlaceSheet → NameSheet
called orders sheet = record {
  id = sheet.id;
  title = sheet.title;
  hidden = sheet.hidden;
  rows = by_places sheet.table.rows;
  cols = by_places sheet.table.cols;
  cells = λ row col. option_map (content_named orders) (item_at sheet.table row col);
  merges = map (area_named orders) sheet.merges;
  filter = option_map (filter_named orders) sheet.filter;
}

abbrev called_orders : List PlaceSheet → Orders
called_orders sheets id axis =
    option_map_or (λ sheet. by_places (lines_on axis sheet.table.rows sheet.table.cols)) (place_sheet_with id sheets) []

module _ (orders : Orders) where
  first_called : (b : Bool) (sheet : PlaceSheet) (rest : Option PlaceSheet) (rest' : Option NameSheet)
      → rest' ≡ option_map (called orders) rest
      → cond b (Some (called orders sheet)) rest' ≡ option_map (called orders) (cond b (Some sheet) rest)
  first_called true sheet rest rest' same = refl
  first_called false sheet rest rest' same = same

  found_called : (id : ℕ) (sheets : List PlaceSheet)
      → sheet_with id (map (called orders) sheets) ≡ option_map (called orders) (place_sheet_with id sheets)
  found_called id [] = refl
  found_called id (s ∷ ss) =
      first_called (s.id == id) s (place_sheet_with id ss) (sheet_with id (map (called orders) ss)) (found_called id ss)

  lines_called : (found : Option PlaceSheet) (axis : Axis)
      → option_map_or (λ sheet. lines_of sheet axis) (option_map (called orders) found) []
      ≡ option_map_or (λ sheet. by_places (lines_on axis sheet.table.rows sheet.table.cols)) found []
  lines_called None axis = refl
  lines_called (Some sheet) Rows = refl
  lines_called (Some sheet) Columns = refl

  -- the orders of the sheets by these names don't depend on what is in their cells
  same_orders : (sheets : List PlaceSheet) → orders_of (map (called orders) sheets) ≡ called_orders sheets
  same_orders sheets = fun_ext (λ id. fun_ext (λ axis.
      ap (λ found. option_map_or (λ sheet. lines_of sheet axis) found []) (found_called id sheets)
      ∙ lines_called (place_sheet_with id sheets) axis))

nothing_named : (f : Content → NameContent) (held : Option Content) → ¬ (is_some held ≡ true) → option_map f held ≡ None
nothing_named f None none = refl
nothing_named f (Some item) none = absurd (none refl)

sheet_stands : (orders : Orders) (sheets : List NameSheet) (sheet : PlaceSheet) → orders_of sheets ≡ orders
    → HasItemsInside sheet.table → SheetStandsFor sheets sheet (called orders sheet)
sheet_stands orders sheets sheet same inside = record {
  id = refl;
  title = refl;
  hidden = refl;
  distinct_rows = is_order sheet.table.rows;
  distinct_cols = is_order sheet.table.cols;
  rows = sym (length-range_with_len 0 sheet.table.rows);
  cols = sym (length-range_with_len 0 sheet.table.cols);
  cells = λ row col r c at_row at_col.
      ap (λ n. option_map (content_named orders) (item_at sheet.table n c)) (name_at sheet.table.rows row r at_row)
      ∙ ap (λ n. option_map (content_named orders) (item_at sheet.table row n)) (name_at sheet.table.cols col c at_col)
      ∙ ap (λ orders. option_map (content_named orders) (item_at sheet.table row col)) (sym same);
  nowhere_else = λ r c out. nothing_named (content_named orders) (item_at sheet.table r c) (λ some.
      let there = inside r c some in
      out (is_listed sheet.table.rows r there.0, is_listed sheet.table.cols c there.1));
  merges = λ area.
      subst (λ other. Contains (map (area_named orders) sheet.merges) area
      ↔ Contains (map (area_named other) sheet.merges) area)
      (sym same) (λ listed. listed, λ listed. listed);
  filter = ap (λ orders. option_map (filter_named orders) sheet.filter) (sym same);
}

sheets_stand : (orders : Orders) (sheets : List NameSheet) (placed some : List PlaceSheet) → orders_of sheets ≡ orders
    → All (IsSheetSound placed) some → AllZip (SheetStandsFor sheets) some (map (called orders) some)
sheets_stand orders sheets placed [] same sound = tt
sheets_stand orders sheets placed (s ∷ ss) same sound = (
  sheet_stands orders sheets s same (sound 0 s (omega arith)).inside,
  sheets_stand orders sheets placed ss same (λ k d there. sound (suc k) d (omega arith)),
)

-- the law
pub stands_for_some : (book : PlaceBook) → IsSound book → (names : NameBook) × BookStandsFor book names
stands_for_some book sound =
    let orders = called_orders book.sheets in
    let names : NameBook = record {
      id = book.id;
      title = book.title;
      owner = book.owner;
      sheets = map (called orders) book.sheets;
      ranges = map (range_named orders) book.ranges;
      protections = map (protection_named orders) book.protections;
      metadata = map (item_named orders) book.metadata;
    } in (
      names,
      record {
        sound = sound;
        id = refl;
        title = refl;
        owner = refl;
        sheets = sheets_stand orders names.sheets book.sheets book.sheets (same_orders orders book.sheets) sound.sheets;
        ranges = ap (λ orders. map (range_named orders) book.ranges) (sym (same_orders orders book.sheets));
        protections =
            ap (λ orders. map (protection_named orders) book.protections) (sym (same_orders orders book.sheets));
        metadata = ap (λ orders. map (item_named orders) book.metadata) (sym (same_orders orders book.sheets));
      },
    )
