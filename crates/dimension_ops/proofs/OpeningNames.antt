-- The spreadsheet of the beginning stands for that by names, and has the first number.
use Rattle.std.proofs.Common.{ℕ, zero, suc, ◌+◌, ◌<◌, ◌≤◌, refl, sym, ap, subst, ◌∙◌, [], ◌∷◌, ◌++◌, arith, codes, false}
use Rattle.std.specs.Prelude.{None}
use Rattle.std.specs.List.{All, range_with_len}
use Rattle.std.specs.Option.{option_map}
use Rattle.std.proofs.lemmas.Fmt.{decimal_digit}
use Rattle.std.proofs.lemmas.List.Elements.{All-nil, All-push}
use Rattle.std.proofs.lemmas.List.FromFn.{length-range_with_len, get_or-range_with_len}
use Rattle.grid_range.specs.Order.{IsOrder}
use Rattle.cell_store.specs.Table.{empty_table}
use Rattle.grid_range.specs.Area.{by_rows}
use Rattle.std.specs.FinMap as finite
use Rattle.world_model.specs.Book.{NameBook, PlaceBook, orders_of}
use Rattle.world_model.specs.Content.{content_named}
use Rattle.world_model.specs.Sheet.{NameSheet, PlaceSheet}
use Rattle.world_model.specs.Sound.{IsSound}
use Rattle.world_model.specs.StandsFor.{SheetStandsFor, BookStandsFor}
use Rattle.world_model.specs.World.{HasNamesBelow, WorldStandsFor}
use Rattle.dimension_ops.specs.declared.sheets.TheConstants.{DEFAULT_COLUMNS, DEFAULT_ROWS}
use Rattle.dimension_ops.specs.World.{AreNumbered, opening_book, opening_names, opening_world}
use Rattle.dimension_ops.proofs.Opening.{opening_sound}

first_names : (first count : ℕ) → IsOrder (range_with_len first count)
first_names first count i j d less there =
    let inside : j < count = subst (λ n. j < n) (length-range_with_len first count) there in
    let one = get_or-range_with_len first count i d (omega (arith, less, inside)) in
    let other = get_or-range_with_len first count j d inside in
    λ same. absurd (omega (arith, sym one ∙ same ∙ other, less))

names_below : (first count next : ℕ) → first + count ≤ next → All (λ name. name < next) (range_with_len first count)
names_below first count next fits k d there =
    let inside : k < count = subst (λ n. k < n) (length-range_with_len first count) there in
    let name = get_or-range_with_len first count k d inside in
    omega (arith, fits, inside, name)

module _ (rows cols : ℕ) where
  abbrev sheet : PlaceSheet
  sheet = record {
    id = 0;
    title = codes "Sheet1";
    hidden = false;
    table = empty_table rows cols;
    merges = [];
    filter = None;
  }

  abbrev book : PlaceBook
  book = record {
    id = codes "book1";
    title = codes "book1";
    owner = codes "owner";
    sheets = sheet ∷ [];
    ranges = [];
    protections = [];
    metadata = [];
  }

  abbrev names : NameBook
  names = record {
    id = codes "book1";
    title = codes "book1";
    owner = codes "owner";
    sheets = opening_names rows cols ∷ [];
    ranges = [];
    protections = [];
    metadata = [];
  }

  sheet_stands : SheetStandsFor names.sheets sheet (opening_names rows cols)
  sheet_stands = record {
    id = refl;
    title = refl;
    hidden = refl;
    distinct_rows = first_names 0 rows;
    distinct_cols = first_names rows cols;
    rows = sym (length-range_with_len 0 rows);
    cols = sym (length-range_with_len rows cols);
    cells = λ row col r c at_row at_col.
        ap (option_map (content_named (orders_of names.sheets))) (sym (finite.get-empty by_rows (row, col)));
    nowhere_else = λ r c out. refl;
    merges = λ area. (λ c. c, λ c. c);
    filter = refl;
  }

  book_stands : IsSound book → BookStandsFor book names
  book_stands sound = record {
    sound = sound;
    id = refl;
    title = refl;
    owner = refl;
    sheets = (sheet_stands, tt);
    ranges = refl;
    protections = refl;
    metadata = refl;
  }

  names_are_below : (next : ℕ) → rows + cols ≤ next → HasNamesBelow next names
  names_are_below next fits =
      All-push
      (λ (meant : NameSheet). All (λ name. name < next) meant.rows × All (λ name. name < next) meant.cols) []
      (opening_names rows cols)
      (All-nil (λ (meant : NameSheet). All (λ name. name < next) meant.rows × All (λ name. name < next) meant.cols))
      (names_below 0 rows next (omega (arith, fits)), names_below rows cols next fits)

  world_stands : (next : ℕ) → rows + cols ≤ next → IsSound book
      → WorldStandsFor (book ∷ []) (record { books = names ∷ []; next = next })
  world_stands next fits sound = record {
    each = (book_stands sound, tt);
    called = All-push (HasNamesBelow next) [] names (All-nil (HasNamesBelow next)) (names_are_below next fits);
  }

pub opening_stands : WorldStandsFor (opening_book ∷ []) opening_world
opening_stands = world_stands DEFAULT_ROWS DEFAULT_COLUMNS (DEFAULT_ROWS + DEFAULT_COLUMNS) (omega arith)
    (opening_sound (codes "book1") (codes "book1") (codes "owner"))

pub first_numbered : AreNumbered (opening_book ∷ [])
first_numbered zero d there = ap (λ number. codes "book" ++ number) (sym (decimal_digit 1 (omega arith)))
first_numbered (suc k) d there = absurd (let no : ⊥ = omega (arith, there) in no)
