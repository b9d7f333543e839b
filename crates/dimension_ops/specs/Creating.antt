-- Which rules are broken by a spreadsheet that is to be created, and the one that is (Google Sheets API v4 reference,
-- spreadsheets.create). Its sheets are those that addSheet would add one after another to a spreadsheet without any:
-- each is judged, and what isn't given is chosen, beside those before it in the list alone. Each rule is tried on all
-- of them before the next one.
use Rattle.std.specs.Prelude.{◌≡◌, ◌<◌, ◌≤◌, ◌+◌, ◌*◌, ◌++◌, ℕ, true, false, List, [], ◌∷◌, length, take, drop, get_or, None, String, nat_lt, codes, Result, IfOk, ⊤}
use Rattle.std.specs.BTreeSet.{BTreeSet, contains, contains_text}
use Rattle.std.specs.Fmt.{decimal}
use Rattle.std.specs.List.{fold, list_all, list_any, sum_by}
use Rattle.std.specs.Ordering.{nat_cmp}
use Rattle.std.specs.Str.{str_to_ascii_lowercase}
use Rattle.cell_value.specs.declared.cell.SheetProperties.{SheetProperties}
use Rattle.grid_range.specs.declared.axis.Axis.TheVariants.{Rows, Columns}
use Rattle.world_model.specs.Book.{PlaceBook}
use Rattle.world_model.specs.Making.{Placed, additions, bare_book, bare_names, made_by_name, with_all_placed, with_named_book}
use Rattle.world_model.specs.Sheet.{PlaceSheet}
use Rattle.world_model.specs.SheetChange.{new_place_sheet}
use Rattle.world_model.specs.Sound.{most_on, most_places, most_sheets}
use Rattle.world_model.specs.World.{NameWorld, WorldStandsFor}
use Rattle.dimension_ops.specs.Broken.{Broken, Passes, first_passed, judged_by, unbroken}
use Rattle.dimension_ops.specs.SheetRequests.{IsNewSheet, has_id, has_title, new_place, numbered_title, sheet_added_broken}
use Rattle.dimension_ops.specs.World.{most_books}
use Rattle.dimension_ops.specs.declared.creating.Faults.{Faults}
use Rattle.dimension_ops.specs.declared.rule.Limit.TheVariants as limit
use Rattle.dimension_ops.specs.declared.rule.Rule.{Rule}

-- ---- the sheets

-- a sheet of which nothing is asked
abbrev pub any_sheet : SheetProperties
any_sheet = record { id = None; title = None; index = None; hidden = None; rows = None; cols = None }

-- where no sheets are asked for there is one
abbrev pub asked_sheets : List SheetProperties → List SheetProperties
asked_sheets [] = any_sheet ∷ []
asked_sheets (asked ∷ others) = asked ∷ others

-- with one sheet more
abbrev pub sheets_with : List PlaceSheet → Placed → List PlaceSheet
sheets_with sheets placed = take placed.0 sheets ++ new_place_sheet placed.1 ∷ drop placed.0 sheets

-- the sheets once all of these are put in
abbrev pub sheets_made : List Placed → List PlaceSheet
sheets_made placed = fold sheets_with [] placed

-- the sheet that is asked for, and its place, beside those before it
abbrev pub IsPlaced : SheetProperties → List PlaceSheet → Placed → Type 0
IsPlaced asked sheets placed = (placed.0 ≡ new_place asked sheets) × IsNewSheet asked sheets placed.1

-- each of them beside those before it
abbrev pub ArePlaced : List SheetProperties → List PlaceSheet → List Placed → Type 0
ArePlaced [] sheets [] = ⊤
ArePlaced [] sheets (placed ∷ rest) = ⊥
ArePlaced (asked ∷ others) sheets [] = ⊥
ArePlaced (asked ∷ others) sheets (placed ∷ rest) =
    IsPlaced asked sheets placed × ArePlaced others (sheets_with sheets placed) rest

-- ---- rules

-- of each of them, which rules of a sheet that is added it breaks beside those before it
abbrev pub broken_each : List SheetProperties → List PlaceSheet → List Placed → List Broken
broken_each [] sheets placed = []
broken_each (asked ∷ others) sheets [] = []
broken_each (asked ∷ others) sheets (placed ∷ rest) =
    sheet_added_broken asked sheets ∷ broken_each others (sheets_with sheets placed) rest

-- how many places they have together
abbrev pub placed_places : List Placed → ℕ
placed_places placed = sum_by (λ one. one.1.rows * one.1.cols) placed

-- so many spreadsheets, and one with these sheets, are past such limits
abbrev pub passes_created : ℕ → List Placed → Passes
passes_created books placed limit.Books = nat_lt most_books books
passes_created books placed limit.Sheets = nat_lt most_sheets (length placed)
passes_created books placed limit.Rows = list_any (λ one. nat_lt (most_on Rows) one.1.rows) placed
passes_created books placed limit.Columns = list_any (λ one. nat_lt (most_on Columns) one.1.cols) placed
passes_created books placed limit.Cells = nat_lt most_places (placed_places placed)
passes_created books placed _ = false

-- beside so many spreadsheets
abbrev pub created_broken : ℕ → List SheetProperties → List Placed → Broken
created_broken books asked placed =
    let each = broken_each asked [] placed in
    record unbroken {
      bad_range = list_any (λ one. one.bad_range) each;
      id_taken = list_any (λ one. one.id_taken) each;
      bad_name = list_any (λ one. one.bad_name) each;
      name_taken = list_any (λ one. one.name_taken) each;
      last_line = list_any (λ one. one.last_line) each;
      last_sheet = list_all (λ one. one.1.hidden) placed;
      past_limit = first_passed (passes_created (books + 1) placed);
    }

-- ---- the spreadsheet

-- the id of the one that is made as the one after so many others
abbrev pub book_id : ℕ → List ℕ
book_id others = codes "book" ++ decimal (others + 1)

-- it stands behind those that there are, all of whose lines keep their names, and all its lines are new
pub record IsBookAdded (owner title : List ℕ) (asked : List SheetProperties) (before after : List PlaceBook)
    (told : Result (List ℕ) Rule) : Type 0 where
  pub placed : List Placed
  pub are : ArePlaced asked [] placed
  pub judged : told ≡ judged_by (created_broken (length before) asked placed) (book_id (length before))
  pub added : IfOk told (λ id. after ≡ before ++ with_all_placed (bare_book id title owner) placed ∷ [])
  pub names : IfOk told (λ id. (world : NameWorld) → WorldStandsFor before world → WorldStandsFor after
      (with_named_book (made_by_name (bare_names id title owner) (additions placed) world.next) world))

-- ---- what the private functions hand to one another

-- some sheet breaks the rule just where the mark says so
pub record AreFaults (faults : Faults) (each : List Broken) : Type 0 where
  pub bad_range : faults.bad_range ≡ list_any (λ one. one.bad_range) each
  pub id_taken : faults.id_taken ≡ list_any (λ one. one.id_taken) each
  pub bad_name : faults.bad_name ≡ list_any (λ one. one.bad_name) each
  pub name_taken : faults.name_taken ≡ list_any (λ one. one.name_taken) each
  pub last_line : faults.last_line ≡ list_any (λ one. one.last_line) each

-- the numbers are the ids of the sheets
abbrev pub HasIdsOf : List PlaceSheet → BTreeSet ℕ → Type 0
HasIdsOf sheets ids = (id : ℕ) → contains nat_cmp ids id ≡ has_id sheets id

-- the texts are the titles of the sheets in lower case
abbrev pub HasTitlesOf : {Y : Type 0} → List PlaceSheet → BTreeSet (String Y) → Type 0
HasTitlesOf sheets titles =
    (title : List ℕ) → contains_text titles (str_to_ascii_lowercase title) ≡ has_title sheets title

-- all ids below are those of sheets
abbrev pub AreIdsBelow : List PlaceSheet → ℕ → Type 0
AreIdsBelow sheets least = (lesser : ℕ) → lesser < least → has_id sheets lesser ≡ true

-- and all titles with numbers from 1 on that are below are
abbrev pub AreTitlesBelow : List PlaceSheet → ℕ → Type 0
AreTitlesBelow sheets number =
    (1 ≤ number) × ((lesser : ℕ) → 1 ≤ lesser → lesser < number → has_title sheets (numbered_title lesser) ≡ true)

-- each stands at a place that is there
abbrev pub HavePlaces : List Placed → Type 0
HavePlaces placed = (place : ℕ) (d : Placed) → place < length placed → (get_or placed place d).0 ≤ place
