-- Changes of a spreadsheet one after another, and those that are made by places.
use Rattle.std.proofs.Common.{◌≡◌, ℕ, zero, suc, ◌+◌, ◌<◌, ◌≤◌, refl, sym, subst, ◌∙◌, List, [], ◌∷◌, ◌++◌, get_or, arith}
use Rattle.std.specs.Prelude.{◌==◌, map, unwrap_or}
use Rattle.std.specs.List.{All}
use Rattle.std.proofs.lemmas.List.Elements.{All-map}
use Rattle.std.proofs.lemmas.List.Sums.{fold-append}
use Rattle.world_model.specs.Area.{Orders}
use Rattle.world_model.specs.Book.{NameBook, PlaceBook, orders_of}
use Rattle.world_model.specs.BookChange.{BookChange, Named, NamedStandsFor, AreChanges, changed_by, changed_by_all}
use Rattle.world_model.specs.Laws.{StandsForApart, StandsForSome}
use Rattle.world_model.specs.Sheet.{NameSheet}
use Rattle.world_model.specs.Sound.{IsSound}
use Rattle.world_model.specs.StandsFor.{BookStandsFor}
use Rattle.world_model.specs.Updating.{Updates, book_updated, sheet_updated, update_named}
use Rattle.world_model.proofs.Written.{SameNames, written_is_same}

-- ---- a name that no line has

abbrev above : List ℕ → ℕ
above [] = 0
above (name ∷ names) = suc name + above names

pub all_above : (names : List ℕ) (more : ℕ) → above names ≤ more → All (λ name. name < more) names
all_above [] more less k d there = absurd (omega arith)
all_above (name ∷ names) more less zero d there =
    let sum : above (name ∷ names) ≡ suc name + above names = refl in
    omega (arith, sum, less)
all_above (name ∷ names) more less (suc k) d there =
    let sum : above (name ∷ names) ≡ suc name + above names = refl in
    all_above names more (omega (arith, sum, less)) k d (omega arith)

abbrev above_sheets : List NameSheet → ℕ
above_sheets [] = 0
above_sheets (sheet ∷ sheets) = above sheet.rows + above sheet.cols + above_sheets sheets

all_called : (sheets : List NameSheet) (more : ℕ) → above_sheets sheets ≤ more
    → All (λ sheet. All (λ name. name < more) sheet.rows × All (λ name. name < more) sheet.cols) sheets
all_called [] more less k d there = absurd (omega arith)
all_called (sheet ∷ sheets) more less zero d there =
    let sum : above_sheets (sheet ∷ sheets) ≡ above sheet.rows + above sheet.cols + above_sheets sheets = refl in (
      all_above sheet.rows more (omega (arith, sum, less)),
      all_above sheet.cols more (omega (arith, sum, less)),
    )
all_called (sheet ∷ sheets) more less (suc k) d there =
    let sum : above_sheets (sheet ∷ sheets) ≡ above sheet.rows + above sheet.cols + above_sheets sheets = refl in
    all_called sheets more (omega (arith, sum, less)) k d (omega arith)

-- what is sound stands for something by names, all of which come before one
pub named_for : StandsForSome → (book : PlaceBook) → IsSound book → (named : Named) × NamedStandsFor book named
named_for stands book sound =
    let some = stands.stands book sound in
    let next = above_sheets some.0.sheets in (
      record { book = some.0; next = next },
      record { stands = some.1; called = all_called some.0.sheets next (omega arith) },
    )

-- ---- one after another

pub changes_apart : StandsForSome → StandsForApart → (changes : List BookChange) (before one other : PlaceBook)
    → IsSound before → AreChanges changes before one → AreChanges changes before other → one ≡ other
changes_apart some apart changes before one other sound first second =
    let named = named_for some before sound in
    apart.same one other (changed_by_all named.0 changes).book (first.names named.0 named.1).stands
    (second.names named.0 named.1).stands

pub none_changed : (book : PlaceBook) → AreChanges [] book book
none_changed book = record { id = refl; names = λ named stands. stands }

pub both_changed : (first later : List BookChange) (before between after : PlaceBook) → AreChanges first before between
    → AreChanges later between after → AreChanges (first ++ later) before after
both_changed first later before between after one other = record {
  id = other.id ∙ one.id;
  names = λ named stands.
      subst (NamedStandsFor after) (sym (fold-append changed_by named first later))
      (other.names (changed_by_all named first) (one.names named stands));
}

pub changed_sound : StandsForSome → (changes : List BookChange) (before after : PlaceBook) → IsSound before
    → AreChanges changes before after → IsSound after
changed_sound some changes before after sound changed =
    let named = named_for some before sound in
    (changed.names named.0 named.1).stands.sound

-- ---- an update of cells

-- a sheet has the same lines, which were called before that name
same_called : (next : ℕ) (one other : NameSheet) → SameNames one other
    → All (λ name. name < next) other.rows × All (λ name. name < next) other.cols
    → All (λ name. name < next) one.rows × All (λ name. name < next) one.cols
same_called next one other same below = (
  subst (All (λ name. name < next)) (sym same.rows) below.0,
  subst (All (λ name. name < next)) (sym same.cols) below.1,
)

updated_called : (orders : Orders) (id : ℕ) (updates : Updates) (next : ℕ) (sheets : List NameSheet)
    → All (λ sheet. All (λ name. name < next) sheet.rows × All (λ name. name < next) sheet.cols) sheets
    → All (λ sheet. All (λ name. name < next) sheet.rows × All (λ name. name < next) sheet.cols)
    (map (sheet_updated orders id updates) sheets)
updated_called orders id updates next sheets below =
    All-map (λ sheet. All (λ name. name < next) sheet.rows × All (λ name. name < next) sheet.cols)
    (sheet_updated orders id updates) sheets
    (λ k d there. same_called next (sheet_updated orders id updates (get_or sheets k d)) (get_or sheets k d)
    (updated_same orders id updates (get_or sheets k d)) (below k d there))
  where
    updated_same : (orders : Orders) (id : ℕ) (updates : Updates) (sheet : NameSheet)
        → SameNames (sheet_updated orders id updates sheet) sheet
    updated_same orders id updates sheet =
        written_is_same (sheet.id == id) sheet
        (λ row col. unwrap_or (update_named orders sheet updates row col) (sheet.cells row col))

pub updates_are_changes : (before after : PlaceBook) (sheet : ℕ) (updates : Updates) → after.id ≡ before.id
    → ((names : NameBook) → BookStandsFor before names → BookStandsFor after (book_updated sheet updates names))
    → AreChanges (BookChange.CellsUpdated sheet updates ∷ []) before after
updates_are_changes before after sheet updates same follows = record {
  id = same;
  names = λ named stands. record {
    stands = follows named.book stands.stands;
    called = updated_called (orders_of named.book.sheets) sheet updates named.next named.book.sheets stands.called;
  };
}
