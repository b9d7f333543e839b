-- Cells that changes of a spreadsheet leave.
use Rattle.std.proofs.Common.{◌≡◌, ℕ, refl, sym, ap, subst, ◌∙◌, List, [], ◌∷◌, cond, Bool, true, false}
use Rattle.std.specs.Prelude.{Option, Some, None, Contains, IfSome, IsSomeAnd, ◌==◌, map, not, unwrap_or, option_and_then}
use Rattle.std.specs.List.{range_with_len}
use Rattle.std.specs.Option.{option_map}
use Rattle.std.proofs.lemmas.Bool.{eqb-true, eq-eqb, false≢true}
use Rattle.grid_range.specs.Change.{inserted_lines, order_change}
use Rattle.world_model.specs.Area.{NameArea, Orders, area_named}
use Rattle.world_model.specs.Book.{orders_of, sheet_with}
use Rattle.world_model.specs.BookChange.{BookChange, Named, changed_by, changed_by_all, name_content_renamed, name_content_without, filtered, marked_hidden, merged, new_sheet, sheet_renamed, titled, without_references}
use Rattle.world_model.specs.BookChange.BookChange.{CellsUpdated, LinesChanged, SheetAdded, SheetDeleted, SheetTitled, SheetHidden}
use Rattle.world_model.specs.BookChange.BookChange.{RangeAdded, RangeChanged, RangeDeleted, WordsRenamed, MergesSet, ProtectionsSet, MetadataSet, FilterSet}
use Rattle.world_model.specs.Content.{NameContent}
use Rattle.world_model.specs.Filters.{NameFilter, filter_named}
use Rattle.world_model.specs.LineChange.{LineChange, line_change, name_content_followed, sheet_followed}
use Rattle.world_model.specs.Sheet.{NameSheet}
use Rattle.world_model.specs.Leaving.{HasCell, LeaveInTurn, Leaves, cell_of, content_kept, content_kept_by_all}
use Rattle.world_model.specs.SheetFound.{find_beside, find_kept, find_left, not_found, others}
use Rattle.world_model.specs.Updating.{Updates, sheet_updated, update_named}
use Rattle.world_model.proofs.Changed.{both_listed}
use Rattle.world_model.proofs.Orders.{followed_cells, followed_id}

-- ---- the sheet that is found

none_one : (gone : ℕ) (sheet : NameSheet) (sheets : List NameSheet) → sheet_with gone (others gone sheets) ≡ None
    → (b : Bool) → (sheet.id == gone) ≡ b
    → sheet_with gone (cond (not b) (sheet ∷ others gone sheets) (others gone sheets)) ≡ None
none_one gone sheet sheets rest true is = rest
none_one gone sheet sheets rest false is =
    not_found (sheet.id == gone) sheet (sheet_with gone (others gone sheets)) is ∙ rest

-- and it isn't
none_left : (gone : ℕ) (sheets : List NameSheet) → sheet_with gone (others gone sheets) ≡ None
none_left gone [] = refl
none_left gone (sheet ∷ sheets) = none_one gone sheet sheets (none_left gone sheets) (sheet.id == gone) refl

-- ---- the cell

-- what is found holds in the cell what becomes of what was there
cell_kept : (kept : NameContent → NameContent) (row col : ℕ) (found found' : Option NameSheet)
    (changed : NameSheet → NameSheet) → found' ≡ option_map changed found
    → IfSome found (λ sheet. (changed sheet).cells row col ≡ option_map kept (sheet.cells row col))
    → option_and_then (λ sheet. sheet.cells row col) found'
    ≡ option_map kept (option_and_then (λ sheet. sheet.cells row col) found)
cell_kept kept row col None found' changed is holds =
    ap (option_and_then (λ (sheet : NameSheet). sheet.cells row col)) is
cell_kept kept row col (Some sheet) found' changed is holds =
    ap (option_and_then (λ (sheet : NameSheet). sheet.cells row col)) is ∙ holds

kept_as_is : (held : Option NameContent) → held ≡ option_map (λ content. content) held
kept_as_is None = refl
kept_as_is (Some content) = refl

if_some : {P : NameSheet → Type 0} (found : Option NameSheet) → ((sheet : NameSheet) → P sheet) → IfSome found P
if_some None holds = tt
if_some (Some sheet) holds = holds sheet

-- ---- by kind of change

found_at : (b : Bool) (sheet : NameSheet) (id : ℕ) (found : Option NameSheet) → (b ≡ true → sheet.id ≡ id)
    → IfSome found (λ one. one.id ≡ id) → IfSome (cond b (Some sheet) found) (λ one. one.id ≡ id)
found_at true sheet id found is rest = is refl
found_at false sheet id found is rest = rest

found_id : (id : ℕ) (sheets : List NameSheet) → IfSome (sheet_with id sheets) (λ sheet. sheet.id ≡ id)
found_id id [] = tt
found_id id (sheet ∷ sheets) =
    found_at (sheet.id == id) sheet id (sheet_with id sheets) (eqb-true sheet.id id) (found_id id sheets)

followed_cell : (to : LineChange) (sheet : NameSheet) (row col : ℕ) → Contains (sheet_followed to sheet).rows row
    → Contains (sheet_followed to sheet).cols col
    → (sheet_followed to sheet).cells row col ≡ option_map (name_content_followed to) (sheet.cells row col)
followed_cell to sheet row col there there' =
    followed_cells to sheet row col
    ∙ ap (λ b. cond b (option_map (name_content_followed to) (sheet.cells row col)) None)
    (both_listed (sheet_followed to sheet).rows (sheet_followed to sheet).cols row col there there')

id_if : (b : Bool) (one other : NameSheet) → one.id ≡ other.id → (cond b one other).id ≡ other.id
id_if true one other same = same
id_if false one other same = refl

cell_if : (b : Bool) (one other : NameSheet) (row col : ℕ) → one.cells ≡ other.cells
    → (cond b one other).cells row col ≡ other.cells row col
cell_if true one other row col same = ap (λ cells. cells row col) same
cell_if false one other row col same = refl

-- the lines of the cell are those of what is found
cell_found : (id row col : ℕ) (sheets : List NameSheet) (found : Option NameSheet) (changed : NameSheet → NameSheet)
    → sheet_with id sheets ≡ option_map changed found
    → IsSomeAnd (sheet_with id sheets) (λ sheet. Contains sheet.rows row × Contains sheet.cols col)
    → IfSome found (λ sheet. Contains (changed sheet).rows row × Contains (changed sheet).cols col)
cell_found id row col sheets None changed is there = tt
cell_found id row col sheets (Some sheet) changed is there =
    subst (λ one. IsSomeAnd one (λ sheet. Contains sheet.rows row × Contains sheet.cols col)) is there

if_both : {P Q : NameSheet → Type 0} (found : Option NameSheet) → IfSome found P
    → ((sheet : NameSheet) → P sheet → Q sheet) → IfSome found Q
if_both None holds gives = tt
if_both (Some sheet) holds gives = gives sheet holds

-- no update is the cell's
updated_sheet : (orders : Orders) (changed : ℕ) (updates : Updates) (sheet : NameSheet) (row col : ℕ) (b : Bool)
    → (sheet.id == changed) ≡ b → (b ≡ true → update_named orders sheet updates row col ≡ None)
    → (sheet_updated orders changed updates sheet).cells row col ≡ option_map (λ content. content) (sheet.cells row col)
updated_sheet orders changed updates sheet row col true is none =
    ap (λ b. (cond b (record sheet
    { cells = λ r c. unwrap_or (update_named orders sheet updates r c) (sheet.cells r c) }) sheet).cells row col) is
    ∙ ap (λ update. unwrap_or update (sheet.cells row col)) (none refl) ∙ kept_as_is (sheet.cells row col)
updated_sheet orders changed updates sheet row col false is none =
    ap (λ b. (cond b (record sheet
    { cells = λ r c. unwrap_or (update_named orders sheet updates r c) (sheet.cells r c) }) sheet).cells row col) is
    ∙ kept_as_is (sheet.cells row col)

updated_found : (orders : Orders) (changed : ℕ) (updates : Updates) (id row col : ℕ) (sheets : List NameSheet)
    → (id ≡ changed → IfSome (sheet_with id sheets) (λ found. update_named orders found updates row col ≡ None))
    → IfSome (sheet_with id sheets) (λ sheet. (sheet_updated orders changed updates sheet).cells row col
    ≡ option_map (λ content. content) (sheet.cells row col))
updated_found orders changed updates id row col sheets leaves =
    go (sheet_with id sheets) (found_id id sheets) leaves
  where
    go : (found : Option NameSheet) → IfSome found (λ sheet. sheet.id ≡ id)
        → (id ≡ changed → IfSome found (λ one. update_named orders one updates row col ≡ None))
        → IfSome found (λ sheet. (sheet_updated orders changed updates sheet).cells row col
        ≡ option_map (λ content. content) (sheet.cells row col))
    go None same leaves = tt
    go (Some sheet) same leaves = updated_sheet orders changed updates sheet row col (sheet.id == changed) refl
        (λ is. leaves (sym same ∙ eqb-true sheet.id changed is))

-- a sheet that isn't deleted keeps its cells, and one that is has none
deleted_cell : (sheets : List NameSheet) (gone id row col : ℕ) (b : Bool) → (id == gone) ≡ b
    → IsSomeAnd (sheet_with id (map (without_references gone) (others gone sheets)))
    (λ sheet. Contains sheet.rows row × Contains sheet.cols col)
    → option_and_then (λ sheet. sheet.cells row col)
    (sheet_with id (map (without_references gone) (others gone sheets)))
    ≡ option_map (name_content_without gone) (option_and_then (λ sheet. sheet.cells row col) (sheet_with id sheets))
deleted_cell sheets gone id row col true is there = absurd (subst
    (λ found. IsSomeAnd found (λ sheet. Contains sheet.rows row × Contains sheet.cols col))
    (find_kept (without_references gone) (λ sheet. refl) id (others gone sheets)
    ∙ ap (λ one. option_map (without_references gone) (sheet_with one (others gone sheets))) (eqb-true id gone is)
    ∙ ap (option_map (without_references gone)) (none_left gone sheets)) there)
deleted_cell sheets gone id row col false is there =
    cell_kept (name_content_without gone) row col (sheet_with id sheets) _ (without_references gone)
    (find_kept (without_references gone) (λ sheet. refl) id (others gone sheets)
    ∙ ap (option_map (without_references gone)) (find_left gone id sheets
    (λ same. false≢true (sym is ∙ eq-eqb id gone same))))
    (if_some (sheet_with id sheets) (λ sheet. refl))

-- a change that leaves the cell, which is there before and after it, keeps what it holds
one_stays : (named : Named) (change : BookChange) (id row col : ℕ) → Leaves change named.book id row col
    → HasCell id row col (changed_by named change).book
    → cell_of id row col (changed_by named change).book
    ≡ option_map (content_kept named change) (cell_of id row col named.book)
one_stays named (CellsUpdated sheet updates) id row col leaves there =
    let orders = orders_of named.book.sheets in
    let changed : NameSheet → NameSheet = sheet_updated orders sheet updates in
    cell_kept (λ content. content) row col (sheet_with id named.book.sheets) _ changed
    (find_kept changed (λ one. id_if (one.id == sheet)
    (record one { cells = λ r c. unwrap_or (update_named orders one updates r c) (one.cells r c) }) one refl)
    id named.book.sheets)
    (updated_found orders sheet updates id row col named.book.sheets leaves)
one_stays named (LinesChanged sheet axis change) id row col leaves there =
    let fresh = range_with_len named.next (inserted_lines change) in
    let to = line_change named.book.sheets sheet axis (order_change change fresh) in
    let same = find_kept (sheet_followed to) (followed_id to) id named.book.sheets in
    cell_kept (name_content_followed to) row col (sheet_with id named.book.sheets) _ (sheet_followed to) same
    (if_both (sheet_with id named.book.sheets)
    (cell_found id row col (map (sheet_followed to) named.book.sheets) (sheet_with id named.book.sheets)
    (sheet_followed to)
    same there) (λ one both. followed_cell to one row col both.0 both.1))
one_stays named (SheetAdded at sheet) id row col leaves there =
    ap (option_and_then (λ (one : NameSheet). one.cells row col))
    (find_beside (new_sheet named.next sheet) id leaves at named.book.sheets)
    ∙ kept_as_is (cell_of id row col named.book)
one_stays named (SheetDeleted sheet) id row col leaves there =
    deleted_cell named.book.sheets sheet id row col (id == sheet) refl there
one_stays named (SheetTitled sheet title) id row col leaves there =
    let changed : NameSheet → NameSheet = λ one. cond (one.id == sheet) (titled title one) one in
    cell_kept (λ content. content) row col (sheet_with id named.book.sheets) _ changed
    (find_kept changed (λ one. id_if (one.id == sheet) (titled title one) one refl) id named.book.sheets)
    (if_some (sheet_with id named.book.sheets) (λ one. cell_if (one.id == sheet) (titled title one) one row col refl
    ∙ kept_as_is (one.cells row col)))
one_stays named (SheetHidden sheet hidden) id row col leaves there =
    let changed : NameSheet → NameSheet = λ one. cond (one.id == sheet) (marked_hidden hidden one) one in
    cell_kept (λ content. content) row col (sheet_with id named.book.sheets) _ changed
    (find_kept changed (λ one. id_if (one.id == sheet) (marked_hidden hidden one) one refl) id named.book.sheets)
    (if_some (sheet_with id named.book.sheets)
    (λ one. cell_if (one.id == sheet) (marked_hidden hidden one) one row col refl
    ∙ kept_as_is (one.cells row col)))
one_stays named (MergesSet sheet merges) id row col leaves there =
    let by_names : List NameArea = map (area_named (orders_of named.book.sheets)) merges in
    let changed : NameSheet → NameSheet = λ one. cond (one.id == sheet) (merged by_names one) one in
    cell_kept (λ content. content) row col (sheet_with id named.book.sheets) _ changed
    (find_kept changed (λ one. id_if (one.id == sheet) (merged by_names one) one refl) id named.book.sheets)
    (if_some (sheet_with id named.book.sheets) (λ one. cell_if (one.id == sheet) (merged by_names one) one row col refl
    ∙ kept_as_is (one.cells row col)))
one_stays named (RangeAdded range) id row col leaves there = kept_as_is (cell_of id row col named.book)
one_stays named (RangeChanged range) id row col leaves there = kept_as_is (cell_of id row col named.book)
one_stays named (RangeDeleted range) id row col leaves there = kept_as_is (cell_of id row col named.book)
one_stays named (ProtectionsSet protections) id row col leaves there = kept_as_is (cell_of id row col named.book)
one_stays named (MetadataSet items) id row col leaves there = kept_as_is (cell_of id row col named.book)
one_stays named (FilterSet sheet given) id row col leaves there =
    let by_names : Option NameFilter = option_map (filter_named (orders_of named.book.sheets)) given in
    let changed : NameSheet → NameSheet = λ one. cond (one.id == sheet) (filtered by_names one) one in
    cell_kept (λ content. content) row col (sheet_with id named.book.sheets) _ changed
    (find_kept changed (λ one. id_if (one.id == sheet) (filtered by_names one) one refl) id named.book.sheets)
    (if_some (sheet_with id named.book.sheets) (λ one.
    cell_if (one.id == sheet) (filtered by_names one) one row col refl ∙ kept_as_is (one.cells row col)))
one_stays named (WordsRenamed old new) id row col leaves there =
    cell_kept (name_content_renamed old new) row col (sheet_with id named.book.sheets) _ (sheet_renamed old new)
    (find_kept (sheet_renamed old new) (λ one. refl) id named.book.sheets)
    (if_some (sheet_with id named.book.sheets) (λ one. refl))

map_twice : (first later : NameContent → NameContent) (held : Option NameContent)
    → option_map later (option_map first held) ≡ option_map (λ content. later (first content)) held
map_twice first later None = refl
map_twice first later (Some content) = refl

-- one change after another
pub all_stay : (named : Named) (changes : List BookChange) (id row col : ℕ) → HasCell id row col named.book
    → LeaveInTurn named changes id row col
    → cell_of id row col (changed_by_all named changes).book
    ≡ option_map (content_kept_by_all named changes) (cell_of id row col named.book)
all_stay named [] id row col there leave = kept_as_is (cell_of id row col named.book)
all_stay named (change ∷ changes) id row col there (leaves, still, later) =
    all_stay (changed_by named change) changes id row col still later
    ∙ ap (option_map (content_kept_by_all (changed_by named change) changes))
    (one_stays named change id row col leaves still)
    ∙ map_twice (content_kept named change) (content_kept_by_all (changed_by named change) changes)
    (cell_of id row col named.book)
