-- Cells of a spreadsheet that changes leave, by the places where their lines stand.
use Rattle.std.proofs.Common.{◌≡◌, ℕ, zero, suc, ◌+◌, ◌<◌, refl, sym, ap, subst, ◌∙◌, List, [], ◌∷◌, ◌++◌, length, take, drop, cond, Bool, true, false, arith}
use Rattle.std.specs.Prelude.{Option, Some, None, Contains, IfSome, IsSomeAnd, ◌==◌, slice_get, option_and_then, ⊤}
use Rattle.std.specs.List.{AllZip, position_from, range_with_len}
use Rattle.std.specs.Option.{option_map}
use Rattle.std.proofs.lemmas.Bool.{eqb-true, false≢true}
use Rattle.std.proofs.lemmas.Option.{slice_get_within}
use Rattle.grid_range.specs.declared.axis.Axis.{Axis}
use Rattle.grid_range.specs.declared.axis.Axis.TheVariants.{Rows, Columns}
use Rattle.grid_range.specs.declared.change.Change.{Change}
use Rattle.grid_range.specs.declared.change.Change.TheVariants.{Insert, Delete, Move}
use Rattle.world_model.specs.Area.{Orders}
use Rattle.world_model.specs.Book.{NameBook, PlaceBook, orders_of, sheet_with}
use Rattle.world_model.specs.BookChange.{BookChange, Named, NamedStandsFor, changed_by, changed_by_all}
use Rattle.world_model.specs.BookChange.BookChange.{CellsUpdated, LinesChanged}
use Rattle.world_model.specs.Content.{content_named}
use Rattle.world_model.specs.Leaving.{HasCell, LeaveInTurn, Leaves}
use Rattle.world_model.specs.Sheet.{NameSheet, PlaceSheet}
use Rattle.world_model.specs.Sound.{place_sheet_with}
use Rattle.world_model.specs.StandsFor.{SheetStandsFor}
use Rattle.world_model.specs.Updating.{Updates, place_in, update_named}
use Rattle.kept_cells.proofs.UntouchedLines.{KeepsSheet, LineStays, cell_kept, cell_lines, cell_there, holds_then, inserted, line_at, lines_cell, lines_found, lines_kept, moved, order_then, place_of}

-- ---- one change after another

-- where each of the changes leaves the cell and keeps what holds, the cell is left
module _ (id row col : ℕ) (P : Named → Type 0) (has : (named : Named) → P named → HasCell id row col named.book) where
  abbrev pub Keeps : BookChange → Type 0
  Keeps change = (named : Named) → P named → Leaves change named.book id row col × P (changed_by named change)

  abbrev pub AllKeep : List BookChange → Type 0
  AllKeep [] = ⊤
  AllKeep (change ∷ changes) = Keeps change × AllKeep changes

  pub all_leave : (changes : List BookChange) → AllKeep changes → (named : Named) → P named
      → LeaveInTurn named changes id row col
  all_leave [] all named holds = tt
  all_leave (change ∷ changes) (first, later) named holds =
      let (leaves, still) = first named holds in
      (leaves, has (changed_by named change) still, all_leave changes later (changed_by named change) still)

  pub both_keep : (first later : List BookChange) → AllKeep first → AllKeep later → AllKeep (first ++ later)
  both_keep [] later all all' = all'
  both_keep (change ∷ first) later (one, all) all' = (one, both_keep first later all all')

pub leave_both : (id row col : ℕ) (first later : List BookChange) (named : Named)
    → LeaveInTurn named first id row col → LeaveInTurn (changed_by_all named first) later id row col
    → LeaveInTurn named (first ++ later) id row col
leave_both id row col [] later named leave leave' = leave'
leave_both id row col (change ∷ first) later named (leaves, there, leave) leave' =
    (leaves, there, leave_both id row col first later (changed_by named change) leave leave')

-- the cell is there then
pub there_then : (id row col : ℕ) (changes : List BookChange) (named : Named) → HasCell id row col named.book
    → LeaveInTurn named changes id row col → HasCell id row col (changed_by_all named changes).book
there_then id row col [] named there leave = there
there_then id row col (change ∷ changes) named there (leaves, still, leave) =
    there_then id row col changes (changed_by named change) still leave

-- ---- places

-- the row and the column stand there
abbrev pub IsAt : NameBook → ℕ → ℕ → ℕ → ℕ → ℕ → Type 0
IsAt book id row col r c =
    (slice_get (orders_of book.sheets id Rows) r ≡ Some row)
    × (slice_get (orders_of book.sheets id Columns) c ≡ Some col)

pub is_somewhere : (book : NameBook) (id row col : ℕ) → HasCell id row col book
    → (r : ℕ) × (c : ℕ) × IsAt book id row col r c
is_somewhere book id row col there =
    let (rows, cols) = cell_lines id row col book there in
    let (r, at_row) = place_of (orders_of book.sheets id Rows) row rows in
    let (c, at_col) = place_of (orders_of book.sheets id Columns) col cols in
    (r, c, (at_row, at_col))

pub at_cell : (book : NameBook) (id row col r c : ℕ) → IsAt book id row col r c → HasCell id row col book
at_cell book id row col r c at =
    lines_cell id row col book (line_at (orders_of book.sheets id Rows) row r at.0)
    (line_at (orders_of book.sheets id Columns) col c at.1)

-- a sheet by places, and the one that it stands for
pub record StandsFound (sheets : List NameSheet) (found : Option PlaceSheet) (named : Option NameSheet) : Type 0 where
  pub sheet : PlaceSheet
  pub names : NameSheet
  pub there : found ≡ Some sheet
  pub named_there : named ≡ Some names
  pub stands : SheetStandsFor sheets sheet names

-- the sheet with the id is there
abbrev pub IsPlaced : PlaceBook → NameBook → ℕ → Type 0
IsPlaced book names id = StandsFound names.sheets (place_sheet_with id book.sheets) (sheet_with id names.sheets)

module _ (sheets : List NameSheet) (P : NameSheet → Type 0) where
  placed_first : (b b' : Bool) (sheet : PlaceSheet) (names : NameSheet) (rest : Option PlaceSheet)
      (rest' : Option NameSheet) → b' ≡ b → SheetStandsFor sheets sheet names
      → (IsSomeAnd rest' P → StandsFound sheets rest rest') → IsSomeAnd (cond b' (Some names) rest') P
      → StandsFound sheets (cond b (Some sheet) rest) (cond b' (Some names) rest')
  placed_first true true sheet names rest rest' same stands behind holds =
      record { sheet = sheet; names = names; there = refl; named_there = refl; stands = stands }
  placed_first true false sheet names rest rest' same stands behind holds = absurd (false≢true same)
  placed_first false true sheet names rest rest' same stands behind holds = absurd (false≢true (sym same))
  placed_first false false sheet names rest rest' same stands behind holds = behind holds

  placed_by_name : (id : ℕ) (some : List PlaceSheet) (names : List NameSheet)
      → AllZip (SheetStandsFor sheets) some names
      → IsSomeAnd (sheet_with id names) P → StandsFound sheets (place_sheet_with id some) (sheet_with id names)
  placed_by_name id [] [] all holds = absurd holds
  placed_by_name id [] (n ∷ ns) all holds = absurd all
  placed_by_name id (s ∷ ss) [] all holds = absurd all
  placed_by_name id (s ∷ ss) (n ∷ ns) all holds =
      placed_first (s.id == id) (n.id == id) s n (place_sheet_with id ss) (sheet_with id ns)
      (ap (λ m. m == id) (sym all.0.id)) all.0 (placed_by_name id ss ns all.1) holds

-- the cell's sheet is
pub is_placed : (book : PlaceBook) (named : Named) → NamedStandsFor book named → (id row col : ℕ)
    → HasCell id row col named.book → IsPlaced book named.book id
is_placed book named stands id row col there =
    placed_by_name named.book.sheets (λ sheet. Contains sheet.rows row × Contains sheet.cols col) id book.sheets
    named.book.sheets stands.stands.sheets there

-- it has as many lines by places as by names
pub as_many : (book : PlaceBook) (names : NameBook) (id : ℕ) → (placed : IsPlaced book names id)
    → (placed.sheet.table.rows ≡ length (orders_of names.sheets id Rows))
    × (placed.sheet.table.cols ≡ length (orders_of names.sheets id Columns))
as_many book names id placed = (
  placed.stands.rows ∙ ap (λ found. length (lines_found Rows found)) (sym placed.named_there),
  placed.stands.cols ∙ ap (λ found. length (lines_found Columns found)) (sym placed.named_there),
)

-- and the cell's place is on that sheet
pub at_inside : (book : PlaceBook) (names : NameBook) (id row col r c : ℕ) → (placed : IsPlaced book names id)
    → IsAt names id row col r c → (r < placed.sheet.table.rows) × (c < placed.sheet.table.cols)
at_inside book names id row col r c placed at =
    let many = as_many book names id placed in (
      subst (λ n. r < n) (sym many.0) (slice_get_within (orders_of names.sheets id Rows) r row at.0),
      subst (λ n. c < n) (sym many.1) (slice_get_within (orders_of names.sheets id Columns) c col at.1),
    )

-- ---- updates

none_some : {A : Type 0} (x : A) → None ≡ Some x → ⊥
none_some x e = cc

pub some_same : {A : Type 0} (one other : A) → Some one ≡ Some other → one ≡ other
some_same one other e = cc

-- the place that is found is that of the line
abbrev FoundFrom : ℕ → ℕ → List ℕ → ℕ → Type 0
FoundFrom line start order k = (j : ℕ) × (k ≡ start + j) × (slice_get order j ≡ Some line)

found_first : (line start one k : ℕ) (order : List ℕ) (b : Bool) → (one == line) ≡ b
    → (position_from (λ other. other == line) (start + 1) order ≡ Some k → FoundFrom line (start + 1) order k)
    → cond b (Some start) (position_from (λ other. other == line) (start + 1) order) ≡ Some k
    → FoundFrom line start (one ∷ order) k
found_first line start one k order true same rest found =
    (0, omega (arith, some_same start k found), ap Some (eqb-true one line same))
found_first line start one k order false same rest found =
    let (j, place, at) = rest found in
    (suc j, omega (arith, place), at)

found_from : (line start : ℕ) (order : List ℕ) (k : ℕ) → position_from (λ other. other == line) start order ≡ Some k
    → FoundFrom line start order k
found_from line start [] k is = absurd (none_some k is)
found_from line start (one ∷ order) k is =
    found_first line start one k order (one == line) refl (found_from line (start + 1) order k) is

stands_at : (order : List ℕ) (line k : ℕ) → place_in order line ≡ Some k → slice_get order k ≡ Some line
stands_at order line k is =
    let (j, place, at) = found_from line 0 order k is in
    let same : j ≡ k = omega (arith, place) in
    subst (λ n. slice_get order n ≡ Some line) same at

none_updated : (orders : Orders) (sheet : NameSheet) (updates : Updates) (row col : ℕ)
    → ((r c : ℕ) → slice_get sheet.rows r ≡ Some row → slice_get sheet.cols c ≡ Some col → updates r c ≡ None)
    → update_named orders sheet updates row col ≡ None
none_updated orders sheet updates row col none =
    go (place_in sheet.rows row) (place_in sheet.cols col) refl refl
  where
    go : (r c : Option ℕ) → place_in sheet.rows row ≡ r → place_in sheet.cols col ≡ c
        → option_and_then (λ r. option_and_then (λ c. option_map (option_map (content_named orders)) (updates r c)) c) r
        ≡ None
    go None c at at' = refl
    go (Some r) None at at' = refl
    go (Some r) (Some c) at at' =
        ap (option_map (option_map (content_named orders)))
        (none r c (stands_at sheet.rows row r at) (stands_at sheet.cols col c at'))

-- an update of no place where the cell's lines stand leaves it
pub update_leaves : (named : Named) (sheet : ℕ) (updates : Updates) (id row col : ℕ) → HasCell id row col named.book
    → (id ≡ sheet → (r c : ℕ) → IsAt named.book id row col r c → updates r c ≡ None)
    → LeaveInTurn named (CellsUpdated sheet updates ∷ []) id row col
update_leaves named sheet updates id row col there none =
    (leaves, cell_kept named (CellsUpdated sheet updates) id row col tt there, tt)
  where
    on_found : (found : Option NameSheet) → sheet_with id named.book.sheets ≡ found → id ≡ sheet
        → IfSome found (λ one. update_named (orders_of named.book.sheets) one updates row col ≡ None)
    on_found None is own = tt
    on_found (Some one) is own =
        none_updated (orders_of named.book.sheets) one updates row col (λ r c at_row at_col. none own r c (
          ap (λ found. slice_get (lines_found Rows found) r) is ∙ at_row,
          ap (λ found. slice_get (lines_found Columns found) c) is ∙ at_col,
        ))

    leaves : Leaves (CellsUpdated sheet updates) named.book id row col
    leaves own = on_found (sheet_with id named.book.sheets) refl own

-- ---- changes of lines

pub insert_stays : (named : Named) (sheet : ℕ) (axis : Axis) (at more id row col : ℕ)
    → LineStays named sheet axis (Insert at more) id row col
insert_stays named sheet axis at more id row col =
    let fresh = range_with_len named.next more in
    let order = orders_of named.book.sheets sheet axis in
    record {
      row_stays = λ own same has. inserted order row at fresh has;
      col_stays = λ own same has. inserted order col at fresh has;
    }

pub move_stays : (named : Named) (sheet : ℕ) (axis : Axis) (start end to id row col : ℕ)
    → LineStays named sheet axis (Move start end to) id row col
move_stays named sheet axis start end to id row col =
    let order = orders_of named.book.sheets sheet axis in
    record {
      row_stays = λ own same has. moved order row start end to has;
      col_stays = λ own same has. moved order col start end to has;
    }

pub lines_leave : (named : Named) (sheet : ℕ) (axis : Axis) (change : Change) (id row col : ℕ)
    → LineStays named sheet axis change id row col → HasCell id row col named.book
    → LeaveInTurn named (LinesChanged sheet axis change ∷ []) id row col
lines_leave named sheet axis change id row col stays there =
    (tt, cell_there named sheet axis change id row col stays there, tt)

-- ---- lines that stay at their places

front_of : (order : List ℕ) (at k line : ℕ) → k < at → slice_get order k ≡ Some line
    → slice_get (take at order) k ≡ Some line
front_of [] at k line early is = absurd (none_some line is)
front_of (one ∷ order) zero k line early is = absurd (let no : ⊥ = omega (arith, early) in no)
front_of (one ∷ order) (suc at) zero line early is = is
front_of (one ∷ order) (suc at) (suc k) line early is = front_of order at k line (omega (arith, early)) is

front_more : (order more : List ℕ) (k line : ℕ) → slice_get order k ≡ Some line
    → slice_get (order ++ more) k ≡ Some line
front_more [] more k line is = absurd (none_some line is)
front_more (one ∷ order) more zero line is = is
front_more (one ∷ order) more (suc k) line is = front_more order more k line is

module _ (id row col r c : ℕ) where
  abbrev pub AtHere : Named → Type 0
  AtHere named = IsAt named.book id row col r c

  pub here_cell : (named : Named) → AtHere named → HasCell id row col named.book
  here_cell named is = at_cell named.book id row col r c is

  pub here_kept : (change : BookChange) → ((named : Named) → Leaves change named.book id row col) → KeepsSheet change id
      → Keeps id row col AtHere here_cell change
  here_kept change leaves keeps named is = (
    leaves named,
    (
      ap (λ order. slice_get order r) (lines_kept named id Rows change keeps) ∙ is.0,
      ap (λ order. slice_get order c) (lines_kept named id Columns change keeps) ∙ is.1,
    ),
  )

  module _ (sheet : ℕ) (axis : Axis) where
    -- where the lines are the sheet's, the place on the axis is before that line
    pub record IsBefore (at : ℕ) : Type 0 where
      pub row_before : id ≡ sheet → axis ≡ Rows → r < at
      pub col_before : id ≡ sheet → axis ≡ Columns → c < at

    front_keeps : (change : Change) (at : ℕ) → IsBefore at
        → ((named : Named) (k line : ℕ) → k < at → slice_get (orders_of named.book.sheets sheet axis) k ≡ Some line
        → slice_get (order_then named sheet axis change) k ≡ Some line)
        → Keeps id row col AtHere here_cell (LinesChanged sheet axis change)
    front_keeps change at before stays named is = (
      tt,
      (
        holds_then (λ order. slice_get order r ≡ Some row) named sheet axis change id Rows
            (λ own same. stays named r row (before.row_before own (sym same))
            (subst (λ on. slice_get (orders_of named.book.sheets sheet on) r ≡ Some row) same
            (subst (λ n. slice_get (orders_of named.book.sheets n Rows) r ≡ Some row) own is.0))) is.0,
        holds_then (λ order. slice_get order c ≡ Some col) named sheet axis change id Columns
            (λ own same. stays named c col (before.col_before own (sym same))
            (subst (λ on. slice_get (orders_of named.book.sheets sheet on) c ≡ Some col) same
            (subst (λ n. slice_get (orders_of named.book.sheets n Columns) c ≡ Some col) own is.1))) is.1,
      ),
    )

    pub cut_keeps : (start end : ℕ) → IsBefore start
        → Keeps id row col AtHere here_cell (LinesChanged sheet axis (Delete start end))
    cut_keeps start end before =
        front_keeps (Delete start end) start before (λ named k line early is.
        let order = orders_of named.book.sheets sheet axis in
        front_more (take start order) (drop end order) k line (front_of order start k line early is))

    pub added_keeps : (at more : ℕ) → IsBefore at
        → Keeps id row col AtHere here_cell (LinesChanged sheet axis (Insert at more))
    added_keeps at more before =
        front_keeps (Insert at more) at before (λ named k line early is.
        let order = orders_of named.book.sheets sheet axis in
        let fresh = range_with_len named.next more in
        front_more (take at order ++ fresh) (drop at order) k line
        (front_more (take at order) fresh k line (front_of order at k line early is)))
