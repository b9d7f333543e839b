-- What is updated at once: by one write after another, and by names.
use Rattle.std.proofs.Common.{◌≡◌, ℕ, refl, sym, ap, subst, ◌∙◌, ◌+◌, List, [], ◌∷◌, cond, Bool, true, false, length, inl, inr, zero, suc, get_or, arith}
use Rattle.std.specs.Prelude.{Option, None, Some, IfSome, map, slice_get, ◌==◌, ◌&&◌, ◌⊎◌, Contains, unwrap_or, option_and_then}
use Rattle.std.specs.List.{All, AllZip, position_from}
use Rattle.std.specs.Option.{option_map}
use Rattle.std.proofs.lemmas.Bool.{cases_Bool, eqb-true, eq-eqb, false≢true, false_from_ne_true}
use Rattle.std.proofs.lemmas.Option.{none-some, same_Some, slice_get_within, get_or_from_slice_get}
use Rattle.grid_range.specs.Order.{IsOrder}
use Rattle.cell_store.specs.Table.{item_at}
use Rattle.ref_rewrite.specs.declared.cell_content.Content.{Content}
use Rattle.world_model.specs.Content.{NameContent, content_named}
use Rattle.world_model.specs.Filters.{filter_named}
use Rattle.world_model.specs.Metadata.{item_named}
use Rattle.world_model.specs.Protections.{protection_named}
use Rattle.world_model.specs.Ranges.{range_named}
use Rattle.world_model.specs.Sheet.{NameSheet, PlaceSheet}
use Rattle.world_model.specs.Area.{area_named}
use Rattle.world_model.specs.Book.{NameBook, PlaceBook, orders_of}
use Rattle.world_model.specs.StandsFor.{SheetStandsFor, BookStandsFor}
use Rattle.world_model.specs.Updating.{Updates, no_updates, with_update, place_in, update_named, sheet_updated, book_updated}
use Rattle.world_model.specs.Updating.{SheetUpdated, BookUpdated}
use Rattle.world_model.specs.Laws.{size_of}
use Rattle.world_model.specs.Sound.{IsSound, place_sheet_with}
use Rattle.world_model.specs.Writing.{sheet_put, book_put}
use Rattle.world_model.proofs.Found.{each_found}
use Rattle.world_model.proofs.Lines.{KeepsLines, orders_stay_same}
use Rattle.world_model.proofs.Written.{SameNames, written_is_same, same_lines, cells_chosen}
use Rattle.world_model.proofs.StillStands.{merges_stand}
use Rattle.world_model.proofs.WrittenSound.{put_same, item_put}

-- ---- by one write after another

chosen_same : {A : Type 0} (b : Bool) (one : A) → one ≡ cond b one one
chosen_same true one = refl
chosen_same false one = refl

none_in : (id : ℕ) (sheets : List PlaceSheet) → AllZip (SheetUpdated id no_updates) sheets sheets
none_in id [] = tt
none_in id (s ∷ ss) = (
  record {
    id = refl;
    title = refl;
    hidden = refl;
    rows = refl;
    cols = refl;
    items = λ row col. chosen_same (s.id == id) (item_at s.table row col);
    merges = refl;
    filter = refl;
  },
  none_in id ss,
)

pub none_updated : (book : PlaceBook) (id : ℕ) → BookUpdated id no_updates book book
none_updated book id = record {
  id = refl;
  title = refl;
  owner = refl;
  sheets = none_in id book.sheets;
  ranges = refl;
  protections = refl;
  metadata = refl;
}

-- one update more is one write more
one_more : {A : Type 0} (own is : Bool) (content : A) (update : Option A) (held : A)
    → cond own (cond is content (cond own (unwrap_or update held) held)) (cond own (unwrap_or update held) held)
    ≡ cond own (unwrap_or (cond is (Some content) update) held) held
one_more true true content update held = refl
one_more true false content update held = refl
one_more false is content update held = refl

module _ (id row col : ℕ) (content : Option Content) (updates : Updates) where
  one_in : (before between : PlaceSheet) → SheetUpdated id updates before between
      → SheetUpdated id (with_update row col content updates) before (sheet_put id row col content between)
  one_in before between so_far =
      let same = put_same id row col content between in
      record {
        id = same.id ∙ so_far.id;
        title = same.title ∙ so_far.title;
        hidden = same.hidden ∙ so_far.hidden;
        rows = same.rows ∙ so_far.rows;
        cols = same.cols ∙ so_far.cols;
        items = λ row' col'.
            item_put id row col content between row' col'
            ∙ ap (λ n. cond (n == id) (cond (row' == row && col' == col) content (item_at between.table row' col'))
            (item_at between.table row' col')) so_far.id
            ∙ ap (λ held. cond (before.id == id) (cond (row' == row && col' == col) content held) held)
            (so_far.items row' col')
            ∙ one_more (before.id == id) (row' == row && col' == col) content (updates row' col')
            (item_at before.table row' col');
        merges = same.merges ∙ so_far.merges;
        filter = same.filter ∙ so_far.filter;
      }

  all_in : (befores betweens : List PlaceSheet) → AllZip (SheetUpdated id updates) befores betweens
      → AllZip (SheetUpdated id (with_update row col content updates)) befores
      (map (sheet_put id row col content) betweens)
  all_in [] [] all = tt
  all_in [] (s ∷ ss) all = absurd all
  all_in (b ∷ bs) [] all = absurd all
  all_in (b ∷ bs) (s ∷ ss) all = (one_in b s all.0, all_in bs ss all.1)

pub one_updated : (before between : PlaceBook) (id row col : ℕ) (content : Option Content) (updates : Updates)
    → BookUpdated id updates before between
    → BookUpdated id (with_update row col content updates) before (book_put id row col content between)
one_updated before between id row col content updates so_far = record {
  id = so_far.id;
  title = so_far.title;
  owner = so_far.owner;
  sheets = all_in id row col content updates before.sheets between.sheets so_far.sheets;
  ranges = so_far.ranges;
  protections = so_far.protections;
  metadata = so_far.metadata;
}

-- ---- sizes

first_size : (b b' : Bool) (one other : PlaceSheet) (rest rest' : Option PlaceSheet) → b ≡ b' → size_of one
    ≡ size_of other
    → option_map size_of rest ≡ option_map size_of rest'
    → option_map size_of (cond b (Some one) rest) ≡ option_map size_of (cond b' (Some other) rest')
first_size true true one other rest rest' same size behind = ap Some size
first_size true false one other rest rest' same size behind = absurd (false≢true (sym same))
first_size false true one other rest rest' same size behind = absurd (false≢true same)
first_size false false one other rest rest' same size behind = behind

pair_size : (one other : PlaceSheet) → one.table.rows ≡ other.table.rows → one.table.cols ≡ other.table.cols
    → size_of one ≡ size_of other
pair_size one other rows cols =
    ap (λ n. (n, one.table.cols)) rows ∙ ap (λ n. (other.table.rows, n)) cols

sizes_in : (id other : ℕ) (updates : Updates) (befores afters : List PlaceSheet)
    → AllZip (SheetUpdated id updates) befores afters
    → option_map size_of (place_sheet_with other afters) ≡ option_map size_of (place_sheet_with other befores)
sizes_in id other updates [] [] all = refl
sizes_in id other updates [] (a ∷ afters) all = absurd all
sizes_in id other updates (b ∷ befores) [] all = absurd all
sizes_in id other updates (b ∷ befores) (a ∷ afters) all =
    first_size (a.id == other) (b.id == other) a b (place_sheet_with other afters) (place_sheet_with other befores)
    (ap (λ n. n == other) all.0.id) (pair_size a b all.0.rows all.0.cols)
    (sizes_in id other updates befores afters all.1)

pub sizes_stay : (before after : PlaceBook) (id other : ℕ) (updates : Updates) → BookUpdated id updates before after
    → option_map size_of (place_sheet_with other after.sheets)
    ≡ option_map size_of (place_sheet_with other before.sheets)
sizes_stay before after id other updates is = sizes_in id other updates before.sheets after.sheets is.sheets

-- ---- only what is made of a place counts

module _ (id : ℕ) (updates updates' : Updates) where
  abbrev MakesSame : PlaceSheet → Type 0
  MakesSame sheet = (row col : ℕ) → unwrap_or (updates row col) (item_at sheet.table row col)
      ≡ unwrap_or (updates' row col) (item_at sheet.table row col)

  same_chosen : (b : Bool) (one other held : Option Content) → (b ≡ true → one ≡ other)
      → cond b one held ≡ cond b other held
  same_chosen true one other held same = same refl
  same_chosen false one other held same = refl

  same_in : (before after : PlaceSheet) → ((before.id == id) ≡ true → MakesSame before)
      → SheetUpdated id updates before after → SheetUpdated id updates' before after
  same_in before after same is = record {
    id = is.id;
    title = is.title;
    hidden = is.hidden;
    rows = is.rows;
    cols = is.cols;
    items = λ row col. is.items row col
        ∙ same_chosen (before.id == id) (unwrap_or (updates row col) (item_at before.table row col))
        (unwrap_or (updates' row col) (item_at before.table row col)) (item_at before.table row col)
        (λ own. same own row col);
    merges = is.merges;
    filter = is.filter;
  }

  all_same : (befores afters : List PlaceSheet) → All (λ sheet. (sheet.id == id) ≡ true → MakesSame sheet) befores
      → AllZip (SheetUpdated id updates) befores afters → AllZip (SheetUpdated id updates') befores afters
  all_same [] [] same all = tt
  all_same [] (a ∷ afters) same all = absurd all
  all_same (b ∷ befores) [] same all = absurd all
  all_same (b ∷ befores) (a ∷ afters) same all = (
    same_in b a (same 0 b (omega arith)) all.0,
    all_same befores afters (λ k d there. same (suc k) d (omega arith)) all.1,
  )

  found_same : (sheets : List PlaceSheet) (sheet : PlaceSheet) → place_sheet_with sheet.id sheets ≡ Some sheet
      → IfSome (place_sheet_with id sheets) MakesSame → (sheet.id == id) ≡ true → MakesSame sheet
  found_same sheets sheet found same own =
      subst (λ one. IfSome one MakesSame)
      (sym (ap (λ n. place_sheet_with n sheets) (eqb-true sheet.id id own)) ∙ found) same

pub same_updated : (before after : PlaceBook) (id : ℕ) (updates updates' : Updates) → IsSound before
    → BookUpdated id updates before after
    → IfSome (place_sheet_with id before.sheets) (λ sheet. (row col : ℕ)
    → unwrap_or (updates row col) (item_at sheet.table row col)
    ≡ unwrap_or (updates' row col) (item_at sheet.table row col))
    → BookUpdated id updates' before after
same_updated before after id updates updates' sound is same = record {
  id = is.id;
  title = is.title;
  owner = is.owner;
  sheets = all_same id updates updates' before.sheets after.sheets (λ k d there.
      let sheet = get_or before.sheets k d in
      found_same id updates updates' before.sheets sheet
      (each_found (λ (one : PlaceSheet). one.id) before.sheets sound.distinct k d there) same) is.sheets;
  ranges = is.ranges;
  protections = is.protections;
  metadata = is.metadata;
}

-- ---- by names

tail_order : (n : ℕ) (order : List ℕ) → IsOrder (n ∷ order) → IsOrder order
tail_order n order distinct i j d below inside = distinct (suc i) (suc j) d (omega arith) (omega arith)

-- a line's place is the one where it stands
found_first : (b : Bool) (k : ℕ) (rest : Option ℕ) → b ≡ true → cond b (Some k) rest ≡ Some k
found_first true k rest is = refl
found_first false k rest is = absurd (false≢true is)

found_later : (b : Bool) (k m : ℕ) (rest : Option ℕ) → b ≡ false → rest ≡ Some m → cond b (Some k) rest ≡ Some m
found_later true k m rest is found = absurd (false≢true (sym is))
found_later false k m rest is found = found

place_from : (order : List ℕ) (i n k : ℕ) → IsOrder order → slice_get order i ≡ Some n
    → position_from (λ other. other == n) k order ≡ Some (k + i)
place_from [] i n k distinct at_i = absurd (none-some n at_i)
place_from (m ∷ order) zero n k distinct at_i =
    found_first (m == n) k (position_from (λ other. other == n) (k + 1) order) (eq-eqb m n (same_Some m n at_i))
    ∙ ap Some (omega arith)
place_from (m ∷ order) (suc i) n k distinct at_i =
    let inside = slice_get_within order i n at_i in
    found_later (m == n) k (k + suc i) (position_from (λ other. other == n) (k + 1) order)
    (false_from_ne_true (m == n) (λ is. distinct 0 (suc i) 0 (omega arith) (omega (arith, inside))
    (eqb-true m n is ∙ sym (get_or_from_slice_get order i n 0 at_i))))
    (place_from order i n (k + 1) (tail_order m order distinct) at_i ∙ ap Some (omega arith))

place_of_line : (order : List ℕ) (i n : ℕ) → IsOrder order → slice_get order i ≡ Some n → place_in order n ≡ Some i
place_of_line order i n distinct at_i = place_from order i n 0 distinct at_i ∙ ap Some (omega arith)

-- a line is one of an order's, or has no place in it
there_or_none : (order : List ℕ) (n k : ℕ)
    → (Contains order n) ⊎ (position_from (λ other. other == n) k order ≡ None)
there_or_none [] n k = inr refl
there_or_none (m ∷ order) n k = elim (cases_Bool (m == n)) [
  | inl is ↦ inl (0, omega arith, eqb-true m n is)
  | inr other ↦ elim (there_or_none order n (k + 1)) [
    | inl there ↦ inl (suc there.0, omega (arith, there.1), there.2)
    | inr none ↦ inr (behind (m == n) (position_from (λ other. other == n) (k + 1) order) other none)
  ]
]
  where
    behind : (b : Bool) (rest : Option ℕ) → b ≡ false → rest ≡ None → cond b (Some k) rest ≡ None
    behind true rest is none = absurd (false≢true (sym is))
    behind false rest is none = none

row_or_none : (order : List ℕ) (n : ℕ) → (Contains order n) ⊎ (place_in order n ≡ None)
row_or_none order n = there_or_none order n 0

no_place : (order : List ℕ) (n : ℕ) → ¬ (Contains order n) → place_in order n ≡ None
no_place order n out = elim (row_or_none order n) [
  | inl there ↦ absurd (out there)
  | inr none ↦ none
]

module _ (sheets : List NameSheet) (id : ℕ) (updates : Updates) where
  abbrev named : Content → NameContent
  named = content_named (orders_of sheets)

  abbrev after : NameSheet → NameSheet
  after = sheet_updated (orders_of sheets) id updates

  abbrev cells_after : NameSheet → ℕ → ℕ → Option NameContent
  cells_after names r c = unwrap_or (update_named (orders_of sheets) names updates r c) (names.cells r c)

  after_same : (names : NameSheet) → SameNames (after names) names
  after_same names = written_is_same (names.id == id) names (cells_after names)

  keeps : KeepsLines after
  keeps = record {
    id = λ names. (after_same names).id;
    lines = λ names axis. same_lines (after names) names axis (after_same names);
  }

  same_orders : orders_of (map after sheets) ≡ orders_of sheets
  same_orders = orders_stay_same after keeps sheets

  entry_there : (names : NameSheet) (row col r c : ℕ) → place_in names.rows r ≡ Some row
      → place_in names.cols c ≡ Some col
      → update_named (orders_of sheets) names updates r c ≡ option_map (option_map named) (updates row col)
  entry_there names row col r c at_row at_col =
      ap (λ place. option_and_then (λ r'. option_and_then (λ c'. option_map (option_map named) (updates r' c'))
      (place_in names.cols c)) place) at_row
      ∙ ap (λ place. option_and_then (λ c'. option_map (option_map named) (updates row c')) place) at_col

  -- nothing is updated where there is no cell
  nothing_in_rows : (rows cols : Option ℕ) → rows ≡ None
      → option_and_then (λ r. option_and_then (λ c. option_map (option_map named) (updates r c)) cols) rows ≡ None
  nothing_in_rows rows cols none =
      ap (option_and_then (λ r. option_and_then (λ c. option_map (option_map named) (updates r c)) cols)) none

  nothing_in_cols : (rows cols : Option ℕ) → cols ≡ None
      → option_and_then (λ r. option_and_then (λ c. option_map (option_map named) (updates r c)) cols) rows ≡ None
  nothing_in_cols None cols none = refl
  nothing_in_cols (Some row) cols none =
      ap (option_and_then (λ c. option_map (option_map named) (updates row c))) none

  entry_nowhere : (names : NameSheet) (r c : ℕ) → ¬ (Contains names.rows r × Contains names.cols c)
      → update_named (orders_of sheets) names updates r c ≡ None
  entry_nowhere names r c out = elim (row_or_none names.rows r) [
    | inl there ↦ nothing_in_cols (place_in names.rows r) (place_in names.cols c)
        (no_place names.cols c (λ also. out (there, also)))
    | inr none ↦ nothing_in_rows (place_in names.rows r) (place_in names.cols c) none
  ]

  updated_over : (update : Option (Option Content)) (held : Option Content) (held' : Option NameContent)
      → held' ≡ option_map named held
      → unwrap_or (option_map (option_map named) update) held' ≡ option_map named (unwrap_or update held)
  updated_over None held held' is = is
  updated_over (Some content) held held' is = refl

  chosen_over : (b b' : Bool) (one other : Option NameContent) (held held' : Option Content) → b' ≡ b
      → one ≡ option_map named held → other ≡ option_map named held'
      → cond b' one other ≡ option_map named (cond b held held')
  chosen_over true true one other held held' same is is' = is
  chosen_over true false one other held held' same is is' = absurd (false≢true same)
  chosen_over false true one other held held' same is is' = absurd (false≢true (sym same))
  chosen_over false false one other held held' same is is' = is'

  stays_nothing : (b : Bool) (update : Option (Option NameContent)) (held : Option NameContent) → update ≡ None
      → held ≡ None → cond b (unwrap_or update held) held ≡ None
  stays_nothing true update held empty none = ap (λ e. unwrap_or e held) empty ∙ none
  stays_nothing false update held empty none = none

  sheet_follows : (before after' : PlaceSheet) (names : NameSheet) → SheetStandsFor sheets before names
      → SheetUpdated id updates before after' → SheetStandsFor (map after sheets) after' (after names)
  sheet_follows before after' names stands updated = record {
    id = updated.id ∙ stands.id ∙ sym (after_same names).id;
    title = updated.title ∙ stands.title ∙ sym (after_same names).title;
    hidden = updated.hidden ∙ stands.hidden ∙ sym (after_same names).hidden;
    distinct_rows = subst IsOrder (sym (after_same names).rows) stands.distinct_rows;
    distinct_cols = subst IsOrder (sym (after_same names).cols) stands.distinct_cols;
    rows = updated.rows ∙ stands.rows ∙ ap length (sym (after_same names).rows);
    cols = updated.cols ∙ stands.cols ∙ ap length (sym (after_same names).cols);
    cells = λ row col r c at_row at_col.
        let there_row : slice_get names.rows row ≡ Some r =
        ap (λ order. slice_get order row) (sym (after_same names).rows) ∙ at_row in
        let there_col : slice_get names.cols col ≡ Some c =
        ap (λ order. slice_get order col) (sym (after_same names).cols) ∙ at_col in
        let held = stands.cells row col r c there_row there_col in
        cells_chosen (names.id == id) names (cells_after names) r c
        ∙ chosen_over (before.id == id) (names.id == id) (cells_after names r c) (names.cells r c)
        (unwrap_or (updates row col) (item_at before.table row col)) (item_at before.table row col)
        (ap (λ n. n == id) (sym stands.id))
        (ap (λ update. unwrap_or update (names.cells r c))
        (entry_there names row col r c (place_of_line names.rows row r stands.distinct_rows there_row)
        (place_of_line names.cols col c stands.distinct_cols there_col))
        ∙ updated_over (updates row col) (item_at before.table row col) (names.cells r c) held) held
        ∙ ap (option_map named) (sym (updated.items row col))
        ∙ ap (λ orders. option_map (content_named orders) (item_at after'.table row col)) (sym same_orders);
    nowhere_else = λ r c out.
        let gone : ¬ (Contains names.rows r × Contains names.cols c) = λ both.
        out (
          subst (λ order. Contains order r) (sym (after_same names).rows) both.0,
          subst (λ order. Contains order c) (sym (after_same names).cols) both.1,
        ) in
        cells_chosen (names.id == id) names (cells_after names) r c
        ∙ stays_nothing (names.id == id) (update_named (orders_of sheets) names updates r c) (names.cells r c)
        (entry_nowhere names r c gone) (stands.nowhere_else r c gone);
    merges = merges_stand (orders_of sheets) (orders_of (map after sheets)) before.merges after'.merges names.merges
        (after names).merges (after_same names).merges
        (ap (λ orders. map (area_named orders) before.merges) (sym same_orders)
        ∙ ap (map (area_named (orders_of (map after sheets)))) (sym updated.merges)) stands.merges;
    filter = (after_same names).filter ∙ stands.filter
        ∙ ap (λ orders. option_map (filter_named orders) before.filter) (sym same_orders)
        ∙ ap (option_map (filter_named (orders_of (map after sheets)))) (sym updated.filter);
  }

  sheets_follow : (befores afters : List PlaceSheet) (names : List NameSheet)
      → AllZip (SheetStandsFor sheets) befores names → AllZip (SheetUpdated id updates) befores afters
      → AllZip (SheetStandsFor (map after sheets)) afters (map after names)
  sheets_follow [] [] [] stand updated = tt
  sheets_follow [] [] (n ∷ ns) stand updated = absurd stand
  sheets_follow [] (a ∷ afters) names stand updated = absurd updated
  sheets_follow (b ∷ befores) [] names stand updated = absurd updated
  sheets_follow (b ∷ befores) (a ∷ afters) [] stand updated = absurd stand
  sheets_follow (b ∷ befores) (a ∷ afters) (n ∷ ns) stand updated =
      (sheet_follows b a n stand.0 updated.0, sheets_follow befores afters ns stand.1 updated.1)

pub updates_follow : (before after : PlaceBook) (names : NameBook) (id : ℕ) (updates : Updates)
    → BookStandsFor before names → IsSound after → BookUpdated id updates before after
    → BookStandsFor after (book_updated id updates names)
updates_follow before after names id updates stands sound updated = record {
  sound = sound;
  id = updated.id ∙ stands.id;
  title = updated.title ∙ stands.title;
  owner = updated.owner ∙ stands.owner;
  sheets = sheets_follow names.sheets id updates before.sheets after.sheets names.sheets stands.sheets updated.sheets;
  ranges = stands.ranges ∙ ap (map (range_named (orders_of names.sheets))) (sym updated.ranges)
      ∙ ap (λ orders. map (range_named orders) after.ranges) (sym (same_orders names.sheets id updates));
  protections = stands.protections ∙ ap (map (protection_named (orders_of names.sheets))) (sym updated.protections)
      ∙ ap (λ orders. map (protection_named orders) after.protections) (sym (same_orders names.sheets id updates));
  metadata = stands.metadata ∙ ap (map (item_named (orders_of names.sheets))) (sym updated.metadata)
      ∙ ap (λ orders. map (item_named orders) after.metadata) (sym (same_orders names.sheets id updates));
}
