-- The places of a row's items, behind those of the rows before it.
use Rattle.std.proofs.Common.{◌≡◌, ◌≢◌, inl, inr, ℕ, suc, ◌+◌, ◌<◌, ◌≤◌, Bool, true, false, List, [], ◌∷◌, ◌++◌, length, get_or, map, refl, sym, ap, subst, ◌∙◌, append_assoc, arith}
use Rattle.std.specs.Prelude.{Some, Contains, min, ◌↔◌}
use Rattle.std.specs.Option.{IsSome}
use Rattle.std.specs.Ordering.{nat_cmp, eq_by_cmp}
use Rattle.std.specs.List.{AllByRecursion, IsDistinct, filter_map}
use Rattle.std.specs.List.Sorted.{IsStrictlySortedBy}
use Rattle.std.specs.FinMap as fin
use Rattle.std.proofs.lemmas.Bool.{cases_lt}
use Rattle.std.proofs.lemmas.List.{append-nil}
use Rattle.std.proofs.lemmas.Simd.{map-map}
use Rattle.std.proofs.lemmas.List.Elements.{Contains-append_left, Contains-append_right, Contains-append_cases, Contains-push_cases}
use Rattle.std.proofs.lemmas.Map.Keys.{IsDistinct-head, IsDistinct-tail, IsDistinct-cons, below_from_sorted}
use Rattle.cell_value.specs.Elements.{Contains-head, Contains-cons, nothing_in, IsDistinct-none, Contains-filter_map, Contains-filter_map_from}
use Rattle.grid_range.specs.declared.area.Area.{Area}
use Rattle.grid_range.specs.declared.band.Band.{Band}
use Rattle.grid_range.specs.declared.band.Band.TheVariants.{Whole, From, Span}
use Rattle.grid_range.specs.Area.{by_rows, Holds}
use Rattle.grid_range.specs.ByRows.{same_cell}
use Rattle.grid_range.specs.Band.{HasLine, first_line, end_line}
use Rattle.cell_store.specs.Table.{Table, item_at, HasItemsInside}
use Rattle.cell_store.specs.Places.{AreFilledPlaces}
use Rattle.cell_store.specs.Laws.{TablesByItems}
use Rattle.shared_map.specs.Found.{halves_of}
use Rattle.shared_map.specs.Map.{AreKeysWithin}
use Rattle.shared_grid.specs.Orders.{LineOrder}
use Rattle.shared_grid.specs.Orders.{number_of, place_noted, IsPlain}
use Rattle.shared_grid.specs.Cells.{numbers, key_of, line_in, across_in, AreKeysOnRow, AreMarksOnColumn}
use Rattle.cell_store.specs.Kept.{KeptTable}
use Rattle.shared_grid.specs.Sheets.{key_at, place_in, pair_place, numbered_table, AreNumbered, IsOnLines, IsSheet, AreOnColumns, AreOnRows}
use Rattle.shared_grid.proofs.Numbers.{line-key, across-key, noted-line, small, place-key, place-line}
use Rattle.shared_grid.proofs.Keys.{map_alike}
use Rattle.shared_grid.proofs.Views.{item-view, inside-view}

-- places that aren't one differ by the test
differ : (one other : ℕ × ℕ) → one ≢ other → eq_by_cmp by_rows one other ≡ false
differ one other apart = elim (eq_by_cmp by_rows one other) as (λ b. eq_by_cmp by_rows one other ≡ b → b ≡ false) [
  | true ↦ λ same. absurd (apart (same_cell one other same))
  | false ↦ λ _. refl
] refl

module _ {X : Type 0} where
  all_pushed : (P : X → Type 0) (xs : List X) (x : X) → AllByRecursion P xs → P x → AllByRecursion P (xs ++ x ∷ [])
  all_pushed P [] x all p = (p, tt)
  all_pushed P (y ∷ ys) x all p = (all.0, all_pushed P ys x all.1 p)

  distinct_pushed : (eq : X → X → Bool) (xs : List X) (x : X) → IsDistinct eq xs
      → ((y : X) → Contains xs y → eq y x ≡ false) → IsDistinct eq (xs ++ x ∷ [])
  distinct_pushed eq [] x distinct apart = IsDistinct-cons eq x [] tt (IsDistinct-none eq)
  distinct_pushed eq (y ∷ ys) x distinct apart =
      IsDistinct-cons eq y (ys ++ x ∷ [])
      (all_pushed (λ z. eq y z ≡ false) ys x (IsDistinct-head eq y ys distinct) (apart y (Contains-head y ys)))
      (distinct_pushed eq ys x (IsDistinct-tail eq y ys distinct) (λ z has. apart z (Contains-cons y z ys has)))

module _ {X Y : Type 0} (f : X → Y) where
  mapped : (xs : List X) → filter_map (λ x. Some (f x)) xs ≡ map f xs
  mapped [] = refl
  mapped (x ∷ xs) = ap (λ ys. f x ∷ ys) (mapped xs)

  in_map : (xs : List X) (x : X) → Contains xs x → Contains (map f xs) (f x)
  in_map xs x has =
      subst (λ ys. Contains ys (f x)) (mapped xs) (Contains-filter_map (λ z. Some (f z)) xs x (f x) has refl)

  from_map : (xs : List X) (y : Y) → Contains (map f xs) y → (x : X) × Contains xs x × (f x ≡ y)
  from_map xs y has =
      let found = Contains-filter_map_from (λ z. Some (f z)) xs y (subst (λ ys. Contains ys y) (sym (mapped xs)) has) in
      let is : f found.0 ≡ y = cc (found.2) in
      (found.0, found.1, is)

-- a key behind another in order is not that one
later : (key other : ℕ) (keys : List ℕ) → IsStrictlySortedBy nat_cmp (key ∷ keys) → Contains keys other → key ≢ other
later key other keys sorted has same =
    let less : key < get_or keys has.0 other =
    below_from_sorted (key ∷ keys) 0 (suc has.0) other sorted (omega arith) (omega (arith, has.1)) in
    omega (arith, less, has.2, same)

module _ (place : ℕ → ℕ × ℕ) where
  -- places that are put behind others, one of each key, differ from these and from one another
  distinct_more : (places : List (ℕ × ℕ)) (keys : List ℕ) → IsDistinct (eq_by_cmp by_rows) places
      → IsStrictlySortedBy nat_cmp keys
      → ((p : ℕ × ℕ) (key : ℕ) → Contains places p → Contains keys key → p ≢ place key)
      → ((one other : ℕ) → Contains keys one → Contains keys other → place one ≡ place other → one ≡ other)
      → IsDistinct (eq_by_cmp by_rows) (places ++ map place keys)
  unfolding IsStrictlySortedBy
  distinct_more places [] distinct sorted apart tells =
      subst (IsDistinct (eq_by_cmp by_rows)) (sym (append-nil places)) distinct
  distinct_more places (key ∷ keys) distinct sorted apart tells =
      subst (IsDistinct (eq_by_cmp by_rows)) (append_assoc places (place key ∷ []) (map place keys))
      (distinct_more (places ++ place key ∷ []) keys
      (distinct_pushed (eq_by_cmp by_rows) places (place key) distinct
      (λ p has. differ p (place key) (apart p key has (Contains-head key keys))))
      sorted.1
      (λ p k has listed same. elim (Contains-push_cases places (place key) p has) [
        | inl old ↦ apart p k old (Contains-cons key k keys listed) same
        | inr new ↦ later key k keys sorted listed
            (tells key k (Contains-head key keys) (Contains-cons key k keys listed) (new ∙ same))
      ])
      (λ one other here there. tells one other (Contains-cons key one keys here) (Contains-cons key other keys there)))

-- no rows have no places
pub no_rows : {X : Type 0} (first : ℕ) (table : Table X) → AreOnRows first first table []
no_rows first table = record {
  distinct = IsDistinct-none (eq_by_cmp by_rows);
  only = λ row col has. absurd (nothing_in (row, col) has);
  all = λ row col low high some. absurd (omega arith);
}

module _ {X : Type 0} (laws : TablesByItems X) (rows columns : LineOrder) (items : fin.FinMap nat_cmp X)
    (is : IsSheet rows columns items) (sheet : KeptTable X) (view : numbered_table rows columns items ≡ sheet)
    (row number : ℕ) (row_there : row < rows.count) (number_is : number ≡ number_of rows row) (keys : List ℕ)
    (listed : AreKeysOnRow number items keys) where
  abbrev pub place : ℕ → ℕ × ℕ
  place key = (row, place_noted columns (across_in key))

  on : (key : ℕ) → Contains keys key → IsOnLines rows columns key
  on key has = is.lines.each key ((listed.exactly key).0 has).1

  place_is : (key : ℕ) → Contains keys key → place key ≡ place_in rows columns key
  place_is key has =
      let same : place_noted rows (line_in key) ≡ row =
      ap (place_noted rows) (((listed.exactly key).0 has).0 ∙ number_is) ∙ noted-line rows is.rows_are row row_there in
      ap (λ (r : ℕ). (r, place_noted columns (across_in key))) (sym same)

  stands : (key : ℕ) (has : Contains keys key) → place key ≡ ((on key has).row, (on key has).column)
  stands key has = place_is key has ∙ place-line rows columns is.rows_are is.columns_are key (on key has)

  tells : (one other : ℕ) → Contains keys one → Contains keys other → place one ≡ place other → one ≡ other
  tells one other here there same =
      (on one here).is
      ∙ ap (λ (p : ℕ × ℕ). key_at rows columns p.0 p.1) (sym (stands one here) ∙ same ∙ stands other there)
      ∙ sym (on other there).is

  -- the number of an item's column has a place
  pub column_there : (key : ℕ) → Contains keys key → across_in key < length columns.places
  column_there key has =
      let line = on key has in
      let fits = small columns is.columns_are line.column line.there.1 in
      let same : across_in key ≡ number_of columns line.column =
      ap across_in line.is ∙ across-key (number_of rows line.row) (number_of columns line.column) fits in
      omega (
        arith,
        same,
        is.columns_are.each.within line.column (omega (arith, line.there.1, is.columns_are.count)),
        is.columns_are.long,
      )

  -- where each line has its place as its number, the halves of a key are its place
  pub row_halves : IsPlain rows → IsPlain columns → map halves_of keys ≡ map place keys
  row_halves plain_rows plain_columns = map_alike halves_of place keys (λ key has.
      let line : line_in key ≡ row = ((listed.exactly key).0 has).0 ∙ number_is
      ∙ plain_rows.numbers row (omega (arith, row_there, is.rows_are.count)) in
      let across : place_noted columns (across_in key) ≡ across_in key =
      plain_columns.places (across_in key) (column_there key has) in
      λ i. (line i, sym across i))

  pub row_more : (first : ℕ) (before after : List (ℕ × ℕ)) → after ≡ before ++ map place keys
      → AreOnRows first row sheet.table before → AreOnRows first (row + 1) sheet.table after
  row_more first before after put are = subst (AreOnRows first (row + 1) sheet.table) (sym put) (record {
    distinct = distinct_more place before keys are.distinct listed.in_order
        (λ p key has held same.
        let less = (are.only p.0 p.1 has).0 in
        let at : p.0 ≡ row = ap (λ (q : ℕ × ℕ). q.0) same in
        omega (arith, less, at))
        tells;
    only = λ r c has. elim (Contains-append_cases before (map place keys) (r, c) has) [
      | inl old ↦ let held = are.only r c old in (omega (arith, held.0), held.1)
      | inr new ↦
          let found = from_map place keys (r, c) new in
          let line = on found.0 found.1 in
          let same : (line.row, line.column) ≡ (r, c) = sym (stands found.0 found.1) ∙ found.2 in
          let at : row ≡ r = ap (λ (q : ℕ × ℕ). q.0) found.2 in (
            omega (arith, at),
            subst (λ (q : ℕ × ℕ). IsSome (item_at sheet.table q.0 q.1)) same
                (subst IsSome (ap (fin.get items) line.is
                ∙ item-view laws rows columns items is sheet view line.row line.column line.there.0 line.there.1)
                ((listed.exactly found.0).0 found.1).1),
          )
    ];
    all = λ r c low high some. elim (cases_lt r row) [
      | inl less ↦ Contains-append_left before (map place keys) (r, c) (are.all r c low less some)
      | inr last ↦
          let at : r ≡ row = omega arith in
          let there : c < columns.count = omega (
            arith,
            (inside-view laws rows columns items is sheet view r c some).1,
            ap (λ s. s.table.cols) view,
          ) in
          let fits = small columns is.columns_are c there in
          let line : line_in (key_at rows columns row c) ≡ number =
          line-key (number_of rows row) (number_of columns c) fits ∙ sym number_is in
          let held : IsSome (fin.get items (key_at rows columns row c)) =
          subst IsSome (sym (item-view laws rows columns items is sheet view row c row_there there))
          (subst (λ (n : ℕ). IsSome (item_at sheet.table n c)) at some) in
          let has = (listed.exactly (key_at rows columns row c)).1 (line, held) in
          let same : place (key_at rows columns row c) ≡ (r, c) =
          place_is (key_at rows columns row c) has
          ∙ place-key rows columns is.rows_are is.columns_are row c row_there there
          ∙ ap (λ (n : ℕ). (n, c)) (sym at) in
          Contains-append_right before (map place keys) (r, c)
          (subst (Contains (map place keys)) same (in_map place keys (key_at rows columns row c) has))
    ];
  })

-- no columns have no places
pub no_columns : {X : Type 0} (first : ℕ) (table : Table X) → AreOnColumns first first table []
no_columns first table = record {
  distinct = IsDistinct-none (eq_by_cmp by_rows);
  only = λ row col has. absurd (nothing_in (row, col) has);
  all = λ row col low high some. absurd (omega arith);
}

module _ {X : Type 0} (laws : TablesByItems X) (rows columns : LineOrder) (items : fin.FinMap nat_cmp X)
    (is : IsSheet rows columns items) (sheet : KeptTable X) (view : numbered_table rows columns items ≡ sheet)
    (column number : ℕ) (column_there : column < columns.count) (number_is : number ≡ number_of columns column)
    (marks : List ℕ) (listed : AreMarksOnColumn number items marks) where
  abbrev pub marked : ℕ → ℕ × ℕ
  marked mark = (place_noted rows (across_in mark), column)

  abbrev key : ℕ → ℕ
  key mark = key_of (across_in mark) number

  fits_number : number < numbers
  fits_number = omega (arith, number_is, small columns is.columns_are column column_there)

  item_on : (mark : ℕ) → Contains marks mark → IsOnLines rows columns (key mark)
  item_on mark has = is.lines.each (key mark) ((listed.exactly mark).0 has).1

  row_of_key : (mark : ℕ) → line_in (key mark) ≡ across_in mark
  row_of_key mark = line-key (across_in mark) number fits_number

  marked_is : (mark : ℕ) → Contains marks mark → marked mark ≡ place_in rows columns (key mark)
  marked_is mark has =
      let row : place_noted rows (line_in (key mark)) ≡ place_noted rows (across_in mark) =
      ap (place_noted rows) (row_of_key mark) in
      let col : place_noted columns (across_in (key mark)) ≡ column =
      ap (place_noted columns) (across-key (across_in mark) number fits_number ∙ number_is)
      ∙ noted-line columns is.columns_are column column_there in
      λ i. (sym row i, sym col i)

  marked_stands : (mark : ℕ) (has : Contains marks mark) → marked mark
      ≡ ((item_on mark has).row, (item_on mark has).column)
  marked_stands mark has = marked_is mark has
      ∙ place-line rows columns is.rows_are is.columns_are (key mark) (item_on mark has)

  marks_tell : (one other : ℕ) → Contains marks one → Contains marks other → marked one ≡ marked other → one ≡ other
  marks_tell one other here there same =
      let keys : key one ≡ key other =
      (item_on one here).is
      ∙ ap (λ (p : ℕ × ℕ). key_at rows columns p.0 p.1)
      (sym (marked_stands one here) ∙ same ∙ marked_stands other there)
      ∙ sym (item_on other there).is in
      let across : across_in one ≡ across_in other = sym (row_of_key one) ∙ ap line_in keys ∙ row_of_key other in
      let first = ((listed.exactly one).0 here).0 in
      let second = ((listed.exactly other).0 there).0 in
      omega (arith, across, first, second)

  -- the number of an item's row has a place
  pub row_is_there : (mark : ℕ) → Contains marks mark → across_in mark < length rows.places
  row_is_there mark has =
      let line = item_on mark has in
      let fits = small columns is.columns_are line.column line.there.1 in
      let same : across_in mark ≡ number_of rows line.row =
      sym (row_of_key mark) ∙ ap line_in line.is
      ∙ line-key (number_of rows line.row) (number_of columns line.column) fits in
      omega (
        arith,
        same,
        is.rows_are.each.within line.row (omega (arith, line.there.0, is.rows_are.count)),
        is.rows_are.long,
      )

  pub column_more : (first : ℕ) (before after : List (ℕ × ℕ)) → after ≡ before ++ map marked marks
      → AreOnColumns first column sheet.table before → AreOnColumns first (column + 1) sheet.table after
  column_more first before after put are = subst (AreOnColumns first (column + 1) sheet.table) (sym put) (record {
    distinct = distinct_more marked before marks are.distinct listed.in_order
        (λ p mark has held same.
        let less = (are.only p.0 p.1 has).0 in
        let at : p.1 ≡ column = ap (λ (q : ℕ × ℕ). q.1) same in
        omega (arith, less, at))
        marks_tell;
    only = λ r c has. elim (Contains-append_cases before (map marked marks) (r, c) has) [
      | inl old ↦ let held = are.only r c old in (omega (arith, held.0), held.1)
      | inr new ↦
          let found = from_map marked marks (r, c) new in
          let line = item_on found.0 found.1 in
          let same : (line.row, line.column) ≡ (r, c) = sym (marked_stands found.0 found.1) ∙ found.2 in
          let at : column ≡ c = ap (λ (q : ℕ × ℕ). q.1) found.2 in (
            omega (arith, at),
            subst (λ (q : ℕ × ℕ). IsSome (item_at sheet.table q.0 q.1)) same
                (subst IsSome (ap (fin.get items) line.is
                ∙ item-view laws rows columns items is sheet view line.row line.column line.there.0 line.there.1)
                ((listed.exactly found.0).0 found.1).1),
          )
    ];
    all = λ r c low high some. elim (cases_lt c column) [
      | inl less ↦ Contains-append_left before (map marked marks) (r, c) (are.all r c low less some)
      | inr last ↦
          let at : c ≡ column = omega arith in
          let there : r < rows.count = omega (
            arith,
            (inside-view laws rows columns items is sheet view r c some).0,
            ap (λ s. s.table.rows) view,
          ) in
          let mark : ℕ = key_of number (number_of rows r) in
          let fits = small rows is.rows_are r there in
          let line : line_in mark ≡ number = line-key number (number_of rows r) fits in
          let across : across_in mark ≡ number_of rows r = across-key number (number_of rows r) fits in
          let same_key : key_at rows columns r column ≡ key mark =
          λ i. key_of (sym across i) (sym number_is i) in
          let held : IsSome (fin.get items (key_at rows columns r column)) =
          subst IsSome (sym (item-view laws rows columns items is sheet view r column there column_there))
          (subst (λ (n : ℕ). IsSome (item_at sheet.table r n)) at some) in
          let has = (listed.exactly mark).1 (line, subst (λ (k : ℕ). IsSome (fin.get items k)) same_key held) in
          let same : marked mark ≡ (r, c) =
          ap (λ (n : ℕ). (place_noted rows n, column)) across
          ∙ ap (λ (n : ℕ). (n, column)) (noted-line rows is.rows_are r there)
          ∙ ap (λ (n : ℕ). (r, n)) (sym at) in
          Contains-append_right before (map marked marks) (r, c)
          (subst (Contains (map marked marks)) same (in_map marked marks mark has))
    ];
  })

module _ {X : Type 0} (laws : TablesByItems X) (rows columns : LineOrder) (items : fin.FinMap nat_cmp X)
    (is : IsSheet rows columns items) (sheet : KeptTable X) (view : numbered_table rows columns items ≡ sheet)
    (keys : List ℕ) (listed : AreKeysWithin 0 18446744073709551615 items keys) where
  line_of : (key : ℕ) → Contains keys key → IsOnLines rows columns key
  line_of key has = is.lines.each key ((listed.exactly key).0 has).2

  place_of_key : (key : ℕ) (has : Contains keys key)
      → place_in rows columns key ≡ ((line_of key has).row, (line_of key has).column)
  place_of_key key has = place-line rows columns is.rows_are is.columns_are key (line_of key has)

  keys_tell : (one other : ℕ) → Contains keys one → Contains keys other
      → place_in rows columns one ≡ place_in rows columns other → one ≡ other
  keys_tell one other here there same =
      (line_of one here).is
      ∙ ap (λ (p : ℕ × ℕ). key_at rows columns p.0 p.1) (sym (place_of_key one here) ∙ same ∙ place_of_key other there)
      ∙ sym (line_of other there).is

  -- the numbers of an item's row and column have a place
  pub rows_noted : (key : ℕ) → Contains keys key → line_in key < length rows.places
  rows_noted key has =
      let line = line_of key has in
      let same : line_in key ≡ number_of rows line.row =
      ap line_in line.is ∙ line-key (number_of rows line.row) (number_of columns line.column)
      (small columns is.columns_are line.column line.there.1) in
      omega (
        arith,
        same,
        is.rows_are.each.within line.row (omega (arith, line.there.0, is.rows_are.count)),
        is.rows_are.long,
      )

  pub columns_noted : (key : ℕ) → Contains keys key → across_in key < length columns.places
  columns_noted key has =
      let line = line_of key has in
      let same : across_in key ≡ number_of columns line.column =
      ap across_in line.is ∙ across-key (number_of rows line.row) (number_of columns line.column)
      (small columns is.columns_are line.column line.there.1) in
      omega (
        arith,
        same,
        is.columns_are.each.within line.column (omega (arith, line.there.1, is.columns_are.count)),
        is.columns_are.long,
      )

  -- the halves of the keys, and the places of these
  pub halves_numbered : AreNumbered rows columns (map halves_of keys)
  halves_numbered = record {
    each = λ pair has.
        let found = from_map halves_of keys pair has in
        let low : line_in found.0 < length rows.places = rows_noted found.0 found.1 in
        let across : across_in found.0 < length columns.places = columns_noted found.0 found.1 in
        subst (λ (p : ℕ × ℕ). (p.0 < length rows.places) × (p.1 < length columns.places)) found.2 (low, across);
  }

  pub halves_placed : map (pair_place rows columns) (map halves_of keys) ≡ map (place_in rows columns) keys
  halves_placed = map-map (pair_place rows columns) halves_of keys

  pub all_rows : AreOnRows 0 rows.count sheet.table (map (place_in rows columns) keys)
  all_rows = record {
    distinct = distinct_more (place_in rows columns) [] keys (IsDistinct-none (eq_by_cmp by_rows)) listed.in_order
        (λ p key has held same. absurd (nothing_in p has)) keys_tell;
    only = λ r c has.
        let found = from_map (place_in rows columns) keys (r, c) has in
        let line = line_of found.0 found.1 in
        let same : (line.row, line.column) ≡ (r, c) = sym (place_of_key found.0 found.1) ∙ found.2 in (
          omega (arith, line.there.0, ap (λ (q : ℕ × ℕ). q.0) same),
          subst (λ (q : ℕ × ℕ). IsSome (item_at sheet.table q.0 q.1)) same
              (subst IsSome (ap (fin.get items) line.is
              ∙ item-view laws rows columns items is sheet view line.row line.column line.there.0 line.there.1)
              ((listed.exactly found.0).0 found.1).2),
        );
    all = λ r c low high some.
        let there : c < columns.count = omega (
          arith,
          (inside-view laws rows columns items is sheet view r c some).1,
          ap (λ s. s.table.cols) view,
        ) in
        let fits = small rows is.rows_are r high in
        let fits_across = small columns is.columns_are c there in
        let has = (listed.exactly (key_at rows columns r c)).1 (
          omega arith,
          omega (arith, fits, fits_across),
          subst IsSome (sym (item-view laws rows columns items is sheet view r c high there)) some,
        ) in
        subst (Contains (map (place_in rows columns) keys))
        (place-key rows columns is.rows_are is.columns_are r c high there)
        (in_map (place_in rows columns) keys (key_at rows columns r c) has);
  }

-- the lines of a band, among so many
has_ends : (band : Band) (count line : ℕ) → line < count → HasLine band line
    → (first_line band ≤ line) × (line < min (end_line band count) count)
has_ends Whole count line there has = (omega arith, omega arith)
has_ends (From start) count line there has = (has, omega arith)
has_ends (Span start end) count line there has = let less = has.1 in (has.0, omega arith)

pub are_places : {X : Type 0} (area : Area) (table : Table X) (count first end : ℕ) (places held : List (ℕ × ℕ))
    → HasItemsInside table → count ≡ table.rows → first ≤ first_line area.rows
    → min (end_line area.rows count) count ≤ end
    → AreOnRows first end table places → IsStrictlySortedBy by_rows held
    → ((row col : ℕ) → Contains held (row, col) ↔ (Holds area row col × Contains places (row, col)))
    → AreFilledPlaces area table held
are_places area table count first end places held inside count_is low high are sorted exact = record {
  in_order = sorted;
  exactly = λ row col. (
    (λ has. let found = (exact row col).0 has in (found.0, (are.only row col found.1).1)),
    (λ filled.
        let there : row < count = omega (arith, (inside row col filled.1).0, count_is) in
        let ends = has_ends area.rows count row there filled.0.0 in
        (exact row col).1 (
          filled.0,
          are.all row col (omega (arith, ends.0, low)) (omega (arith, ends.1, high)) filled.1,
        )),
  );
}

pub are_column_places : {X : Type 0} (area : Area) (table : Table X) (count first end : ℕ) (places held : List (ℕ × ℕ))
    → HasItemsInside table → count ≡ table.cols → first ≤ first_line area.cols
    → min (end_line area.cols count) count ≤ end
    → AreOnColumns first end table places → IsStrictlySortedBy by_rows held
    → ((row col : ℕ) → Contains held (row, col) ↔ (Holds area row col × Contains places (row, col)))
    → AreFilledPlaces area table held
are_column_places area table count first end places held inside count_is low high are sorted exact = record {
  in_order = sorted;
  exactly = λ row col. (
    (λ has. let found = (exact row col).0 has in (found.0, (are.only row col found.1).1)),
    (λ filled.
        let there : col < count = omega (arith, (inside row col filled.1).1, count_is) in
        let ends = has_ends area.cols count col there filled.0.1 in
        (exact row col).1 (
          filled.0,
          are.all row col (omega (arith, ends.0, low)) (omega (arith, ends.1, high)) filled.1,
        )),
  );
}
