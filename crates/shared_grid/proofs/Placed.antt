-- What stands at a place of the sheet that items by the numbers of their lines stand for.
use native.Mathlib.Omega.{arith}
use Rattle.std.proofs.Common.{◌≡◌, ◌⊎◌, inl, inr, ℕ, ◌<◌, Bool, true, false, cond, ◌&&◌, List, [], ◌∷◌, map, refl, sym, ap, subst, ◌∙◌}
use Rattle.std.specs.Prelude.{Option, Some, None, T}
use Rattle.std.specs.Option.{IsSome}
use Rattle.std.specs.Ordering.{nat_cmp, eq_by_cmp, is_lt, is_eq}
use Rattle.std.specs.declared.cmp.Ordering.{Ordering}
use Rattle.std.specs.declared.cmp.Ordering.TheVariants.{Less, Equal, Greater}
use Rattle.std.specs.List.{AllByRecursion, IsDistinct}
use Rattle.std.specs.Map.{keys_of}
use Rattle.std.specs.FinMap as map
use Rattle.std.specs.FinMap.Entries as entries
use Rattle.std.proofs.lemmas.Bool.{false≢true, cases_lt}
use Rattle.std.proofs.lemmas.List.{length-map}
use Rattle.std.proofs.lemmas.Map.Keys.{IsDistinct-cons}
use Rattle.grid_range.specs.Area.{by_rows}
use Rattle.grid_range.specs.ByRows.{same_cell}
use Rattle.cell_store.specs.Table.{Table, item_at, filled_places, HasItemsInside}
use Rattle.cell_store.specs.Entries.{entry_at}
use Rattle.cell_store.specs.Laws.{TablesByItems}
use Rattle.cell_value.specs.Elements.{IsDistinct-none}
use Rattle.shared_grid.specs.Orders.{LineOrder}
use Rattle.shared_grid.specs.Orders.{IsOrder}
use Rattle.shared_grid.specs.Sheets.{key_at, place_in, placed, sheet_of, IsOnLines, AreOnLines}
use Rattle.shared_grid.proofs.Numbers.{key_itself, place-line, place_or_key, places_or_keys}

apart : (o : Ordering) → T (is_lt o) → is_eq o ≡ false
apart Less h = refl
apart Equal h = absurd h
apart Greater h = absurd h

first_of : (a b : Bool) → T (a && b) → T a
first_of true b both = tt
first_of false b both = both

second_of : (a b : Bool) → T (a && b) → T b
second_of true b both = both
second_of false b both = absurd both

module _ {X : Type 0} where
  still_some : (b : Bool) (item : X) (rest : Option X) → IsSome rest → IsSome (cond b (Some item) rest)
  still_some true item rest some = refl
  still_some false item rest some = some

  first_some : (b : Bool) (item : X) (rest : Option X) → b ≡ true → IsSome (cond b (Some item) rest)
  first_some true item rest is = refl
  first_some false item rest is = absurd (false≢true is)

  module _ (pair_place : ℕ → ℕ × ℕ) where
    abbrev moved : List (ℕ × X) → List ((ℕ × ℕ) × X)
    moved es = map (λ (entry : ℕ × X). (pair_place entry.0, entry.1)) es

    -- an item is found at a place as it is at a key, where the two tell the keys of the items apart alike
    found_as : (place : ℕ × ℕ) (key : ℕ) (es : List (ℕ × X))
        → ((k : ℕ) → IsSome (map.find nat_cmp k es) → eq_by_cmp by_rows place (pair_place k) ≡ eq_by_cmp nat_cmp key k)
        → entry_at (moved es) place ≡ map.find nat_cmp key es
    found_as place key [] tests = refl
    found_as place key (e ∷ es) tests =
        ap (λ b. cond b (Some e.1) (entry_at (moved es) place))
        (tests e.0 (first_some (eq_by_cmp nat_cmp e.0 e.0) e.1 (map.find nat_cmp e.0 es) (key_itself e.0)))
        ∙ ap (cond (eq_by_cmp nat_cmp key e.0) (Some e.1)) (found_as place key es (λ k some.
        tests k (still_some (eq_by_cmp nat_cmp k e.0) e.1 (map.find nat_cmp k es) some)))

    -- what is found at a place has a key
    has_key : (place : ℕ × ℕ) (es : List (ℕ × X)) → IsSome (entry_at (moved es) place)
        → (key : ℕ) × IsSome (map.find nat_cmp key es) × (eq_by_cmp by_rows place (pair_place key) ≡ true)
    has_key place [] some = absurd (false≢true some)
    has_key place (e ∷ es) some =
        elim (eq_by_cmp by_rows place (pair_place e.0)) as (λ b. eq_by_cmp by_rows place (pair_place e.0) ≡ b
        → IsSome (cond b (Some e.1) (entry_at (moved es) place))
        → (key : ℕ) × IsSome (map.find nat_cmp key (e ∷ es)) × (eq_by_cmp by_rows place (pair_place key) ≡ true)) [
          | true ↦ λ is _. (
            e.0,
            first_some (eq_by_cmp nat_cmp e.0 e.0) e.1 (map.find nat_cmp e.0 es) (key_itself e.0),
            is,
          )
          | false ↦ λ _ rest.
              let found = has_key place es rest in
              (found.0, still_some (eq_by_cmp nat_cmp found.0 e.0) e.1 (map.find nat_cmp found.0 es) found.1, found.2)
        ] refl some

    all_apart : (key : ℕ) (es : List (ℕ × X)) → T (entries.below_all nat_cmp key es)
        → ((k : ℕ) → IsSome (map.find nat_cmp k es)
        → eq_by_cmp by_rows (pair_place key) (pair_place k) ≡ eq_by_cmp nat_cmp key k)
        → AllByRecursion (λ place. eq_by_cmp by_rows (pair_place key) place ≡ false) (keys_of (moved es))
    all_apart key [] below tests = tt
    all_apart key (e ∷ es) below tests = (
      tests e.0 (first_some (eq_by_cmp nat_cmp e.0 e.0) e.1 (map.find nat_cmp e.0 es) (key_itself e.0))
          ∙ apart (nat_cmp key e.0) (first_of _ _ below),
      all_apart key es (second_of (is_lt (nat_cmp key e.0)) _ below) (λ k some.
          tests k (still_some (eq_by_cmp nat_cmp k e.0) e.1 (map.find nat_cmp k es) some)),
    )

    -- the places of different keys differ
    places_apart : (es : List (ℕ × X)) → T (entries.is_sorted nat_cmp es)
        → ((one other : ℕ) → IsSome (map.find nat_cmp one es) → IsSome (map.find nat_cmp other es)
        → eq_by_cmp by_rows (pair_place one) (pair_place other) ≡ eq_by_cmp nat_cmp one other)
        → IsDistinct (eq_by_cmp by_rows) (keys_of (moved es))
    places_apart [] sorted tests = IsDistinct-none (eq_by_cmp by_rows)
    places_apart (e ∷ es) sorted tests =
        let later = λ (k : ℕ) (some : IsSome (map.find nat_cmp k es)).
        still_some (eq_by_cmp nat_cmp k e.0) e.1 (map.find nat_cmp k es) some in
        IsDistinct-cons (eq_by_cmp by_rows) (pair_place e.0) (keys_of (moved es))
        (all_apart e.0 es (first_of _ _ sorted) (λ k some. tests e.0 k
        (first_some (eq_by_cmp nat_cmp e.0 e.0) e.1 (map.find nat_cmp e.0 es) (key_itself e.0)) (later k some)))
        (places_apart es (second_of (entries.below_all nat_cmp e.0 es) _ sorted)
        (λ one other here there. tests one other (later one here) (later other there)))

-- a place is of the sheet, or it isn't
inside_or : (rows cols row col : ℕ) → ((row < rows) × (col < cols)) ⊎ ((row < rows) × (col < cols) → ⊥)
inside_or rows cols row col = elim (cases_lt row rows) [
  | inr past ↦ inr (λ there. let less = there.0 in omega arith)
  | inl less ↦ elim (cases_lt col cols) [
    | inr past ↦ inr (λ there. let short = there.1 in omega arith)
    | inl short ↦ inl (less, short)
  ]
]

none_or : {X : Type 0} (item : Option X) → (IsSome item → ⊥) → item ≡ None
none_or None never = refl
none_or (Some item) never = absurd (never refl)

module _ {X : Type 0} (laws : TablesByItems X) (rows columns : LineOrder) (rows_are : IsOrder rows)
    (columns_are : IsOrder columns) (items : map.FinMap nat_cmp X) (lines : AreOnLines rows columns items) where
  on : (key : ℕ) → IsSome (map.find nat_cmp key (map.entries items)) → IsOnLines rows columns key
  on key some = lines.each key (subst IsSome (sym (map.get-entries items key)) some)

  pub item-place : (row col : ℕ) → row < rows.count → col < columns.count
      → item_at (sheet_of rows columns items) row col ≡ map.get items (key_at rows columns row col)
  item-place row col row_there col_there =
      laws.entries rows.count columns.count (placed rows columns items) row col
      ∙ found_as (place_in rows columns) (row, col) (key_at rows columns row col) (map.entries items) (λ key some.
      place_or_key rows columns rows_are columns_are row col key row_there col_there (on key some))
      ∙ sym (map.get-entries items (key_at rows columns row col))

  pub inside : HasItemsInside (sheet_of rows columns items)
  inside row col some =
      let found = has_key (place_in rows columns) (row, col) (map.entries items)
      (subst IsSome (laws.entries rows.count columns.count (placed rows columns items) row col) some) in
      let line = on found.0 found.1 in
      let same : (row, col) ≡ (line.row, line.column) = same_cell (row, col) (place_in rows columns found.0) found.2
      ∙ place-line rows columns rows_are columns_are found.0 line in
      subst (λ (place : ℕ × ℕ). (place.0 < rows.count) × (place.1 < columns.count)) (sym same) line.there

  pub none_outside : (row col : ℕ) → ((row < rows.count) × (col < columns.count) → ⊥)
      → item_at (sheet_of rows columns items) row col ≡ None
  none_outside row col out = none_or (item_at (sheet_of rows columns items) row col) (λ some. out (inside row col some))

  pub filled : filled_places (sheet_of rows columns items) ≡ map.len items
  filled =
      laws.filled rows.count columns.count (placed rows columns items)
      (places_apart (place_in rows columns) (map.entries items) (map.entries_sorted items) (λ one other here there.
      places_or_keys rows columns rows_are columns_are one other (on one here) (on other there)))
      ∙ length-map (map.entries items) (λ (entry : ℕ × X). (place_in rows columns entry.0, entry.1))
      ∙ sym (map.len-entries items)

  -- the sheet is that table, where this has the same items at the places of the sheet, and no others
  pub is_table : (other : Table X) → other.rows ≡ rows.count → other.cols ≡ columns.count
      → ((row col : ℕ) → row < rows.count → col < columns.count
      → map.get items (key_at rows columns row col) ≡ item_at other row col)
      → ((row col : ℕ) → ((row < rows.count) × (col < columns.count) → ⊥) → item_at other row col ≡ None)
      → sheet_of rows columns items ≡ other
  is_table other rows_same cols_same here none =
      laws.same (sheet_of rows columns items) other (sym rows_same) (sym cols_same) (λ row col.
      elim (inside_or rows.count columns.count row col) [
        | inl there ↦ item-place row col there.0 there.1 ∙ here row col there.0 there.1
        | inr out ↦ none_outside row col out ∙ sym (none row col out)
      ])
