-- The entries of a tree after a change: what a place then holds.
use Rattle.std.proofs.Common.{◌≡◌, ℕ, suc, length, refl, sym, ap, subst, ◌∙◌, inl, inr, List, [], ◌∷◌, true}
use Rattle.std.proofs.Common.{false, cond, ◌<◌, ◌≤◌, arith}
use Rattle.std.specs.Prelude.{Option, Some, None}
use Rattle.std.specs.Option.{option_map, unwrap_or, IsSome, is_some}
use Rattle.std.specs.Ordering.{eq_by_cmp}
use Rattle.std.specs.List.{filter_map, cons_option, AllByRecursion, IsDistinct}
use Rattle.std.specs.Map.{lookup, keys_of}
use Rattle.std.proofs.lemmas.Bool.{false≢true, cases_Bool}
use Rattle.std.proofs.lemmas.Cmp.{eq_by_cmp_equiv}
use Rattle.std.proofs.lemmas.Map.Keys.{IsDistinct-head, IsDistinct-tail, IsDistinct-cons}
use Rattle.std.proofs.lemmas.Map.Made.{update_all_none}
use Rattle.std.proofs.lemmas.Map.Views.{tells_apart, Contains-from_lookup, lookup-from_Contains}
use Rattle.grid_range.specs.declared.axis.Axis.{Axis}
use Rattle.grid_range.specs.declared.change.Change.{Change}
use Rattle.grid_range.specs.Change.{Fits}
use Rattle.grid_range.specs.Area.{by_rows}
use Rattle.grid_range.specs.ByRows.{by_rows_total, by_rows_exact}
use Rattle.cell_store.specs.Table.{Table}
use Rattle.cell_store.specs.Entries.{entry_at, HasEntriesInside, table_of}
use Rattle.cell_store.specs.Moved.{place_after, lines_on, size_after, GoesWithLines}
use Rattle.cell_store.proofs.Cells.{SetsPlace, get-cells}
use Rattle.cell_store.proofs.Tables.{item-view}
use Rattle.cell_value.specs.Elements.{Contains-filter_map, Contains-filter_map_from}
use Rattle.cell_store.proofs.Filling.{FillsTo, fills_on}
use Rattle.cell_store.proofs.Going.{place_apart, place_within}
use Rattle.grid_range.specs.TrackingLaws.{PlacesStayApart, PlacesStayBelow}

-- the places of entries are places of the sheet
pub keys_inside : {T : Type 0} (rows cols : ℕ) (es : List ((ℕ × ℕ) × T)) → HasEntriesInside rows cols es
    → AllByRecursion (λ (k : ℕ × ℕ). (k.0 < rows) × (k.1 < cols)) (keys_of es)
keys_inside rows cols [] inside = tt
keys_inside rows cols (e ∷ es) inside = (
  inside e.0 (subst (λ b. IsSome (cond b (Some e.1) (entry_at es e.0)))
      (sym ((eq_by_cmp_equiv by_rows_total).refl e.0)) refl),
  keys_inside rows cols es (λ place some. inside place (
      elim (eq_by_cmp by_rows place e.0) as (λ b. IsSome (cond b (Some e.1) (entry_at es place)))
      [ true ↦ refl | false ↦ some ])),
)

module _ {T : Type 0} (axis : Axis) (change : Change) where
  -- an entry with the place where the change brings it
  abbrev pub moves : (ℕ × ℕ) × T → Option ((ℕ × ℕ) × T)
  moves entry = option_map (λ place. (place, entry.1)) (place_after axis change entry.0.0 entry.0.1)

  abbrev pub moved : List ((ℕ × ℕ) × T) → List ((ℕ × ℕ) × T)
  moved entries = filter_map moves entries

  pub length-moved : (entries : List ((ℕ × ℕ) × T)) → length (moved entries) ≤ length entries
  length-moved [] = omega arith
  length-moved (e ∷ es) = elim (moves e) as (λ o. length (cons_option o (moved es)) ≤ suc (length es)) [
    | None ↦ omega (arith, length-moved es)
    | Some x ↦ omega (arith, length-moved es)
  ]

  pub fills_moved : (items after : List ((ℕ × ℕ) × T)) (place now : ℕ × ℕ) (item copy : T)
      (entries rest all : List ((ℕ × ℕ) × T))
      → entries ≡ (place, item) ∷ rest → place_after axis change place.0 place.1 ≡ Some now → copy ≡ item
      → SetsPlace items after now (Some copy) → FillsTo items (moved entries) all → FillsTo after (moved rest) all
  fills_moved items after place now item copy entries rest all steps goes same updates fills =
      fills_on items after now copy (moved rest) all updates
      (subst (λ es. FillsTo items es all)
      (ap moved steps ∙ ap (λ o. cons_option (option_map (λ p. (p, item)) o) (moved rest)) goes
      ∙ ap (λ x. (now, x) ∷ moved rest) (sym same))
      fills)

  -- the places of the entries stay apart
  apart_moved : PlacesStayApart → (rows cols : ℕ) → Fits change (lines_on axis rows cols) → (place now : ℕ × ℕ)
      → place_after axis change place.0 place.1 ≡ Some now
      → (place.0 < rows) × (place.1 < cols) → (es : List ((ℕ × ℕ) × T))
      → AllByRecursion (λ (k : ℕ × ℕ). (k.0 < rows) × (k.1 < cols)) (keys_of es)
      → AllByRecursion (λ k. eq_by_cmp by_rows place k ≡ false) (keys_of es)
      → AllByRecursion (λ k. eq_by_cmp by_rows now k ≡ false) (keys_of (moved es))
  apart_moved law rows cols fits place now goes here [] inside h = tt
  apart_moved law rows cols fits place now goes here (e ∷ es) inside h =
      elim (place_after axis change e.0.0 e.0.1) as (λ o. place_after axis change e.0.0 e.0.1 ≡ o
      → AllByRecursion (λ k. eq_by_cmp by_rows now k ≡ false)
      (keys_of (cons_option (option_map (λ p. (p, e.1)) o) (moved es)))) [
        | None ↦ λ _. apart_moved law rows cols fits place now goes here es inside.1 h.1
        | Some p ↦ λ is. (differs p is, apart_moved law rows cols fits place now goes here es inside.1 h.1)
      ] refl
    where
      differs : (p : ℕ × ℕ) → place_after axis change e.0.0 e.0.1 ≡ Some p → eq_by_cmp by_rows now p ≡ false
      differs p is = elim (cases_Bool (eq_by_cmp by_rows now p)) [
        | inl same ↦
            let one : place ≡ e.0 = place_apart law axis change rows cols place e.0 p fits here inside.0
            (goes ∙ ap Some (tells_apart by_rows_exact now p same)) is in
            absurd (false≢true (sym h.0 ∙ ap (eq_by_cmp by_rows place) (sym one)
            ∙ (eq_by_cmp_equiv by_rows_total).refl place))
        | inr apart ↦ apart
      ]

  pub distinct_moved : PlacesStayApart → (rows cols : ℕ) → Fits change (lines_on axis rows cols)
      → (es : List ((ℕ × ℕ) × T))
      → AllByRecursion (λ (k : ℕ × ℕ). (k.0 < rows) × (k.1 < cols)) (keys_of es)
      → IsDistinct (eq_by_cmp by_rows) (keys_of es) → IsDistinct (eq_by_cmp by_rows) (keys_of (moved es))
  distinct_moved law rows cols fits [] inside d = d
  distinct_moved law rows cols fits (e ∷ es) inside d =
      let rest = distinct_moved law rows cols fits es inside.1
      (IsDistinct-tail (eq_by_cmp by_rows) e.0 (keys_of es) d) in
      elim (place_after axis change e.0.0 e.0.1) as (λ o. place_after axis change e.0.0 e.0.1 ≡ o
      → IsDistinct (eq_by_cmp by_rows) (keys_of (cons_option (option_map (λ p. (p, e.1)) o) (moved es)))) [
        | None ↦ λ _. rest
        | Some p ↦ λ is. IsDistinct-cons (eq_by_cmp by_rows) p (keys_of (moved es))
            (apart_moved law rows cols fits e.0 p is inside.0 es inside.1
            (IsDistinct-head (eq_by_cmp by_rows) e.0 (keys_of es) d)) rest
      ] refl

  -- what an entry became
  moved_parts : (o : Option (ℕ × ℕ)) (item x : T) (q : ℕ × ℕ)
      → option_map {U = (ℕ × ℕ) × T} (λ p. (p, item)) o ≡ Some (q, x) → (o ≡ Some q) × (item ≡ x)
  moved_parts None item x q e = absurd (false≢true (ap is_some e))
  moved_parts (Some p) item x q e =
      let same : ◌≡◌ {A = (ℕ × ℕ) × T} (p, item) (q, x) = ap (λ o. unwrap_or o (p, item)) e in
      (ap (λ y. Some y.0) same, ap (λ y. y.1) same)

  module _ (law : PlacesStayApart) (rows cols : ℕ) (items made : List ((ℕ × ℕ) × T))
      (fits : Fits change (lines_on axis rows cols))
      (apart : IsDistinct (eq_by_cmp by_rows) (keys_of items)) (inside : HasEntriesInside rows cols items)
      (fills : FillsTo made [] (moved items)) where
    get-made : (q : ℕ × ℕ) → entry_at made q ≡ lookup (eq_by_cmp by_rows q) (moved items)
    get-made q = fills q
        ∙ update_all_none (eq_by_cmp_equiv by_rows_total) (eq_by_cmp by_rows) (λ _ _. refl) (moved items) q
        (distinct_moved law rows cols fits items (keys_inside rows cols items inside) apart)

    came_from : (q : ℕ × ℕ) (x : T) → entry_at made q ≡ Some x
        → (old : ℕ × ℕ) × (place_after axis change old.0 old.1 ≡ Some q) × (entry_at items old ≡ Some x)
    came_from q x is =
        let (e, held, went) = Contains-filter_map_from moves items (q, x)
        (Contains-from_lookup (tells_apart by_rows_exact) q x (moved items) (sym (get-made q) ∙ is)) in
        let parts = moved_parts (place_after axis change e.0.0 e.0.1) e.1 x q went in
        (e.0, parts.0, lookup-from_Contains (eq_by_cmp_equiv by_rows_total) e.0 e.1 items apart held ∙ ap Some parts.1)

    goes_to : (old q : ℕ × ℕ) (x : T) → place_after axis change old.0 old.1 ≡ Some q → entry_at items old ≡ Some x
        → entry_at made q ≡ Some x
    goes_to old q x goes held =
        get-made q
        ∙ lookup-from_Contains (eq_by_cmp_equiv by_rows_total) q x (moved items)
        (distinct_moved law rows cols fits items (keys_inside rows cols items inside) apart)
        (Contains-filter_map moves items (old, x) (q, x)
        (Contains-from_lookup (tells_apart by_rows_exact) old x items held)
        (ap (option_map (λ p. (p, x))) goes))

    pub inside-moved : PlacesStayBelow → HasEntriesInside (size_after axis change rows cols).0
        (size_after axis change rows cols).1 made
    inside-moved below q there =
        elim (entry_at made q) as (λ o. entry_at made q ≡ o → IsSome o
        → (q.0 < (size_after axis change rows cols).0) × (q.1 < (size_after axis change rows cols).1)) [
          | None ↦ λ _ none. absurd (false≢true none)
          | Some x ↦ λ is _.
              let (old, goes, held) = came_from q x is in
              place_within below axis change rows cols old q fits (inside old (ap is_some held)) goes
        ] refl there

    pub goes_with_lines : {table : Table T} → table_of rows cols items ≡ table
        → GoesWithLines axis change table (table_of (size_after axis change rows cols).0
        (size_after axis change rows cols).1 made)
    goes_with_lines {table} view = record {
      size = ap (λ t. size_after axis change t.rows t.cols) view;
      items = λ row col x. (
        (λ is.
            let (old, goes, held) = came_from (row, col) x (sym (get-cells made (row, col)) ∙ is) in
            record {
              old_row = old.0;
              old_col = old.1;
              goes = goes;
              held = sym
                  (item-view rows cols items view old.0 old.1) ∙ held;
            }),
        (λ came.
            get-cells made (row, col)
            ∙ goes_to (came.old_row, came.old_col) (row, col) x came.goes
            (item-view rows cols items view came.old_row came.old_col ∙ came.held)),
      );
    }
