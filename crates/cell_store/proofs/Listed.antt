-- The filled places of an area, as a part of a tree's keys.
use native.Mathlib.Omega.{arith}
use Rattle.std.proofs.Common.{inl, inr, ◌≡◌, ℕ, refl, sym, ap, subst, ◌∙◌, List, [], ◌∷◌, ◌++◌, Bool, ◌&&◌, nat_le}
use Rattle.std.proofs.Common.{nat_lt, true, false, cond, not, ◌<◌, ◌≤◌}
use Rattle.std.specs.Prelude.{None}
use Rattle.std.specs.Option.{IsSome}
use Rattle.std.specs.Ordering.{eq_by_cmp, is_le}
use Rattle.std.specs.declared.ops.Bound.TheVariants.{Included, Excluded}
use Rattle.std.specs.List.{filter}
use Rattle.std.specs.List.Sorted.{IsStrictlySortedBy}
use Rattle.std.specs.Map.{lookup, keys_of}
use Rattle.std.specs.BTreeMap.Range.{entries_between, range_contains}
use Rattle.std.proofs.lemmas.Bool.{false≢true, cases_Bool}
use Rattle.std.proofs.lemmas.Bool.Decides.{nat_tests}
use Rattle.std.proofs.lemmas.Cmp.{eq_by_cmp_equiv}
use Rattle.std.proofs.lemmas.List.{append_assoc}
use Rattle.std.proofs.lemmas.List.Kept.{IsStrictlySortedBy-filter}
use Rattle.std.proofs.lemmas.Map.Entries.{lookup-filter-keys}
use Rattle.std.proofs.lemmas.Map.Views.{tells_apart, Contains-keys_from_lookup, IsSome-lookup_from_Contains}
use Rattle.grid_range.specs.declared.area.Area.{Area}
use Rattle.grid_range.specs.declared.band.Band.{Band}
use Rattle.grid_range.specs.declared.band.Band.TheVariants.{Whole, From, Span}
use Rattle.grid_range.specs.Band.{HasLine}
use Rattle.grid_range.specs.Area.{Holds}
use Rattle.grid_range.specs.ByRows.{by_rows_total, by_rows_exact}
use Rattle.grid_range.specs.Area.{by_rows}
use Rattle.cell_store.specs.Table.{Table}
use Rattle.cell_store.specs.Entries.{entry_at, HasEntriesInside, table_of}
use Rattle.cell_store.specs.Places.{AreFilledPlaces}
use Rattle.cell_store.proofs.Tables.{item-view}

-- the tests of a band and of an area
abbrev pub has_line : Band → ℕ → Bool
has_line Whole line = true
has_line (From start) line = nat_le start line
has_line (Span start end) line = nat_le start line && nat_lt line end

abbrev pub holds_place : Area → ℕ × ℕ → Bool
holds_place area place = has_line area.rows place.0 && has_line area.cols place.1

has_line_true : (band : Band) (line : ℕ) → HasLine band line → has_line band line ≡ true
has_line_true Whole line h = refl
has_line_true (From start) line h = grind (arith, nat_tests)
has_line_true (Span start end) line h = grind (arith, nat_tests)

HasLine-from : (band : Band) (line : ℕ) → has_line band line ≡ true → HasLine band line
HasLine-from Whole line h = tt
HasLine-from (From start) line h = grind (arith, nat_tests)
HasLine-from (Span start end) line h = grind (arith, nat_tests)

both_true : (a b : Bool) → a ≡ true → b ≡ true → (a && b) ≡ true
both_true true b e f = f
both_true false b e f = absurd (false≢true e)

each_true : (a b : Bool) → (a && b) ≡ true → (a ≡ true) × (b ≡ true)
each_true true b e = (refl, e)
each_true false b e = absurd (false≢true e)

pub holds_true : (area : Area) (place : ℕ × ℕ) → Holds area place.0 place.1 → holds_place area place ≡ true
holds_true area place h = both_true _ _ (has_line_true area.rows place.0 h.0) (has_line_true area.cols place.1 h.1)

pub Holds-from : (area : Area) (row col : ℕ) → holds_place area (row, col) ≡ true → Holds area row col
Holds-from area row col h =
    let each = each_true (has_line area.rows row) (has_line area.cols col) h in
    (HasLine-from area.rows row each.0, HasLine-from area.cols col each.1)

-- where a test of the cell failed
pub holds_false : (area : Area) (place : ℕ × ℕ) (b : Bool) → (Holds area place.0 place.1 → b ≡ true) → b ≡ false
    → holds_place area place ≡ false
holds_false area place b told failed = elim (cases_Bool (holds_place area place)) [
  | inl held ↦ absurd (false≢true (sym failed ∙ told (Holds-from area place.0 place.1 held)))
  | inr fails ↦ fails
]

-- a test that tells whether the area holds a place
pub told : (area : Area) (place : ℕ × ℕ) (b : Bool)
    → ((b ≡ true → Holds area place.0 place.1) × (Holds area place.0 place.1 → b ≡ true))
    → b ≡ holds_place area place
told area place true tells = sym (holds_true area place (tells.0 refl))
told area place false tells = sym (holds_false area place false tells.1 refl)

-- a place of a row from the first to the last is between these two places
from_start : (start row col : ℕ) → start ≤ row → is_le (by_rows (start, 0) (row, col)) ≡ true
from_start start row col h = grind (arith, nat_tests)

past_end : (stop row col : ℕ) → row < stop → is_le (by_rows (stop, 0) (row, col)) ≡ false
past_end stop row col h = grind (arith, nat_tests)

-- a test of keys answers alike at keys that the order doesn't tell apart
alike : (p : ℕ × ℕ → Bool) (place k : ℕ × ℕ) → eq_by_cmp by_rows place k ≡ true → p k ≡ p place
alike p place k same = ap p (sym (tells_apart by_rows_exact place k same))

module _ {T : Type 0} where
  keys_filter : (p : ℕ × ℕ → Bool) (es : List ((ℕ × ℕ) × T)) → keys_of (filter (λ e. p e.0) es) ≡ filter p (keys_of es)
  keys_filter p [] = refl
  keys_filter p (e ∷ es) =
      elim (p e.0) as (λ b. keys_of (cond b (e ∷ filter (λ e. p e.0) es) (filter (λ e. p e.0) es)) ≡ cond b
      (e.0 ∷ filter p (keys_of es)) (filter p (keys_of es))) [
        | true ↦ ap (λ ks. e.0 ∷ ks) (keys_filter p es)
        | false ↦ keys_filter p es
      ]

  -- the places of the entries that the area holds
  abbrev pub held_places : Area → List ((ℕ × ℕ) × T) → List (ℕ × ℕ)
  held_places area entries = keys_of (filter (λ e. holds_place area e.0) entries)

  pub held_more : (area : Area) (places after : List (ℕ × ℕ)) (entries rest : List ((ℕ × ℕ) × T)) (place : ℕ × ℕ)
      (item : T) (all : List (ℕ × ℕ))
      → entries ≡ (place, item) ∷ rest → after ≡ places ++ place ∷ [] → Holds area place.0 place.1
      → places ++ held_places area entries ≡ all → after ++ held_places area rest ≡ all
  held_more area places after entries rest place item all steps pushed holds so_far =
      let head : held_places area entries ≡ place ∷ held_places area rest =
      ap (held_places area) steps
      ∙ ap (λ b. keys_of (cond b ((place, item) ∷ filter (λ e. holds_place area e.0) rest)
      (filter (λ e. holds_place area e.0) rest))) (holds_true area place holds) in
      ap (λ ps. ps ++ held_places area rest) pushed ∙ append_assoc places (place ∷ []) (held_places area rest)
      ∙ sym (ap (λ ps. places ++ ps) head) ∙ so_far

  keys_sorted : (p q : ℕ × ℕ → Bool) (es : List ((ℕ × ℕ) × T)) → IsStrictlySortedBy by_rows (keys_of es)
      → IsStrictlySortedBy by_rows (keys_of (filter (λ e. p e.0) (filter (λ e. q e.0) es)))
  keys_sorted p q es sorted =
      subst (IsStrictlySortedBy by_rows) (sym (keys_filter p (filter (λ e. q e.0) es)
      ∙ ap (filter p) (keys_filter q es)))
      (IsStrictlySortedBy-filter by_rows p (filter q (keys_of es))
      (IsStrictlySortedBy-filter by_rows q (keys_of es) sorted))

  lookup_both : (p q : ℕ × ℕ → Bool) (place : ℕ × ℕ) (es : List ((ℕ × ℕ) × T))
      → lookup (eq_by_cmp by_rows place) (filter (λ e. p e.0) (filter (λ e. q e.0) es))
      ≡ cond (p place) (cond (q place) (lookup (eq_by_cmp by_rows place) es) None) None
  lookup_both p q place es =
      lookup-filter-keys (eq_by_cmp by_rows place) p (p place) (alike p place) (filter (λ e. q e.0) es)
      ∙ ap (λ o. cond (p place) o None) (lookup-filter-keys (eq_by_cmp by_rows place) q (q place) (alike q place) es)

  both_some : (a b : Bool) (o : _) → IsSome {T = T} (cond a (cond b o None) None) → (a ≡ true) × IsSome o
  both_some true true o h = (refl, h)
  both_some true false o h = absurd (false≢true h)
  both_some false b o h = absurd (false≢true h)

  some_both : (a b : Bool) (o : _) → a ≡ true → b ≡ true → IsSome o → IsSome {T = T} (cond a (cond b o None) None)
  some_both true true o e f h = h
  some_both true false o e f h = absurd (false≢true f)
  some_both false b o e f h = absurd (false≢true e)

  pub are_filled_places : (area : Area) (rows cols : ℕ) (items : List ((ℕ × ℕ) × T)) {table : Table T} (start stop : ℕ)
      → table_of rows cols items ≡ table → HasEntriesInside rows cols items → IsStrictlySortedBy by_rows (keys_of items)
      → ((row : ℕ) → row < rows → HasLine area.rows row → (start ≤ row) × (row < stop))
      → AreFilledPlaces area table (held_places area
      (entries_between by_rows (Included (start, 0)) (Excluded (stop, 0)) items))
  are_filled_places area rows cols items start stop view inside ordered covers =
      let between = range_contains by_rows (Included (start, 0)) (Excluded (stop, 0)) in
      let found = λ (row col : ℕ). lookup_both (holds_place area) between (row, col) items in
      record {
        in_order = keys_sorted (holds_place area) between items ordered;
        exactly = λ row col. (
          (λ listed.
              let both = both_some (holds_place area (row, col)) (between (row, col)) (entry_at items (row, col))
              (subst IsSome (found row col) (IsSome-lookup_from_Contains (eq_by_cmp_equiv by_rows_total) (row, col)
              _ listed)) in
              (Holds-from area row col both.0, subst IsSome (item-view rows cols items view row col) both.1)),
          (λ held.
              let some : IsSome (entry_at items (row, col)) = subst IsSome
              (sym (item-view rows cols items view row col)) held.1 in
              let rows_are = covers row (inside (row, col) some).0 held.0.0 in
              Contains-keys_from_lookup (tells_apart by_rows_exact) (row, col) _
              (subst IsSome (sym (found row col))
              (some_both _ _ _ (holds_true area (row, col) held.0)
              (both_true _ _ (from_start start row col rows_are.0) (ap not (past_end stop row col rows_are.1))) some))),
        );
      }
