-- Places by rows are numbered: a place below another has a lesser number, and all numbers are below that of places.
-- So items that stand in a sheet are at most as many as its places.
use Rattle.std.proofs.Common.{◌≡◌, ℕ, suc, ◌+◌, ◌*◌, ◌<◌, ◌≤◌, refl, sym, ap, subst, ◌∙◌, Bool, true, false, cond, T, List, [], ◌∷◌, length, arith, mul-le-mul_right, ◌&&◌}
use Rattle.std.specs.Prelude.{Option, Some, is_some}
use Rattle.std.specs.List.{All}
use Rattle.std.specs.Ordering.{nat_cmp, eq_by_cmp, is_eq, is_lt, ordering_then}
use Rattle.std.specs.declared.cmp.Ordering.{Ordering}
use Rattle.std.specs.declared.cmp.Ordering.TheVariants.{Less, Equal, Greater}
use Rattle.std.specs.Cmp.{ranked, tied_itself}
use Rattle.std.specs.FinMap as finite
use Rattle.std.specs.FinMap.Entries.{find, is_sorted, below_all}
use Rattle.std.proofs.lemmas.Nat.{mul-add-lt}
use Rattle.std.proofs.lemmas.List.Sums.{sum_by-cons}
use Rattle.grid_range.specs.Area.{by_rows}
use Rattle.grid_range.specs.ByRows.{by_rows_total}
use Rattle.cell_store.specs.Table.{Table, HasItemsInside, filled_places}
use Rattle.ref_rewrite.specs.declared.cell_content.Content.{Content}
use Rattle.world_model.specs.Book.{PlaceBook}
use Rattle.world_model.specs.Counts.{filled_of, grid_places}
use Rattle.world_model.specs.Sheet.{PlaceSheet}
use Rattle.world_model.specs.Sound.{IsSound, IsSheetSound}

pub first_part : (a b : Bool) → T (a && b) → T a
first_part true b p = tt
first_part false b p = absurd p

pub second_part : (a b : Bool) → T (a && b) → T b
second_part true b p = p
second_part false b p = absurd p

pub is_less : (o : Ordering) → T (is_lt o) → o ≡ Less
is_less Less p = refl
is_less Equal p = absurd p
is_less Greater p = absurd p

module _ (rows cols : ℕ) where
  abbrev number : ℕ × ℕ → ℕ
  number place = place.0 * cols + place.1

  number_rises : (one other : ℕ × ℕ) → one.1 < cols → by_rows one other ≡ Less → number one < number other
  number_rises one other within less =
      elim (nat_cmp one.0 other.0) as (λ o. nat_cmp one.0 other.0 ≡ o → ordering_then o (nat_cmp one.1 other.1) ≡ Less
      → number one < number other) [
        | Less ↦ λ is _.
            let above : suc one.0 * cols ≤ other.0 * cols =
            mul-le-mul_right cols (ranked one.0 other.0 Less (sym is)) in
            omega (arith, above, within)
        | Equal ↦ λ is right.
            let same : one.0 ≡ other.0 = ranked one.0 other.0 Equal (sym is) in
            let less : one.1 < other.1 = ranked one.1 other.1 Less (sym right) in
            subst (λ r. one.0 * cols + one.1 < r * cols + other.1) same (omega (arith, less))
        | Greater ↦ λ is right. absurd (subst (λ o. T (is_lt o)) (sym right) tt)
      ] refl less

  module _ {X : Type 0} where
    -- each of the entries stands in the sheet
    abbrev StandInside : List ((ℕ × ℕ) × X) → Type 0
    StandInside entries = (place : ℕ × ℕ) → is_some (find by_rows place entries) ≡ true
        → (place.0 < rows) × (place.1 < cols)

    first_inside : (entry : (ℕ × ℕ) × X) (rest : List ((ℕ × ℕ) × X)) → StandInside (entry ∷ rest)
        → (entry.0.0 < rows) × (entry.0.1 < cols)
    first_inside entry rest inside = inside entry.0
        (ap (λ o. is_some (cond (is_eq o) (Some entry.1) (find by_rows entry.0 rest)))
        (tied_itself by_rows_total entry.0))

    found_behind : (b : Bool) (item : X) (held : Option X) → is_some held ≡ true
        → is_some (cond b (Some item) held) ≡ true
    found_behind true item held some = refl
    found_behind false item held some = some

    rest_inside : (entry : (ℕ × ℕ) × X) (rest : List ((ℕ × ℕ) × X)) → StandInside (entry ∷ rest) → StandInside rest
    rest_inside entry rest inside place some =
        inside place (found_behind (eq_by_cmp by_rows place entry.0) entry.1 (find by_rows place rest) some)

    numbered : (entry : (ℕ × ℕ) × X) (rest : List ((ℕ × ℕ) × X)) → T (is_sorted by_rows (entry ∷ rest))
        → StandInside (entry ∷ rest) → number entry.0 + length (entry ∷ rest) ≤ rows * cols
    numbered entry [] sorted inside =
        let there = first_inside entry [] inside in
        let below : number entry.0 < cols * rows = mul-add-lt entry.0.0 cols entry.0.1 rows there.0 there.1 in
        omega (arith, below)
    numbered entry (next ∷ rest) sorted inside =
        let there = first_inside entry (next ∷ rest) inside in
        let after = numbered next rest
        (second_part (below_all by_rows entry.0 (next ∷ rest)) (is_sorted by_rows (next ∷ rest)) sorted)
        (rest_inside entry (next ∷ rest) inside) in
        let less = number_rises entry.0 next.0 there.1 (is_less (by_rows entry.0 next.0)
        (first_part (is_lt (by_rows entry.0 next.0)) (below_all by_rows entry.0 rest)
        (first_part (below_all by_rows entry.0 (next ∷ rest)) (is_sorted by_rows (next ∷ rest)) sorted))) in
        omega (arith, after, less)

    at_most : (entries : List ((ℕ × ℕ) × X)) → T (is_sorted by_rows entries) → StandInside entries
        → length entries ≤ rows * cols
    at_most [] sorted inside = omega arith
    at_most (entry ∷ rest) sorted inside = let most = numbered entry rest sorted inside in omega (arith, most)

pub filled_within : (table : Table Content) → HasItemsInside table → filled_places table ≤ table.rows * table.cols
filled_within table inside =
    subst (λ n. n ≤ table.rows * table.cols) (sym (finite.len-entries table.cells))
    (at_most table.rows table.cols (finite.entries table.cells) (finite.entries_sorted table.cells)
    (λ place some. inside place.0 place.1 (ap is_some (finite.get-entries table.cells place) ∙ some)))

-- of all sheets
within_all : (placed sheets : List PlaceSheet) → All (IsSheetSound placed) sheets
    → filled_of sheets ≤ grid_places sheets
within_all placed [] sound = omega arith
within_all placed (s ∷ ss) sound =
    let first = filled_within s.table (sound 0 s (omega arith)).inside in
    let rest = within_all placed ss (λ k d there. sound (suc k) d (omega arith)) in
    let filled = sum_by-cons (λ sheet. filled_places sheet.table) s ss in
    let places = sum_by-cons (λ sheet. sheet.table.rows * sheet.table.cols) s ss in
    omega (arith, first, rest, filled, places)

pub filled_within_book : (book : PlaceBook) → IsSound book → filled_of book.sheets ≤ grid_places book.sheets
filled_within_book book sound = within_all book.sheets book.sheets sound.sheets
