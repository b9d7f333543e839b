-- How a write changes the number of formulas of a table.
use Rattle.std.proofs.Common.{◌≡◌, ℕ, ◌+◌, ◌≤◌, refl, sym, ap, subst, ◌∙◌, Bool, true, false, cond, T, List, [], ◌∷◌, map, arith, ◌&&◌}
use Rattle.std.specs.Prelude.{Option, None, Some}
use Rattle.std.specs.List.{count_by}
use Rattle.std.specs.Ordering.{eq_by_cmp, is_eq, is_lt}
use Rattle.std.specs.declared.cmp.Ordering.TheVariants.{Less, Equal, Greater}
use Rattle.std.specs.Cmp.{tied_itself}
use Rattle.std.specs.FinMap as finite
use Rattle.std.specs.FinMap.Entries.{find, put, by_order, is_sorted, below_all}
use Rattle.std.proofs.lemmas.List.{length-map}
use Rattle.std.proofs.lemmas.List.Sums.{sum_by-cons, count_by-le-length}
use Rattle.grid_range.specs.Area.{by_rows}
use Rattle.grid_range.specs.ByRows.{by_rows_total, by_rows_exact}
use Rattle.cell_store.specs.Table.{Table, filled_places, item_at, empty_table}
use Rattle.ref_rewrite.specs.declared.cell_content.Content.{Content}
use Rattle.ref_rewrite.specs.declared.cell_content.Content.TheVariants as content
use Rattle.world_model.specs.Counts.{is_formula, formulas_at, formulas_in, formulas_of, filled_of}
use Rattle.world_model.specs.Sheet.{PlaceSheet}
use Rattle.world_model.specs.Writing.{table_written}
use Rattle.world_model.proofs.Filled.{first_part, second_part, is_less}

abbrev Entries : Type 0
Entries = List ((ℕ × ℕ) × Content)

-- the formulas among the entries
abbrev among : Entries → ℕ
among entries = count_by is_formula (map (λ entry. entry.1) entries)

abbrev one : Content → ℕ
one item = cond (is_formula item) 1 0

among-cons : (entry : (ℕ × ℕ) × Content) (rest : Entries) → among (entry ∷ rest) ≡ one entry.1 + among rest
among-cons entry rest = sum_by-cons one entry.1 (map (λ entry. entry.1) rest)

nothing_below : (place : ℕ × ℕ) (entries : Entries) → T (below_all by_rows place entries)
    → find by_rows place entries ≡ None
nothing_below place [] below = refl
nothing_below place (entry ∷ rest) below =
    ap (λ o. cond (is_eq o) (Some entry.1) (find by_rows place rest))
    (is_less (by_rows place entry.0) (first_part (is_lt (by_rows place entry.0)) (below_all by_rows place rest) below))
    ∙ nothing_below place rest (second_part (is_lt (by_rows place entry.0)) (below_all by_rows place rest) below)

from_below : (place : ℕ × ℕ) (entry : (ℕ × ℕ) × Content) (rest : Entries) → by_rows place entry.0 ≡ Less
    → T (is_sorted by_rows (entry ∷ rest)) → find by_rows place (entry ∷ rest) ≡ None
from_below place entry rest less sorted =
    ap (λ o. cond (is_eq o) (Some entry.1) (find by_rows place rest)) less
    ∙ nothing_below place rest (below_more place entry.0 rest less
    (first_part (below_all by_rows entry.0 rest) (is_sorted by_rows rest) sorted))
  where
    below_more : (place other : ℕ × ℕ) (rest : Entries) → by_rows place other ≡ Less → T (below_all by_rows other rest)
        → T (below_all by_rows place rest)
    below_more place other [] less below = tt
    below_more place other (entry ∷ rest) less below =
        both (is_lt (by_rows place entry.0)) (below_all by_rows place rest)
        (subst (λ o. T (is_lt o)) (sym (by_rows_total.trans place other entry.0 less
        (is_less (by_rows other entry.0)
        (first_part (is_lt (by_rows other entry.0)) (below_all by_rows other rest) below)))) tt)
        (below_more place other rest less
        (second_part (is_lt (by_rows other entry.0)) (below_all by_rows other rest) below))
      where
        both : (a b : Bool) → T a → T b → T (a && b)
        both true b p q = q
        both false b p q = absurd p

-- an entry put into its place takes the place of the one that ties with it
among-put : (place : ℕ × ℕ) (item : Content) (entries : Entries) → T (is_sorted by_rows entries)
    → among (put by_rows place item entries) + formulas_at (find by_rows place entries) ≡ among entries + one item
among-put place item [] sorted = let first = among-cons (place, item) [] in omega (arith, first)
among-put place item (entry ∷ rest) sorted =
    elim (by_rows place entry.0) as (λ o. by_rows place entry.0 ≡ o
    → among (by_order o ((place, item) ∷ entry ∷ rest) ((entry.0, item) ∷ rest) (entry ∷ put by_rows place item rest))
    + formulas_at (cond (is_eq o) (Some entry.1) (find by_rows place rest)) ≡ among (entry ∷ rest) + one item) [
      | Less ↦ λ less.
          let none : formulas_at (find by_rows place rest) ≡ 0 =
          ap (λ o. formulas_at (cond (is_eq o) (Some entry.1) (find by_rows place rest))) (sym less)
          ∙ ap formulas_at (from_below place entry rest less sorted) in
          let first = among-cons (place, item) (entry ∷ rest) in
          omega (arith, none, first)
      | Equal ↦ λ same.
          let first = among-cons (entry.0, item) rest in
          let before = among-cons entry rest in
          omega (arith, first, before)
      | Greater ↦ λ more.
          let first = among-cons entry (put by_rows place item rest) in
          let before = among-cons entry rest in
          let behind = among-put place item rest
          (second_part (below_all by_rows entry.0 rest) (is_sorted by_rows rest) sorted) in
          omega (arith, first, before, behind)
    ] refl

put_counted : (cells : finite.FinMap by_rows Content) (place : ℕ × ℕ) (item : Content)
    → count_by is_formula (finite.values (finite.insert cells place item)) + formulas_at (finite.get cells place)
    ≡ count_by is_formula (finite.values cells) + one item
put_counted cells place item =
    ap (λ entries. among entries + formulas_at (finite.get cells place))
    (finite.entries-insert by_rows_total cells place item)
    ∙ ap (λ held. among (put by_rows place item (finite.entries cells)) + formulas_at held)
    (finite.get-entries cells place)
    ∙ among-put place item (finite.entries cells) (finite.entries_sorted cells)

-- what is taken out and put back is put over
put_back : (cells : finite.FinMap by_rows Content) (place : ℕ × ℕ) (item : Content)
    → finite.insert (finite.remove cells place) place item ≡ finite.insert cells place item
put_back cells place item = finite.same_map by_rows_total by_rows_exact
    (finite.insert (finite.remove cells place) place item) (finite.insert cells place item) (λ q.
    finite.get-insert by_rows_total (finite.remove cells place) place item q
    ∙ ap (cond (eq_by_cmp by_rows q place) (Some item)) (finite.get-remove by_rows_total cells place q)
    ∙ either (eq_by_cmp by_rows q place) (Some item) (finite.get cells q)
    ∙ sym (finite.get-insert by_rows_total cells place item q))
  where
    either : (b : Bool) (some held : Option Content) → cond b some (cond b None held) ≡ cond b some held
    either true some held = refl
    either false some held = refl

taken_counted : (cells : finite.FinMap by_rows Content) (place : ℕ × ℕ)
    → count_by is_formula (finite.values (finite.remove cells place)) + formulas_at (finite.get cells place)
    ≡ count_by is_formula (finite.values cells)
taken_counted cells place =
    let item : Content = content.Truth true in
    let gone : finite.get (finite.remove cells place) place ≡ None =
    finite.get-remove by_rows_total cells place place
    ∙ ap (λ o. cond (is_eq o) None (finite.get cells place)) (tied_itself by_rows_total place) in
    let back = put_counted (finite.remove cells place) place item in
    let over = put_counted cells place item in
    let none : formulas_at (finite.get (finite.remove cells place) place) ≡ 0 = ap formulas_at gone in
    let same : count_by is_formula (finite.values (finite.insert (finite.remove cells place) place item))
    ≡ count_by is_formula (finite.values (finite.insert cells place item)) =
    ap (λ cells. count_by is_formula (finite.values cells)) (put_back cells place item) in
    omega (arith, back, over, none, same)

pub formulas_written : (table : Table Content) (row col : ℕ) (item : Option Content)
    → formulas_in (table_written row col item table) + formulas_at (item_at table row col)
    ≡ formulas_in table + formulas_at item
formulas_written table row col None = let taken = taken_counted table.cells (row, col) in omega (arith, taken)
formulas_written table row col (Some item) = put_counted table.cells (row, col) item

pub formulas_within : (table : Table Content) → formulas_in table ≤ filled_places table
formulas_within table =
    let few = count_by-le-length is_formula (finite.values table.cells) in
    let long = length-map (finite.entries table.cells) (λ entry. entry.1) in
    let filled = finite.len-entries table.cells in
    omega (arith, few, long, filled)

pub no_formulas : (rows cols : ℕ) → formulas_in (empty_table rows cols) ≡ 0
no_formulas rows cols =
    let few = formulas_within (empty_table rows cols) in
    let none = finite.len-empty by_rows Content in
    omega (arith, few, none)

pub formulas_within_all : (sheets : List PlaceSheet) → formulas_of sheets ≤ filled_of sheets
formulas_within_all [] = omega arith
formulas_within_all (s ∷ ss) =
    let first = formulas_within s.table in
    let rest = formulas_within_all ss in
    let formulas = sum_by-cons (λ sheet. formulas_in sheet.table) s ss in
    let filled = sum_by-cons (λ sheet. filled_places sheet.table) s ss in
    omega (arith, first, rest, formulas, filled)
