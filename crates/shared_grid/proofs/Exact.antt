-- Where there are as many marks as items, each mark is that of an item.
use native.Mathlib.Omega.{arith}
use Rattle.std.proofs.Common.{◌≡◌, ℕ, zero, suc, ◌<◌, ◌^◌, true, false, cond, [], ◌∷◌, length, refl, sym, ap, subst, ◌∙◌}
use Rattle.std.specs.Prelude.{Some, is_some}
use Rattle.std.specs.Option.{IsSome}
use Rattle.std.specs.Ordering.{nat_cmp, eq_by_cmp}
use Rattle.std.specs.FinMap as map
use Rattle.std.proofs.lemmas.Bool.{false≢true}
use Rattle.shared_grid.specs.Cells.{numbers, key_of, line_in, across_in, HasItems, HasMarks}
use Rattle.shared_grid.proofs.Cleared.{one_less}
use Rattle.shared_grid.proofs.Marks.{taken_before, taken_both, taken_other, turned}
use Rattle.shared_grid.proofs.Numbers.{same_key, key_itself}

-- where there are items, one of them
some_item : {T : Type 0} (items : map.FinMap nat_cmp T) (count : ℕ) → map.len items ≡ suc count
    → (key : ℕ) × IsSome (map.get items key)
some_item items count long =
    elim (map.entries items) as (λ entries. map.entries items ≡ entries → (key : ℕ) × IsSome (map.get items key)) [
      | [] ↦ λ none.
          let zero : map.len items ≡ 0 = map.len-entries items ∙ ap length none in
          absurd (omega (arith, long, zero))
      | entry ∷ entries ↦ λ are.
          let found : map.get items entry.0 ≡ Some entry.1 =
          map.get-entries items entry.0 ∙ ap (map.find nat_cmp entry.0) are
          ∙ ap (λ b. cond b (Some entry.1) (map.find nat_cmp entry.0 entries)) (key_itself entry.0) in
          (entry.0, ap is_some found)
    ] refl

module _ {T M : Type 0} where
  pub no_other_marks : (count : ℕ) (items : map.FinMap nat_cmp T) (marks : map.FinMap nat_cmp M) → HasMarks items marks
      → ((key : ℕ) → IsSome (map.get items key) → key < 2 ^ 64) → map.len items ≡ count → map.len marks ≡ count
      → HasItems items marks
  no_other_marks zero items marks are small items_are marks_are = record {
    each = λ row column row_fits column_fits some.
        absurd (false≢true (ap is_some (sym (map.get-empty nat_cmp (key_of column row))
        ∙ ap (λ m. map.get m (key_of column row)) (sym (map.empty_of_len marks marks_are))) ∙ some));
  }
  no_other_marks (suc count) items marks are small items_are marks_are =
      let one = some_item items count items_are in
      let key : ℕ = one.0 in
      let fits : key < 2 ^ 64 = small key one.1 in
      let row_fits : line_in key < numbers = omega (arith, fits) in
      let column_fits : across_in key < numbers = omega arith in
      let is : key ≡ key_of (line_in key) (across_in key) = omega arith in
      let turn : ℕ = key_of (across_in key) (line_in key) in
      let mark = are.each (line_in key) (across_in key) row_fits column_fits
      (subst (λ (k : ℕ). IsSome (map.get items k)) is one.1) in
      let fewer = one_less items key one.1 in
      let fewer_marks = one_less marks turn mark in
      let left = no_other_marks count (map.remove items key) (map.remove marks turn)
      (taken_both items marks are (line_in key) (across_in key) row_fits column_fits key turn is refl
      (map.remove items key) refl)
      (λ k some. small k (taken_before items key k some).1) (omega (arith, fewer, items_are))
      (omega (arith, fewer_marks, marks_are)) in
      record {
        each = λ row column row_small column_small some.
            elim (eq_by_cmp nat_cmp (key_of row column) key) as (λ b. eq_by_cmp nat_cmp (key_of row column) key ≡ b
            → IsSome (map.get items (key_of row column))) [
              | true ↦ λ same. subst (λ (k : ℕ). IsSome (map.get items k))
                  (sym (same_key (key_of row column) key same)) one.1
              | false ↦
                  λ differs. (taken_before items key (key_of row column) (left.each row column row_small column_small
                  (taken_other marks turn (key_of column row)
                  (λ same. false≢true (sym differs ∙ ap (λ k. eq_by_cmp nat_cmp k key)
                  (turned (across_in key) (line_in key) column row column_fits row_fits column_small row_small
                  same ∙ sym is)
                  ∙ key_itself key)) some))).1
            ] refl;
      }
