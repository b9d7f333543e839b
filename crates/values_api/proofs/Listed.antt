-- Cells of a list that are given something one after another.
use Rattle.std.proofs.Common.{◌≡◌, ℕ, ◌+◌, ◌<◌, List, length, take, get_or, refl, sym, subst, ap, ◌∙◌, cond, Bool, true, false}
use Rattle.std.specs.Prelude.{Option, Some, None, IsSomeAnd, ◌==◌, ◌&&◌, ◌||◌, ◌↔◌, Contains}
use Rattle.std.specs.Option.{IsSome, option_map}
use Rattle.std.proofs.Math.Path.{fun_ext}
use Rattle.std.proofs.lemmas.Bool.{and_parts, eqb-true, eq-eqb, false≢true}
use Rattle.std.proofs.lemmas.List.Folds.{list_any_more, list_any_at, Any-from_list_any}
use Rattle.cell_store.specs.Table.{HasPlace}
use Rattle.world_model.specs.Laws.{size_of}
use Rattle.world_model.specs.Sheet.{PlaceSheet}
use Rattle.values_api.specs.Given.{is_listed}

pub both_true : (one other : Bool) → one ≡ true → other ≡ true → (one && other) ≡ true
both_true true true is is' = refl
both_true true false is is' = absurd (false≢true is')
both_true false other is is' = absurd (false≢true is)

-- ---- the cells of a list

pub listed_there : (cells : List (ℕ × ℕ)) (row col : ℕ) → is_listed cells row col ≡ true → Contains cells (row, col)
listed_there cells row col is =
    let (k, cell, there, at, passes) = Any-from_list_any (λ cell. row == cell.0 && col == cell.1) cells is in
    let parts = and_parts (row == cell.0) (col == cell.1) passes in
    let same : cell ≡ (row, col) =
    ap (λ n. (n, cell.1)) (sym (eqb-true row cell.0 parts.0))
    ∙ ap (λ n. (row, n)) (sym (eqb-true col cell.1 parts.1)) in
    subst (Contains cells) same (k, there, at)

pub there_listed : (cells : List (ℕ × ℕ)) (row col : ℕ) → Contains cells (row, col) → is_listed cells row col ≡ true
there_listed cells row col (k, there, at) =
    list_any_at (λ cell. row == cell.0 && col == cell.1) cells k (row, col) there
    (ap (λ (cell : ℕ × ℕ). row == cell.0 && col == cell.1) at
    ∙ both_true (row == row) (col == col) (eq-eqb row row refl) (eq-eqb col col refl))

-- ---- what the cells of a list are given

module _ {A : Type 0} where
  -- what stands at the places of a list alone
  abbrev pub listed_of : (ℕ → ℕ → Option A) → List (ℕ × ℕ) → ℕ → ℕ → Option A
  listed_of items cells row col = cond (is_listed cells row col) (items row col) None

  -- one place with another item
  abbrev pub with_one : ℕ → ℕ → A → (ℕ → ℕ → Option A) → ℕ → ℕ → Option A
  with_one row col item items r c = cond (r == row && c == col) (Some item) (items r c)

  one_more : (item : A) (whole before here : Bool) (found : Option A)
      → whole ≡ (before || here) → (here ≡ true → found ≡ Some item)
      → cond whole found None ≡ cond here (Some item) (cond before found None)
  one_more item true true true found is same = same refl
  one_more item true true false found is same = refl
  one_more item true false true found is same = same refl
  one_more item true false false found is same = absurd (false≢true (sym is))
  one_more item false true here found is same = absurd (false≢true is)
  one_more item false false true found is same = absurd (false≢true is)
  one_more item false false false found is same = refl

  -- one cell more is one item more
  pub listed_next : (items : ℕ → ℕ → Option A) (cells : List (ℕ × ℕ)) (k : ℕ) (cell : ℕ × ℕ) (item : A)
      → k < length cells → cell ≡ get_or cells k (0, 0) → items cell.0 cell.1 ≡ Some item
      → with_one cell.0 cell.1 item (listed_of items (take k cells)) ≡ listed_of items (take (k + 1) cells)
  listed_next items cells k cell item there is made = fun_ext (λ row. fun_ext (λ col.
      sym (one_more item (is_listed (take (k + 1) cells) row col) (is_listed (take k cells) row col)
      (row == cell.0 && col == cell.1) (items row col)
      (list_any_more (λ other. row == other.0 && col == other.1) cells k (0, 0) there
      ∙ ap (λ (other : ℕ × ℕ). is_listed (take k cells) row col || (row == other.0 && col == other.1)) (sym is))
      (λ here.
      let parts = and_parts (row == cell.0) (col == cell.1) here in
      ap (λ n. items n col) (eqb-true row cell.0 parts.0) ∙ ap (λ n. items cell.0 n) (eqb-true col cell.1 parts.1)
      ∙ made))))

  none_more : (whole before here : Bool) (found : Option A) → whole ≡ (before || here) → (here ≡ true → found ≡ None)
      → cond before found None ≡ cond whole found None
  none_more true true here found is none = refl
  none_more false false here found is none = refl
  none_more true false true found is none = sym (none refl)
  none_more true false false found is none = absurd (false≢true (sym is))
  none_more false true here found is none = absurd (false≢true is)

  -- a cell more that has no item is no item more
  pub listed_passed : (items : ℕ → ℕ → Option A) (cells : List (ℕ × ℕ)) (k : ℕ) (cell : ℕ × ℕ) → k < length cells
      → cell ≡ get_or cells k (0, 0) → items cell.0 cell.1 ≡ None
      → listed_of items (take k cells) ≡ listed_of items (take (k + 1) cells)
  listed_passed items cells k cell there is none = fun_ext (λ row. fun_ext (λ col.
      none_more (is_listed (take (k + 1) cells) row col) (is_listed (take k cells) row col)
      (row == cell.0 && col == cell.1) (items row col)
      (list_any_more (λ other. row == other.0 && col == other.1) cells k (0, 0) there
      ∙ ap (λ (other : ℕ × ℕ). is_listed (take k cells) row col || (row == other.0 && col == other.1)) (sym is))
      (λ here.
      let parts = and_parts (row == cell.0) (col == cell.1) here in
      ap (λ n. items n col) (eqb-true row cell.0 parts.0) ∙ ap (λ n. items cell.0 n) (eqb-true col cell.1 parts.1)
      ∙ none)))

  same_item : (listed covered : Bool) (found : Option A) → (listed ≡ true → IsSome (cond covered None found))
      → (IsSome (cond covered None found) → listed ≡ true) → cond listed found None ≡ cond covered None found
  same_item true true found has all = absurd (false≢true (has refl))
  same_item true false found has all = refl
  same_item false true found has all = refl
  same_item false false None has all = refl
  same_item false false (Some item) has all = absurd (false≢true (all refl))

  -- where just the places that have an item and aren't covered are listed, their items are these
  pub listed_uncovered : (items : ℕ → ℕ → Option A) (covered : ℕ → ℕ → Bool) (cells : List (ℕ × ℕ))
      → ((row col : ℕ) → Contains cells (row, col) ↔ IsSome (cond (covered row col) None (items row col)))
      → listed_of items cells ≡ (λ row col. cond (covered row col) None (items row col))
  listed_uncovered items covered cells exactly = fun_ext (λ row. fun_ext (λ col.
      same_item (is_listed cells row col) (covered row col) (items row col)
      (λ is. (exactly row col).0 (listed_there cells row col is))
      (λ some. there_listed cells row col ((exactly row col).1 some))))

-- ---- sizes that stay

-- what holds of a sheet's size holds of one that kept it
pub still_of : (P : ℕ × ℕ → Type 0) (now before : Option PlaceSheet) → option_map size_of now
    ≡ option_map size_of before
    → IsSomeAnd before (λ sheet. P (size_of sheet)) → IsSomeAnd now (λ sheet. P (size_of sheet))
still_of P None None same there = absurd there
still_of P None (Some before) same there = absurd (none_some same)
  where
    none_some : None ≡ Some (size_of before) → ⊥
    none_some e = cc
still_of P (Some now) None same there = absurd there
still_of P (Some now) (Some before) same there = subst P (sym (same_some (size_of now) (size_of before) same)) there
  where
    same_some : (one other : ℕ × ℕ) → Some one ≡ Some other → one ≡ other
    same_some one other e = cc

-- a place of a sheet that kept its size is there
pub still_there : (now before : Option PlaceSheet) (row col : ℕ) → option_map size_of now ≡ option_map size_of before
    → IsSomeAnd before (λ sheet. HasPlace sheet.table row col) → IsSomeAnd now (λ sheet. HasPlace sheet.table row col)
still_there now before row col same there =
    still_of (λ size. (row < size.0) × (col < size.1)) now before same there
