-- The filled places of a table, one behind another: what follows there, and how many formulas stand there.
use Rattle.std.proofs.Common.{◌≡◌, ℕ, ◌+◌, ◌<◌, refl, sym, ap, ◌∙◌, length, get_or, take, List, [], ◌∷◌, cond, Bool, true, false, ◌||◌, arith}
use Rattle.std.specs.Prelude.{Option, None, Some}
use Rattle.std.specs.List.{AllByRecursion, fold, list_any}
use Rattle.std.specs.List.Sorted.{IsStrictlySortedBy}
use Rattle.std.specs.Option.{option_map, option_map_or}
use Rattle.std.specs.Ordering.{eq_by_cmp, is_eq}
use Rattle.std.specs.declared.cmp.Ordering.TheVariants.{Less}
use Rattle.std.specs.Cmp.{eq_by_cmp_equiv}
use Rattle.std.specs.FinMap as finite
use Rattle.std.proofs.lemmas.Bool.{false≢true}
use Rattle.std.proofs.lemmas.List.{get_or_default, take_more}
use Rattle.std.proofs.lemmas.List.Sums.{fold-append}
use Rattle.std.proofs.lemmas.Map.Keys.{Less-from_sorted, sorted_head, sorted_tail}
use Rattle.grid_range.specs.Area.{by_rows}
use Rattle.grid_range.specs.ByRows.{by_rows_total, same_cell}
use Rattle.cell_store.specs.Table.{Table, item_at, with_item}

-- whether two places are one
abbrev pub same : ℕ × ℕ → ℕ × ℕ → Bool
same = eq_by_cmp by_rows

-- whether the place is one of those
abbrev pub among : List (ℕ × ℕ) → ℕ × ℕ → Bool
among places place = list_any (same place) places

-- a place below others is none of them
not_same : (place other : ℕ × ℕ) → by_rows place other ≡ Less → same place other ≡ false
not_same place other less = ap is_eq less

pub none_of : (place : ℕ × ℕ) (places : List (ℕ × ℕ)) → AllByRecursion (λ other. by_rows place other ≡ Less) places
    → among places place ≡ false
none_of place [] less = refl
none_of place (other ∷ places) less =
    ap (λ b. b || among places place) (not_same place other less.0) ∙ none_of place places less.1

pub first_once : (place : ℕ × ℕ) (places : List (ℕ × ℕ)) → IsStrictlySortedBy by_rows (place ∷ places)
    → among places place ≡ false
first_once place places sorted = none_of place places (sorted_head by_rows place places sorted)

-- ---- what follows at each of the places

module _ {T : Type 0} (f : T → T) where
  abbrev pub at_place : Table T → ℕ × ℕ → Table T
  at_place table place =
      option_map_or (λ item. with_item table place.0 place.1 (f item)) (item_at table place.0 place.1) table

  -- the place that follows has what it had, which follows, and each other what it had
  with_chosen : (b : Bool) (held : Option T) (item : T) → (b ≡ true → held ≡ Some item)
      → cond b (Some (f item)) held ≡ cond b (option_map f held) held
  with_chosen true held item is = ap (option_map f) (sym (is refl))
  with_chosen false held item is = refl

  none_chosen : (b : Bool) (held : Option T) → (b ≡ true → held ≡ None) → held ≡ cond b (option_map f held) held
  none_chosen true held is = is refl ∙ ap (option_map f) (sym (is refl))
  none_chosen false held is = refl

  pub item_at_place : (table : Table T) (place other : ℕ × ℕ)
      → item_at (at_place table place) other.0 other.1
      ≡ cond (same other place) (option_map f (item_at table other.0 other.1)) (item_at table other.0 other.1)
  item_at_place table place other = held (item_at table place.0 place.1) refl
    where
      its : same other place ≡ true → item_at table other.0 other.1 ≡ item_at table place.0 place.1
      its is = ap (λ p. item_at table p.0 p.1) (same_cell other place is)

      held : (found : Option T) → item_at table place.0 place.1 ≡ found
          → item_at (option_map_or (λ item. with_item table place.0 place.1 (f item)) found table) other.0 other.1
          ≡ cond (same other place) (option_map f (item_at table other.0 other.1)) (item_at table other.0 other.1)
      held None is = none_chosen (same other place) (item_at table other.0 other.1) (λ one. its one ∙ is)
      held (Some item) is =
          finite.get-insert by_rows_total table.cells place (f item) other
          ∙ with_chosen (same other place) (item_at table other.0 other.1) item (λ one. its one ∙ is)

  chosen_once : (b b' : Bool) (held : Option T) → (b ≡ true → b' ≡ false)
      → cond b' (option_map f (cond b (option_map f held) held)) (cond b (option_map f held) held)
      ≡ cond (b || b') (option_map f held) held
  chosen_once true true held once = absurd (false≢true (sym (once refl)))
  chosen_once true false held once = refl
  chosen_once false b' held once = refl

  pub all_followed : (places : List (ℕ × ℕ)) (table : Table T) (other : ℕ × ℕ) → IsStrictlySortedBy by_rows places
      → item_at (fold at_place table places) other.0 other.1
      ≡ cond (among places other) (option_map f (item_at table other.0 other.1)) (item_at table other.0 other.1)
  all_followed [] table other sorted = refl
  all_followed (place ∷ places) table other sorted =
      all_followed places (at_place table place) other (sorted_tail by_rows place places sorted)
      ∙ ap (λ held. cond (among places other) (option_map f held) held) (item_at_place table place other)
      ∙ chosen_once (same other place) (among places other) (item_at table other.0 other.1)
      (λ is. ap (among places) (same_cell other place is) ∙ first_once place places sorted)

  size_at_place : (table : Table T) (place : ℕ × ℕ) (held : Option T)
      → ((option_map_or (λ item. with_item table place.0 place.1 (f item)) held table).rows ≡ table.rows)
      × ((option_map_or (λ item. with_item table place.0 place.1 (f item)) held table).cols ≡ table.cols)
  size_at_place table place None = (refl, refl)
  size_at_place table place (Some item) = (refl, refl)

  pub size_stays : (places : List (ℕ × ℕ)) (table : Table T)
      → ((fold at_place table places).rows ≡ table.rows) × ((fold at_place table places).cols ≡ table.cols)
  size_stays [] table = (refl, refl)
  size_stays (place ∷ places) table =
      let one = size_at_place table place (item_at table place.0 place.1) in
      let others = size_stays places (at_place table place) in
      (others.0 ∙ one.0, others.1 ∙ one.1)

-- ---- how many pass a test

module _ {T : Type 0} (test : T → Bool) where
  abbrev passes_at : Table T → ℕ × ℕ → Bool
  passes_at table place = option_map_or test (item_at table place.0 place.1) false

-- ---- one more of a list

pub fold_more : {A B : Type 0} (f : B → A → B) (first : B) (xs : List A) (i : ℕ) (d : A) → i < length xs
    → fold f first (take (i + 1) xs) ≡ f (fold f first (take i xs)) (get_or xs i d)
fold_more f first xs i d there =
    ap (fold f first) (take_more xs i d there) ∙ fold-append f first (take i xs) (get_or xs i d ∷ [])

-- a place of such a list is another than one behind it
pub apart_behind : (places : List (ℕ × ℕ)) (i k : ℕ) (d e : ℕ × ℕ) → IsStrictlySortedBy by_rows places → i < k
    → k < length places → same (get_or places k d) (get_or places i e) ≡ false
apart_behind places i k d e sorted before there =
    ap (same (get_or places k d)) (get_or_default places i e d (omega arith))
    ∙ (eq_by_cmp_equiv by_rows_total).symm (get_or places k d) (get_or places i d)
    ∙ ap is_eq (Less-from_sorted by_rows places i k d sorted before there)
