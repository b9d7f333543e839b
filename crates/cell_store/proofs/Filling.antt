-- A tree that a loop fills from a list of entries.
use Rattle.std.proofs.Common.{◌≡◌, ℕ, refl, ap, ◌∙◌, List, [], ◌∷◌}
use Rattle.std.specs.Prelude.{Some, None}
use Rattle.std.specs.Ordering.{eq_by_cmp}
use Rattle.std.specs.Map.{update_all, keys_of}
use Rattle.std.proofs.lemmas.Cmp.{eq_by_cmp_equiv}
use Rattle.std.proofs.lemmas.Map.Keys.{IsDistinct-from_sorted}
use Rattle.std.proofs.lemmas.Map.Made.{update_all_none}
use Rattle.std.specs.List.Sorted.{IsStrictlySortedBy}
use Rattle.grid_range.specs.Area.{by_rows}
use Rattle.grid_range.specs.ByRows.{by_rows_total}
use Rattle.cell_store.specs.Entries.{entry_at}
use Rattle.cell_store.proofs.Cells.{SetsPlace}

module _ {T : Type 0} where
  -- with the rest of the entries put into it the tree has what all of them make
  abbrev pub FillsTo : List ((ℕ × ℕ) × T) → List ((ℕ × ℕ) × T) → List ((ℕ × ℕ) × T) → Type 0
  FillsTo items rest all = (place : ℕ × ℕ)
      → update_all (eq_by_cmp by_rows) (entry_at items) rest place ≡ update_all (eq_by_cmp by_rows) (λ _. None) all
      place

  pub fills_on : (items after : List ((ℕ × ℕ) × T)) (place : ℕ × ℕ) (item : T) (rest all : List ((ℕ × ℕ) × T))
      → SetsPlace items after place (Some item) → FillsTo items ((place, item) ∷ rest) all → FillsTo after rest all
  fills_on items after place item rest all updates fills q =
      ap (λ f. update_all (eq_by_cmp by_rows) f rest q) (λ i p. updates p i) ∙ fills q

  -- the entries of a tree make what the tree has
  pub filled_same : (items made : List ((ℕ × ℕ) × T)) → IsStrictlySortedBy by_rows (keys_of items)
      → FillsTo made [] items
      → (place : ℕ × ℕ) → entry_at made place ≡ entry_at items place
  filled_same items made ordered fills place =
      fills place
      ∙ update_all_none (eq_by_cmp_equiv by_rows_total) (eq_by_cmp by_rows) (λ _ _. refl) items place
      (IsDistinct-from_sorted by_rows (keys_of items) ordered)
