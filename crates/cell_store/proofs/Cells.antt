-- The finite map of a tree's entries: what it has at a place, and how many items it has.
use native.Mathlib.Omega.{arith}
use Rattle.std.proofs.Common.{Bool, true, false, ◌≤◌, ◌≡◌, ℕ, suc, refl, sym, ap, ◌∙◌, List, [], ◌∷◌, cond, length, ◌+◌}
use Rattle.std.specs.Prelude.{Option, Some, None}
use Rattle.std.specs.Ordering.{eq_by_cmp}
use Rattle.std.specs.List.{AllByRecursion, IsDistinct}
use Rattle.std.specs.Option.{is_some}
use Rattle.std.proofs.lemmas.Cmp.{eq_by_cmp_equiv}
use Rattle.std.specs.Map.{lookup, keys_of}
use Rattle.std.proofs.lemmas.Map.Keys.{IsDistinct-head, IsDistinct-tail}
use Rattle.std.specs.FinMap as map
use Rattle.grid_range.specs.Area.{by_rows}
use Rattle.grid_range.specs.ByRows.{by_rows_total, by_rows_exact}
use Rattle.cell_store.specs.Entries.{entry_at}

one_more : (m n : ℕ) → m ≡ n → m + 1 ≡ suc n
one_more m n e = omega arith

at_most : (there : Bool) (k m n : ℕ) → k ≡ cond there m (m + 1) → m ≤ n → k ≤ suc n
at_most true k m n e h = omega arith
at_most false k m n e h = omega arith

module _ {T : Type 0} where
  -- the two ways of a look-up
  find_is_lookup : (place : ℕ × ℕ) (entries : List ((ℕ × ℕ) × T))
      → map.find by_rows place entries ≡ lookup (eq_by_cmp by_rows place) entries
  find_is_lookup place [] = refl
  find_is_lookup place (e ∷ es) = ap (cond (eq_by_cmp by_rows place e.0) (Some e.1)) (find_is_lookup place es)

  pub get-cells : (items : List ((ℕ × ℕ) × T)) (place : ℕ × ℕ)
      → map.get (map.from_entries {R = by_rows} items) place ≡ entry_at items place
  get-cells items place = map.get-from_entries by_rows_total items place ∙ find_is_lookup place items

  -- two trees with the same items are the same map
  pub same_cells : (m n : map.FinMap by_rows T) → ((place : ℕ × ℕ) → map.get m place ≡ map.get n place) → m ≡ n
  same_cells m n = map.same_map by_rows_total by_rows_exact m n

  -- after has that at the place, and what before has at each other
  abbrev pub SetsPlace : List ((ℕ × ℕ) × T) → List ((ℕ × ℕ) × T) → ℕ × ℕ → Option T → Type 0
  SetsPlace before after place is = (q : ℕ × ℕ)
      → entry_at after q ≡ cond (eq_by_cmp by_rows place q) is (entry_at before q)

  pub cells_put : (before after : List ((ℕ × ℕ) × T)) (place : ℕ × ℕ) (item : T)
      → SetsPlace before after place (Some item)
      → map.from_entries {R = by_rows} after ≡ map.insert (map.from_entries before) place item
  cells_put before after place item updates = same_cells _ _ (λ q.
      get-cells after q ∙ updates q
      ∙ ap (λ b. cond b (Some item) (entry_at before q)) ((eq_by_cmp_equiv by_rows_total).symm place q)
      ∙ sym (map.get-insert by_rows_total _ place item q
      ∙ ap (cond (eq_by_cmp by_rows q place) (Some item)) (get-cells before q)))

  pub cells_taken : (before after : List ((ℕ × ℕ) × T)) (place : ℕ × ℕ) → SetsPlace before after place None
      → map.from_entries {R = by_rows} after ≡ map.remove (map.from_entries before) place
  cells_taken before after place updates = same_cells _ _ (λ q.
      get-cells after q ∙ updates q
      ∙ ap (λ b. cond b None (entry_at before q)) ((eq_by_cmp_equiv by_rows_total).symm place q)
      ∙ sym (map.get-remove by_rows_total _ place q ∙ ap (cond (eq_by_cmp by_rows q place) None) (get-cells before q)))

  -- a place that differs from all others is none of them
  none_apart : (place : ℕ × ℕ) (es : List ((ℕ × ℕ) × T))
      → AllByRecursion (λ q. eq_by_cmp by_rows place q ≡ false) (keys_of es)
      → entry_at es place ≡ None
  none_apart place [] h = refl
  none_apart place (e ∷ es) h = ap (λ b. cond b (Some e.1) (entry_at es place)) h.0 ∙ none_apart place es h.1

  pub len-cells : (es : List ((ℕ × ℕ) × T)) → IsDistinct (eq_by_cmp by_rows) (keys_of es)
      → map.len (map.from_entries {R = by_rows} es) ≡ length es
  len-cells [] h = map.len-empty by_rows T
  len-cells (e ∷ es) h =
      let found : map.get (map.from_entries {R = by_rows} es) e.0 ≡ None =
      get-cells es e.0 ∙ none_apart e.0 es (IsDistinct-head (eq_by_cmp by_rows) e.0 (keys_of es) h) in
      map.len-insert by_rows_total (map.from_entries es) e.0 e.1
      ∙ ap (λ o. cond (is_some o) (map.len (map.from_entries {R = by_rows} es))
      (map.len (map.from_entries {R = by_rows} es) + 1)) found
      ∙ one_more _ _ (len-cells es (IsDistinct-tail (eq_by_cmp by_rows) e.0 (keys_of es) h))

  -- a map of entries has at most as many items
  pub len-cells-most : (es : List ((ℕ × ℕ) × T)) → map.len (map.from_entries {R = by_rows} es) ≤ length es
  len-cells-most [] = omega (arith, map.len-empty by_rows T)
  len-cells-most (e ∷ es) =
      at_most (is_some (map.get (map.from_entries {R = by_rows} es) e.0))
      (map.len (map.from_entries {R = by_rows} (e ∷ es)))
      (map.len (map.from_entries {R = by_rows} es)) (length es)
      (map.len-insert by_rows_total (map.from_entries es) e.0 e.1) (len-cells-most es)
