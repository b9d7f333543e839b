-- Places by rows, as keys of a list.
use Rattle.std.proofs.Common.{◌≡◌, ℕ, List, [], ◌∷◌, ◌++◌, cond, length, subst, arith, refl}
use Rattle.std.specs.Prelude.{None, Some}
use Rattle.std.specs.Ordering.{eq_by_cmp}
use Rattle.std.specs.List.{insert}
use Rattle.std.proofs.lemmas.Cmp.{eq_by_cmp_equiv}
use Rattle.std.proofs.lemmas.List.{take_all, drop_all}
use Rattle.std.proofs.lemmas.Map.{none_passes_from_lookup, lookup-insert}
use Rattle.grid_range.specs.Area.{by_rows}
use Rattle.grid_range.specs.ByRows.{by_rows_total}
use Rattle.cell_store.specs.Entries.{entry_at}

-- one entry more, at a place that had none
pub entry_added : {T : Type 0} (place : ℕ × ℕ) (es : List ((ℕ × ℕ) × T)) (item : T) (other : ℕ × ℕ)
    → entry_at es place ≡ None
    → entry_at (es ++ (place, item) ∷ []) other ≡ cond (eq_by_cmp by_rows place other) (Some item) (entry_at es other)
entry_added {T} place es item other none =
    let all : insert es (length es) (place, item) ≡ es ++ (place, item) ∷ [] =
    rw (take_all (length es) es (omega arith), drop_all (length es) es (omega arith)) refl in
    subst (λ (xs : List ((ℕ × ℕ) × T)). entry_at xs other ≡ cond (eq_by_cmp by_rows place other) (Some item)
    (entry_at es other)) all
    (lookup-insert (eq_by_cmp_equiv by_rows_total) place item other es (length es)
    (none_passes_from_lookup (eq_by_cmp by_rows place) es none))
