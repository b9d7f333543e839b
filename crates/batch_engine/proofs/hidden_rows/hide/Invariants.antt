use Rattle.std.proofs.Common.{◌≡◌, ◌≤◌, ℕ, length, get_or}
use Rattle.std.specs.Prelude.{false}
use Rattle.batch_engine.specs.HiddenRows.{row_told}
use Rattle.batch_engine.proofs.hidden_rows.hide.Given as goal

-- of rows that come in it is told that they aren't hidden
abbrev pub invariant-loop : goal.invariant-loop
invariant-loop l =
    (length l.rows.items ≡ l.counter) × (l.counter ≤ l.row)
    × ((other : ℕ) → get_or l.rows.items other (row_told false) ≡ get_or l.initial.rows.items other (row_told false))
