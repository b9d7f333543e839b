use Rattle.std.proofs.Common.{◌≡◌, ℕ, ◌<◌, ◌≤◌, true}
use Rattle.dimension_ops.specs.SheetRequests.{has_title, numbered_title}
use Rattle.dimension_ops.proofs.sheets.first_title.Given as goal

-- so far all titles are those of sheets
abbrev pub invariant-loop-number : goal.invariant-loop-number
invariant-loop-number l =
    (lesser : ℕ) → 1 ≤ lesser → lesser < l.number-counter → has_title l.book.sheets (numbered_title lesser) ≡ true
