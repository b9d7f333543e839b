-- Laws of the order of cells by rows: it is a total one, and cells that it doesn't tell apart are one.
use Rattle.std.proofs.Common.{◌≡◌, ℕ, true}
use Rattle.std.specs.Ordering.{eq_by_cmp, nat_cmp}
use Rattle.std.specs.Cmp.{IsTotalOrder, nat_cmp_total}
use Rattle.std.specs.declared.cmp.Ordering.TheVariants.{Equal}
use Rattle.std.proofs.lemmas.Cmp.{on_total, then_total}
use Rattle.std.proofs.lemmas.Map.Lookups.{exact_pairs, exact_unsigned}
use Rattle.std.proofs.lemmas.Map.Views.{tells_apart}
use Rattle.grid_range.specs.Area.{by_rows}

pub by_rows_total : IsTotalOrder by_rows
by_rows_total = then_total (on_total (λ (p : ℕ × ℕ). p.0) nat_cmp_total) (on_total (λ (p : ℕ × ℕ). p.1) nat_cmp_total)

pub by_rows_exact : (one other : ℕ × ℕ) → by_rows one other ≡ Equal → one ≡ other
by_rows_exact = exact_pairs nat_cmp nat_cmp exact_unsigned exact_unsigned

pub same_cell : (one other : ℕ × ℕ) → eq_by_cmp by_rows one other ≡ true → one ≡ other
same_cell = tells_apart by_rows_exact
