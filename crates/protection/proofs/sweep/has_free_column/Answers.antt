use Rattle.std.proofs.Common.{◌<◌, ◌≤◌, arith, ⊎_elim}
use Rattle.std.proofs.lemmas.Bool.{cases_lt}
use Rattle.std.proofs.lemmas.List.Sorted.{All-permutation}
use Rattle.protection.specs.Denial.{HasCell}
use Rattle.protection.proofs.sweep.has_free_column.Goals as goal

pub returns : goal.returns
returns c = (
  λ yes. let free = c.has_free_column_by_pass.ensures.0 yes in
      (free.0, (omega (arith, free.1.0), free.1.1), free.2),
  λ free. ⊎_elim
      (λ (before : free.0 < c.reach_from_row-reached.result). absurd
      (c.reach_from_row-reached.ensures.covered free.0 free.1.0 before
      (All-permutation (λ range. ¬ (HasCell c.args.sheet c.args.row free.0 range)) _ _ c.requires.same free.2)))
      (λ (behind : c.reach_from_row-reached.result ≤ free.0).
      c.has_free_column_by_pass.ensures.1 (free.0, (behind, free.1.1), free.2))
      (cases_lt free.0 c.reach_from_row-reached.result),
)
