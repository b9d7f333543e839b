use Rattle.std.proofs.Common.{◌≡◌, ◌-◌, ℕ, List, length, sym, subst}
use Rattle.std.specs.Prelude.{Some, slice_get}
use Rattle.values_api.proofs.FilledRows.{last_listed}
use Rattle.values_api.proofs.filled.last_row.Goals as goal

pub returns-in-Some-clause-held : goal.returns-in-Some-clause-held
returns-in-Some-clause-held c =
    last_listed c.id.result c.args.first c.args.end c.args.sheet.now.table c.in_ok-held.held c.in_ok-held.ensures
    c.in-Some.place.now
    (sym (subst (λ (places : List (ℕ × ℕ)). Some c.in-Some.place.now ≡ slice_get places (length places - 1))
    c.as_slice.ensures c.in-Some.ensures.value))
