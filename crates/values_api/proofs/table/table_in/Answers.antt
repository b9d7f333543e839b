use Rattle.std.proofs.Common.{◌≡◌, ◌-◌, ℕ, List, length, sym, subst}
use Rattle.std.specs.Prelude.{Some, slice_get}
use Rattle.values_api.proofs.Stored.{is_table_in, last_listed}
use Rattle.values_api.proofs.table.table_in.Goals as goal

pub table_around-requires-clause-there : goal.table_around-requires-clause-there
table_around-requires-clause-there c =
    last_listed c.args.area.now c.args.sheet.now.table c.in_ok-held.held c.in_ok-held.ensures c.in-Some.last.now
    (sym (subst (λ (places : List (ℕ × ℕ)). Some c.in-Some.last.now ≡ slice_get places (length places - 1))
    c.as_slice.ensures c.in-Some.ensures.value)) c.in_ok-stored-in-Some.stored c.in_ok-stored-in-Some.ensures.listed

pub returns-in-Some : goal.returns-in-Some
returns-in-Some c =
    is_table_in c.args.area.now c.args.sheet.now.table c.in_ok-held.held c.in_ok-held.ensures c.in-Some.last.now
    (sym (subst (λ (places : List (ℕ × ℕ)). Some c.in-Some.last.now ≡ slice_get places (length places - 1))
    c.as_slice.ensures c.in-Some.ensures.value)) c.in_ok-stored-in-Some.stored c.in_ok-stored-in-Some.ensures.listed
    c.table_around.result c.table_around.ensures
