-- What contracts say of a desk.
use Rattle.std.specs.Prelude.{ℕ, List}
use Rattle.history_lock.specs.declared.pass.Pass.{Pass}
use Rattle.history_lock.specs.Passes.{IsPassOf, opened_with, callers_of}
use Rattle.desk.specs.declared.entry.Noted.{Noted}
use Rattle.desk.specs.declared.desk.Desk.{Desk}
use Rattle.desk.specs.Points.{list_of, pair_of, caller_of}

-- the list at the opening
abbrev pub list_at : {E K W A : Type 0} → Desk E K W A → List Noted
list_at desk = list_of (opened_with desk.lock)

-- the journal's limit, and the keeper's count of faults at the opening
abbrev pub pair_at : {E K W A : Type 0} → Desk E K W A → ℕ × ℕ
pair_at desk = pair_of (opened_with desk.lock)

-- the keeper at the opening
abbrev pub keeper_at : {E K W A : Type 0} → Desk E K W A → K
keeper_at desk = (opened_with desk.lock).keeper

-- how many numbers of passes there are
abbrev pub callers_at : {E K W A : Type 0} → Desk E K W A → ℕ
callers_at desk = callers_of desk.lock

-- the pass is of this desk
abbrev pub IsPass : {E K W A : Type 0} → Desk E K W A → Pass Noted → Type 0
IsPass desk pass = IsPassOf list_of pair_of caller_of desk.lock pass
