-- A call of the table, and the history that it leaves.
use Rattle.std.specs.Prelude.{◌≡◌, ◌≢◌, ℕ, Bool, true, false, List, [], ◌∷◌, ◌++◌, if◌then◌else◌}
use Rattle.std.proofs.Common.{refl, sym, ◌∙◌, ap, subst, arith, inl, inr}
use Rattle.cell_value.specs.FaultCount.{Rose}
use Rattle.desk.specs.declared.entry.Entry.{Entry}
use Rattle.desk.specs.declared.entry.Ask.{Ask}
use Rattle.desk.specs.declared.entry.Noted.{Noted}
use Rattle.desk.specs.declared.entry.Noted.TheVariants as noted
use Rattle.desk.specs.declared.entry.Reply.{Reply}
use Rattle.desk.specs.Entries.{entries_entry}
use Rattle.desk.specs.Points.{as_one_thread, as_out_of_memory, as_unavailable, entries_of, Happens, IsStep}
use Rattle.desk.specs.Steps.{Outcome}
use Rattle.workload.specs.Work.{caller_number, ask_number, entry_number, IsMade, IsWork}

-- an item that may be added is an entry of the list
entered : (told : List Noted) (e : Entry) (accepts : Bool)
    → entries_of (if accepts then told ++ noted.Entry e ∷ [] else told)
    ≡ (if accepts then entries_of told ++ e ∷ [] else entries_of told)
entered told e true = entries_entry told e
entered told e false = refl

-- a count that stays 0 didn't rise
never_rose : Rose 0 0 → ⊥
never_rose (inl more) = omega (arith, more)
never_rose (inr last) = omega (arith, last)

-- a call that is one step is made
stepped : (plain : List Entry → Ask → Outcome → Type 0) (pair : ℕ × ℕ) (i : ℕ) (told after : List Noted) (reply : Reply)
    → IsStep plain pair (caller_number i) (ask_number i) told after reply
    → IsMade plain pair.0 i (entries_of told) (entries_of after)
stepped plain pair i told after reply step = record {
  outcome = step.outcome;
  steps = step.steps;
  history_is = ap entries_of step.item ∙ entered told (entry_number i) step.outcome.accepts;
}

-- what happens at a keeper that never fails is a step, where memory suffices
pub made : (plain : List Entry → Ask → Outcome → Type 0) (pair : ℕ × ℕ) (i : ℕ) (told after : List Noted)
    (reply : Reply) → Happens plain pair (caller_number i) (ask_number i) told after reply → reply.status ≢ 507
    → (reply.status ≡ 503 → Rose 0 0) → IsMade plain pair.0 i (entries_of told) (entries_of after)
made plain pair i told after reply happens suffices cause =
    elim happens.comes_to [
      | as_one_thread step ↦ stepped plain pair i told after reply step
      | as_unavailable down ↦ absurd (never_rose (cause down.status_is))
      | as_out_of_memory short ↦ absurd (suffices short.status_is)
    ]

-- the history of a list that calls made, where its journal had this limit
pub worked : (plain : List Entry → Ask → Outcome → Type 0) (limit opened calls : ℕ) (pair : ℕ × ℕ) (list : List Noted)
    (history : List Entry) → pair ≡ (limit, opened) → IsWork plain pair.0 calls (entries_of list)
    → history ≡ entries_of list → IsWork plain limit calls history
worked plain limit opened calls pair list history limited work closed =
    subst (λ (entries : List Entry). IsWork plain limit calls entries) (sym closed)
    (subst (λ (most : ℕ). IsWork plain most calls (entries_of list)) (ap (λ (p : ℕ × ℕ). p.0) limited) work)
