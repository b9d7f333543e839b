-- The command `workload`: what calls come to is sent.
use Rattle.std.proofs.Common.{◌≡◌, ℕ, ◌≤◌, List, refl, subst}
use Rattle.std.specs.Prelude.{Option, Result, Err}
use Rattle.sheets_http.specs.declared.outside.SinkFault.{SinkFault}
use Rattle.sheets_http.specs.declared.outside.SinkFault.TheVariants as fault
use Rattle.cell_value.specs.FaultCount.{Rose}
use Rattle.desk.specs.declared.entry.Ask.{Ask}
use Rattle.desk.specs.declared.entry.Entry.{Entry}
use Rattle.desk.specs.declared.state.TheConstants.{LONGEST_JOURNAL}
use Rattle.desk.specs.Steps.{Outcome}
use Rattle.conversation.specs.Exchanges.{Sends}
use Rattle.workload.specs.declared.calls.WorkSummary.{WorkSummary}
use Rattle.workload.specs.Work.{Tells}
use Rattle.commands.specs.Serving.{ended_telling}
use Rattle.commands.specs.Working.{Works, sends, work_text}

-- what was sent of it, however that ended
pub work_told : (plain : List Entry → Ask → Outcome → Type 0) (cells : List Entry → ℕ → Type 0) (calls : ℕ)
    (told : WorkSummary)
    (written written' : Option (List ℕ)) (shortages shortages' : ℕ) (sent other : Result (Unit {0}) SinkFault)
    → sent ≡ other → Tells plain LONGEST_JOURNAL cells calls told → Sends written written' (work_text told) sent
    → shortages ≤ shortages' → (sent ≡ Err fault.NoMemory → Rose shortages shortages')
    → Works plain cells calls written written' shortages shortages' (ended_telling other)
work_told plain cells calls told written written' shortages shortages' sent other same tells sending later cause =
    subst (λ (s : Result (Unit {0}) SinkFault). Works plain cells calls written written' shortages shortages'
    (ended_telling s)) same (sends told sent tells sending (record { later = later; cause = cause }) refl)
