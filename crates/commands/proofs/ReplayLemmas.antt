-- The command `replay`: the dump of a history is sent, and it is that of the journal.
use Rattle.std.proofs.Common.{◌≡◌, ℕ, ◌≤◌, List, [], ◌∷◌, map, refl, subst, ap, ◌∙◌}
use Rattle.std.specs.Prelude.{Option, Result, Err}
use Rattle.sheets_http.specs.declared.outside.SinkFault.{SinkFault}
use Rattle.sheets_http.specs.declared.outside.SinkFault.TheVariants as fault
use Rattle.cell_value.specs.FaultCount.{Rose}
use Rattle.desk.specs.declared.entry.Ask.{Ask}
use Rattle.desk.specs.declared.entry.Entry.{Entry}
use Rattle.desk.specs.declared.entry.Noted.{Noted}
use Rattle.desk.specs.declared.entry.Noted.TheVariants as noted
use Rattle.desk.specs.declared.state.TheConstants.{LONGEST_JOURNAL}
use Rattle.desk.specs.Opening.{HasOpened}
use Rattle.desk.specs.Points.{entries_of}
use Rattle.desk.specs.Steps.{Outcome}
use Rattle.conversation.specs.declared.ended.Ended.{Ended}
use Rattle.conversation.specs.Exchanges.{Sends}
use Rattle.commands.specs.declared.finish.Finish.TheVariants as finish
use Rattle.commands.specs.Replaying.{TellsDump, sends, ReplaysKept, tells}
use Rattle.commands.specs.Serving.{ended_telling}

-- what was sent of a dump, however that ended
pub dump_told : (dumps : List Entry → List ℕ → Type 0) (entries : List Entry) (text slice : List ℕ)
    (written written' : Option (List ℕ)) (shortages shortages' : ℕ) (sent other : Result (Unit {0}) SinkFault)
    → sent ≡ other → dumps entries text → slice ≡ text → Sends written written' slice sent → shortages ≤ shortages'
    → (sent ≡ Err fault.NoMemory → Rose shortages shortages')
    → TellsDump dumps entries written written' shortages shortages' (ended_telling other)
dump_told dumps entries text slice written written' shortages shortages' sent other same dumped is sending later cause =
    subst (λ (s : Result (Unit {0}) SinkFault). TellsDump dumps entries written written' shortages shortages'
    (ended_telling s)) same
    (sends text sent dumped (subst (λ (t : List ℕ). Sends written written' t sent) is sending)
    (record { later = later; cause = cause }) refl)

-- the entries of a list without marks
entries_of_map : (entries : List Entry) → entries_of (map noted.Entry entries) ≡ entries
entries_of_map [] = refl
entries_of_map (entry ∷ entries) = ap (λ (es : List Entry). entry ∷ es) (entries_of_map entries)

-- what is told of the history with which a state was opened
pub kept_told : (plain : List Entry → Ask → Outcome → Type 0) (dumps : List Entry → List ℕ → Type 0)
    (kept : Option (List ℕ)) (list : List Noted) (history : List Entry) (written written' : Option (List ℕ))
    (shortages shortages' : ℕ) (ended : Ended) → HasOpened plain LONGEST_JOURNAL kept list → history ≡ entries_of list
    → TellsDump dumps history written written' shortages shortages' ended
    → ReplaysKept plain dumps kept written written' shortages shortages' (finish.Served ended)
kept_told plain dumps kept list history written written' shortages shortages' ended opened is told =
    tells opened.entries ended
    (subst (λ (l : List Noted). HasOpened plain LONGEST_JOURNAL kept l) opened.list_is opened)
    refl
    (subst (λ (es : List Entry). TellsDump dumps es written written' shortages shortages' ended)
    (is ∙ ap entries_of opened.list_is ∙ entries_of_map opened.entries) told)
