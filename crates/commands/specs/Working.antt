-- The command `workload`: what a number of fixed calls comes to.
use Rattle.std.specs.Prelude.{◌≡◌, ℕ, List, ◌++◌, codes, Option, Result}
use Rattle.sheets_http.specs.declared.outside.SinkFault.{SinkFault}
use Rattle.desk.specs.declared.entry.Ask.{Ask}
use Rattle.desk.specs.declared.entry.Entry.{Entry}
use Rattle.desk.specs.Steps.{Outcome}
use Rattle.conversation.specs.declared.ended.Ended.{Ended}
use Rattle.conversation.specs.declared.ended.Ended.TheVariants.{NoMemory}
use Rattle.conversation.specs.Exchanges.{Sends, CountsShortages}
use Rattle.workload.specs.declared.calls.WorkSummary.{WorkSummary}
use Rattle.desk.specs.declared.state.TheConstants.{LONGEST_JOURNAL}
use Rattle.workload.specs.Work.{Tells}
use Rattle.commands.specs.Finish.{count_line}
use Rattle.commands.specs.Serving.{ended_telling}

-- five lines: how many calls there were, how many were accepted and how many refused, how many cells there are, and how
-- many bytes the history's journal has
abbrev pub work_text : WorkSummary → List ℕ
work_text told =
    count_line (codes "calls ") told.calls ++ (count_line (codes "accepted ") told.accepted
    ++ (count_line (codes "refused ") told.refused ++ (count_line (codes "cells ") told.cells
    ++ count_line (codes "history ") told.history)))

-- The command `workload`: memory ran out, and nothing was written; or the lines are sent of what the calls come to.
pub data Works (plain : List Entry → Ask → Outcome → Type 0) (cells : List Entry → ℕ → Type 0) (calls : ℕ)
    (written written' : Option (List ℕ)) (shortages shortages' : ℕ) (end : Ended) : Type 0 where
  untold : end ≡ NoMemory → written' ≡ written → Works plain cells calls written written' shortages shortages' end
  sends : (told : WorkSummary) (sent : Result (Unit {0}) SinkFault) → Tells plain LONGEST_JOURNAL cells calls told
      → Sends written written' (work_text told) sent → CountsShortages shortages shortages' sent
      → end ≡ ended_telling sent → Works plain cells calls written written' shortages shortages' end
