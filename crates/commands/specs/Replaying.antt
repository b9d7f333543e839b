-- The command `replay`: what a journal's history comes to.
use Rattle.std.specs.Prelude.{◌≡◌, ℕ, false, ⊤, List, map, Option, IfSome, Result}
use Rattle.sheets_http.specs.declared.outside.SinkFault.{SinkFault}
use Rattle.desk.specs.declared.entry.Ask.{Ask}
use Rattle.desk.specs.declared.entry.Entry.{Entry}
use Rattle.desk.specs.declared.entry.Noted.TheVariants as noted
use Rattle.desk.specs.declared.keeper.LoadFault.{LoadFault}
use Rattle.desk.specs.declared.state.TheConstants.{LONGEST_JOURNAL}
use Rattle.desk.specs.Opening.{HasOpened}
use Rattle.desk.specs.Steps.{Outcome}
use Rattle.conversation.specs.declared.ended.Ended.{Ended}
use Rattle.conversation.specs.declared.ended.Ended.TheVariants.{NoMemory}
use Rattle.conversation.specs.Exchanges.{Sends, CountsShortages}
use Rattle.folder.specs.Folder.{ShownFolder, found_or_made}
use Rattle.commands.specs.declared.finish.Finish.{Finish}
use Rattle.commands.specs.declared.finish.Finish.TheVariants as finish
use Rattle.commands.specs.Serving.{IsDeskFault, IsEndOfServing, ended_telling}
use Rattle.commands.specs.Users.{finish_of_load}

-- the dump of the history is sent; or memory ran out, and nothing was written
pub data TellsDump (dumps : List Entry → List ℕ → Type 0) (entries : List Entry) (written written' : Option (List ℕ))
    (shortages shortages' : ℕ) (end : Ended) : Type 0 where
  untold : end ≡ NoMemory → written' ≡ written → TellsDump dumps entries written written' shortages shortages' end
  sends : (text : List ℕ) (sent : Result (Unit {0}) SinkFault) → dumps entries text → Sends written written' text sent
      → CountsShortages shortages shortages' sent → end ≡ ended_telling sent
      → TellsDump dumps entries written written' shortages shortages' end

-- By the journal that a keeper has: it had none, and nothing was written; or the dump of its history is told.
pub data ReplaysKept (plain : List Entry → Ask → Outcome → Type 0) (dumps : List Entry → List ℕ → Type 0)
    (kept written written' : Option (List ℕ)) (shortages shortages' : ℕ) (end : Finish) : Type 0 where
  no_history : IsDeskFault plain kept end → written' ≡ written
      → ReplaysKept plain dumps kept written written' shortages shortages' end
  tells : (entries : List Entry) (ended : Ended) → HasOpened plain LONGEST_JOURNAL kept (map noted.Entry entries)
      → end ≡ finish.Served ended → TellsDump dumps entries written written' shortages shortages' ended
      → ReplaysKept plain dumps kept written written' shortages shortages' end

-- The command `replay`: the folder didn't hand the journal out, and nothing was written; or what is told is by the
-- journal of that name, which the folder has, where it tells.
pub data Replays (plain : List Entry → Ask → Outcome → Type 0) (dumps : List Entry → List ℕ → Type 0) (name : List ℕ)
    (shown : Option ShownFolder) (written written' : Option (List ℕ)) (shortages shortages' : ℕ) (end : Finish) : Type 0
  where
    no_journal : (fault : LoadFault) → end ≡ finish_of_load fault → written' ≡ written
        → Replays plain dumps name shown written written' shortages shortages' end
    by_keeper : (kept : Option (List ℕ)) → IfSome shown (λ folder. kept ≡ found_or_made false (folder.files name))
        → ReplaysKept plain dumps kept written written' shortages shortages' end
        → Replays plain dumps name shown written written' shortages shortages' end

-- it ends well, by a fault of the journal or of a device, or for want of memory
abbrev pub IsOfReplaying : Finish → Type 0
IsOfReplaying (finish.Served end) = IsEndOfServing end
IsOfReplaying finish.Unavailable = ⊤
IsOfReplaying finish.JournalLong = ⊤
IsOfReplaying (finish.BadJournal entry) = ⊤
IsOfReplaying finish.UsersLong = ⊥
IsOfReplaying (finish.BadUsers row) = ⊥
