-- The command `run`: one conversation over input and output.
use Rattle.std.specs.Prelude.{◌≡◌, ℕ, ⊤, List, [], Option, IfSome}
use Rattle.desk.specs.declared.entry.Ask.{Ask}
use Rattle.desk.specs.declared.entry.Entry.{Entry}
use Rattle.desk.specs.Steps.{Outcome}
use Rattle.conversation.specs.declared.ended.Ended.{Ended}
use Rattle.conversation.specs.Conversation.{at_moment, IsConversation, EndsAs}
use Rattle.connections.specs.Calls.{UserTable}
use Rattle.connections.specs.Alone.{IsReply, IsResponse}
use Rattle.folder.specs.Folder.{ShownFolder}
use Rattle.commands.specs.declared.finish.Finish.{Finish}
use Rattle.commands.specs.declared.finish.Finish.TheVariants as finish
use Rattle.sheets_http.specs.declared.next.TheConstants.{LONGEST_TALK}
use Rattle.commands.specs.Users.{HasUsers, IsUsersFault}

-- The input was served, for these users, to an end; where it tells what it holds, the end is that of its talk. The
-- history is empty at first. Each response is that of one thread behind it, and each request that is accepted is then
-- its last entry.
pub record Converses (plain : List Entry → Ask → Outcome → Type 0) (users : UserTable)
    (left written written' : Option (List ℕ)) (shortages shortages' : ℕ) (end : Ended) : Type 0 where
  pub ends : IfSome left (λ bytes. EndsAs LONGEST_TALK bytes end)
  pub history : List Entry
  pub served : IsConversation (IsResponse (IsReply plain users)) LONGEST_TALK left (at_moment [] written shortages)
      (at_moment history written' shortages') end

-- The command `run`: there were no users, and nothing was written; or the input was served for those users.
pub data Runs (plain : List Entry → Ask → Outcome → Type 0) (users : Option (List ℕ)) (shown : Option ShownFolder)
    (left written written' : Option (List ℕ)) (shortages shortages' : ℕ) (end : Finish) : Type 0 where
  no_users : IsUsersFault shown users end → written' ≡ written
      → Runs plain users shown left written written' shortages shortages' end
  converses : (table : UserTable) (ended : Ended) → HasUsers shown users table → end ≡ finish.Served ended
      → Converses plain table left written written' shortages shortages' ended
      → Runs plain users shown left written written' shortages shortages' end

-- no journal has a part in how it ends
abbrev pub IsOfRunning : Finish → Type 0
IsOfRunning (finish.Served end) = ⊤
IsOfRunning (finish.BadUsers row) = ⊤
IsOfRunning finish.UsersLong = ⊤
IsOfRunning finish.JournalLong = ⊥
IsOfRunning (finish.BadJournal entry) = ⊥
IsOfRunning finish.Unavailable = ⊥
