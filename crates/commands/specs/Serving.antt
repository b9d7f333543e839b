-- The command `serve`: connections that are served at a desk of their own, and the lines that tell what their history
-- comes to.
use Rattle.std.specs.Prelude.{◌≡◌, ◌≢◌, ℕ, ⊤, Bool, true, List, [], ◌++◌, All, map, length, drop, codes}
use Rattle.std.specs.Prelude.{Option, None, Some, IfSome, Result, Ok, Err, IsTrue}
use Rattle.std.specs.Option.{option_map}
use Rattle.std.specs.List.{Contains}
use Rattle.sheets_http.specs.declared.outside.SinkFault.{SinkFault}
use Rattle.sheets_http.specs.declared.request.Wire.{Wire}
use Rattle.history_lock.specs.declared.pass.Pass.{Pass}
use Rattle.history_lock.specs.declared.view.Drawing.TheVariants.{Alone}
use Rattle.history_lock.specs.Passes.{seen_by, number_of, count_of, drawing_of}
use Rattle.desk.specs.declared.desk.Desk.{Desk}
use Rattle.desk.specs.declared.entry.Ask.{Ask}
use Rattle.desk.specs.declared.entry.Entry.{Entry}
use Rattle.desk.specs.declared.entry.Noted.{Noted}
use Rattle.desk.specs.declared.fault.OpenFault.{OpenFault}
use Rattle.desk.specs.declared.fault.OpenFault.TheVariants as opening
use Rattle.desk.specs.declared.keeper.LoadFault.{LoadFault}
use Rattle.desk.specs.declared.state.TheConstants.{LONGEST_JOURNAL}
use Rattle.desk.specs.Desks.{IsPass, list_at, pair_at, callers_at}
use Rattle.desk.specs.Journal.{journal_text}
use Rattle.desk.specs.Opening.{HasOpened, HasLongJournal, HasBadJournal}
use Rattle.desk.specs.Points.{Keeps, caller_of}
use Rattle.desk.specs.Steps.{Outcome}
use Rattle.conversation.specs.declared.ended.Ended.{Ended}
use Rattle.conversation.specs.declared.ended.Ended.TheVariants.{End, ReadFault, WriteFault, NoMemory}
use Rattle.conversation.specs.Conversation.{Moment, at_moment, IsIdle}
use Rattle.conversation.specs.Exchanges.{Sends, CountsShortages, ended_by}
use Rattle.connections.specs.Calls.{UserTable, IsAnswer}
use Rattle.connections.specs.Doors.{Shown, after_open as after_opening}
use Rattle.folder.specs.Folder.{ShownFolder, found_or_made, IsRefused}
use Rattle.serving.specs.declared.accepting.Served.{Served}
use Rattle.serving.specs.declared.accepting.Served.TheVariants as served
use Rattle.serving.specs.Serving.{AreServed, Visit, visitor}
use Rattle.commands.specs.declared.finish.Finish.{Finish}
use Rattle.commands.specs.declared.finish.Finish.TheVariants as finish
use Rattle.commands.specs.declared.server.TheConstants.{CALLERS}
use Rattle.commands.specs.Finish.{count_line}
use Rattle.commands.specs.Users.{HasUsers, IsUsersFault, after_reading, finish_of_load}

-- ---- the desk

-- no keeper of this kind fails
abbrev pub NeverFails : {K : Type 0} → (K → ℕ) → (K → Bool) → Type 0
NeverFails {K} failures steady = (keeper : K) → IsTrue (steady keeper) × (failures keeper ≡ 0)

-- none of a desk's calls is answered 503
abbrev pub IsAvailable : {E K W A : Type 0} → (List Entry → Ask → Outcome → Type 0) → (K → ℕ) → (K → Bool)
    → Desk E K W A → Type 0
IsAvailable plain failures steady desk =
    (users : UserTable) (caller : ℕ) (before : List Noted) (wire : Wire) (after : List Noted) (response : List ℕ)
    (answer : IsAnswer plain failures steady desk users caller before wire after response) → answer.reply.status ≢ 503

-- the desk was opened with this list, for so many callers and with the limit of a journal; the pass is its first one,
-- of number 0, and nobody else draws numbers
pub record IsOpened {E K W A : Type 0} (start : List Noted) (desk : Desk E K W A) (pass : Pass Noted) : Type 0 where
  pub list_is : list_at desk ≡ start
  pub limit_is : (pair_at desk).0 ≡ LONGEST_JOURNAL
  pub callers_are : callers_at desk ≡ CALLERS
  pub pass_is : IsPass desk pass
  pub seen_is : seen_by pass ≡ start
  pub number_is : number_of pass ≡ 0
  pub drawn_is : count_of pass ≡ 1
  pub alone : drawing_of pass ≡ Alone

-- so the command ends for want of a desk over a keeper that has these bytes: it failed; the bytes are more than a
-- journal has, or no journal; or memory ran out
abbrev pub IsDeskFault : (List Entry → Ask → Outcome → Type 0) → Option (List ℕ) → Finish → Type 0
IsDeskFault plain kept finish.Unavailable = ⊤
IsDeskFault plain kept finish.JournalLong = HasLongJournal LONGEST_JOURNAL kept
IsDeskFault plain kept (finish.BadJournal entry) = HasBadJournal plain LONGEST_JOURNAL kept entry
IsDeskFault plain kept (finish.Served NoMemory) = ⊤
IsDeskFault plain kept finish = ⊥

-- how a command ends whose desk couldn't be opened
abbrev pub finish_of_opening : OpenFault → Finish
finish_of_opening opening.KeeperFault = finish.Unavailable
finish_of_opening opening.JournalLong = finish.JournalLong
finish_of_opening (opening.BadJournal entry) = finish.BadJournal entry
finish_of_opening opening.NoMemory = finish.Served NoMemory

-- ---- what is told

-- three lines: how many calls were accepted, how many cells there are, and how many bytes the history's journal has
abbrev pub summary_text : ℕ → ℕ → ℕ → List ℕ
summary_text accepted cells bytes =
    count_line (codes "accepted ") accepted ++ (count_line (codes "cells ") cells
    ++ count_line (codes "history ") bytes)

-- how the command ends behind lines that were sent
abbrev pub ended_telling : Result (Unit {0}) SinkFault → Ended
ended_telling (Ok done) = End
ended_telling (Err fault) = ended_by fault

-- the lines of a summary are sent
pub record Tells (accepted cells bytes : ℕ) (written written' : Option (List ℕ)) (shortages shortages' : ℕ)
    (end : Ended) : Type 0 where
  pub sent : Result (Unit {0}) SinkFault
  pub sends : Sends written written' (summary_text accepted cells bytes) sent
  pub counts : CountsShortages shortages shortages' sent
  pub end_is : end ≡ ended_telling sent

-- the lines tell what this history comes to
pub record TellsHistory (cells : List Entry → ℕ → Type 0) (entries : List Entry)
    (written written' : Option (List ℕ)) (shortages shortages' : ℕ) (end : Ended) : Type 0 where
  pub count : ℕ
  pub count_is : cells entries count
  pub tells : Tells (length entries) count (length (journal_text entries)) written written' shortages shortages' end

-- what is told behind connections: the history, where all were accepted, and nothing, where the doors failed
abbrev pub TellsBehind : (List Entry → ℕ → Type 0) → Served → List Entry → Option (List ℕ) → Option (List ℕ)
    → ℕ → ℕ → Ended → Type 0
TellsBehind cells served.All entries written written' shortages shortages' end =
    TellsHistory cells entries written written' shortages shortages' end
TellsBehind cells served.DoorFault entries written written' shortages shortages' end =
    (written' ≡ written) × (end ≡ ReadFault)

-- ---- connections

-- the item is from the caller of one of these connections
abbrev pub IsVisited : List Visit → Noted → Type 0
IsVisited visits item = Contains (map visitor visits) (caller_of item)

-- An engine answers as `plain` says, and its worlds have as many cells as `cells` says. At most so many connections
-- came in by open doors and were served, for these users, at a desk over it that was opened with this list, to which
-- their callers alone added items; what is told is the history with which that desk was closed, and what is kept is its
-- journal, or that of it and one entry more. `failures` and `steady` are what the desk's keeper tells of its faults. Of
-- a moment the state is what the doors show.
pub record ServesAll (E K W A : Type 0) (plain : List Entry → Ask → Outcome → Type 0) (cells : List Entry → ℕ → Type 0)
    (failures : K → ℕ) (steady : K → Bool) (users : UserTable) (limit : ℕ) (start : List Noted)
    (before after : Moment (Option Shown)) (kept' : Option (List ℕ)) (end : Ended) : Type 0 where
  pub desk : Desk E K W A
  pub pass : Pass Noted
  pub opened : IsOpened start desk pass
  pub available : NeverFails failures steady → IsAvailable plain failures steady desk
  pub accepted : Served
  pub entries : List Entry
  pub failed : ℕ
  pub served : AreServed plain (IsAnswer plain failures steady) desk users pass limit accepted before.state after.state
      entries failed kept'
  pub visited : All (IsVisited served.talked.visits) (drop (length start) served.told)
  pub told : TellsBehind cells accepted entries before.written after.written before.shortages after.shortages end

-- the moment at which the doors are opened on the port
abbrev pub opened_on : ℕ → Moment (Option Shown) → Moment (Option Shown)
opened_on port before = at_moment (option_map (after_opening port) before.state) before.written before.shortages

-- At a desk that was opened with this list: the doors were opened once, on the port, which failed, and nothing else was
-- done; or they were opened so, and connections were served.
pub data ServesFrom (E K W A : Type 0) (plain : List Entry → Ask → Outcome → Type 0) (cells : List Entry → ℕ → Type 0)
    (failures : K → ℕ) (steady : K → Bool) (users : UserTable) (port limit : ℕ) (start : List Noted)
    (before after : Moment (Option Shown)) (kept' : Option (List ℕ)) (end : Ended) : Type 0 where
  no_doors : end ≡ ReadFault → IsIdle (opened_on port before) after → Keeps plain LONGEST_JOURNAL kept' start
      → ServesFrom E K W A plain cells failures steady users port limit start before after kept' end
  served_all : ServesAll E K W A plain cells failures steady users limit start (opened_on port before) after kept' end
      → ServesFrom E K W A plain cells failures steady users port limit start before after kept' end

-- By the journal that a keeper has: there was no desk, and nothing was done; or one was opened with the history that
-- these bytes are the journal of.
pub data ServesKept (E K W A : Type 0) (plain : List Entry → Ask → Outcome → Type 0) (cells : List Entry → ℕ → Type 0)
    (failures : K → ℕ) (steady : K → Bool) (users : UserTable) (port limit : ℕ) (kept : Option (List ℕ))
    (before after : Moment (Option Shown)) (kept' : Option (List ℕ)) (end : Finish) : Type 0 where
  no_desk : IsDeskFault plain kept end → IsIdle before after → kept' ≡ kept
      → ServesKept E K W A plain cells failures steady users port limit kept before after kept' end
  from : (start : List Noted) (ended : Ended) → HasOpened plain LONGEST_JOURNAL kept start → end ≡ finish.Served ended
      → ServesFrom E K W A plain cells failures steady users port limit start before after kept' ended
      → ServesKept E K W A plain cells failures steady users port limit kept before after kept' end

-- ---- the command

-- the keeper of this name's journal has its bytes, or none, where the folder tells and lacks it
abbrev pub IsJournalIn : Option ShownFolder → List ℕ → Option (List ℕ) → Type 0
IsJournalIn shown name kept = IfSome shown (λ folder. kept ≡ found_or_made true (folder.files name))

-- the folder has these bytes of that name, where it tells
abbrev pub HasKept : Option ShownFolder → List ℕ → Option (List ℕ) → Type 0
HasKept shown name kept = IfSome shown (λ folder. folder.files name ≡ kept)

-- Connections at a desk whose history is kept in memory and begins empty: there was no memory for one, and nothing was
-- done; or they were served at it.
pub data ServesInMemory (E W A : Type 0) (plain : List Entry → Ask → Outcome → Type 0)
    (cells : List Entry → ℕ → Type 0) (users : UserTable) (port limit : ℕ) (before after : Moment (Option Shown))
    (end : Ended) : Type 0 where
  no_desk : end ≡ NoMemory → IsIdle before after → ServesInMemory E W A plain cells users port limit before after end
  from_nothing : (kept' : List ℕ)
      → ServesFrom E (List ℕ) W A plain cells (λ kept. 0) (λ kept. true) users port limit [] before after
      (Some kept') end
      → ServesInMemory E W A plain cells users port limit before after end

-- Connections at a desk whose journal is the file of that name: the folder didn't hand it out, since it failed or
-- memory ran out, and nothing was done; or they were served by it, and the file then has what is kept.
pub data ServesByJournal (E K W A : Type 0) (plain : List Entry → Ask → Outcome → Type 0)
    (cells : List Entry → ℕ → Type 0) (failures : K → ℕ) (steady : K → Bool) (users : UserTable) (port limit : ℕ)
    (name : List ℕ) (shown shown' : Option ShownFolder) (before after : Moment (Option Shown)) (end : Finish) : Type 0
  where
    no_journal : (fault : LoadFault) → end ≡ finish_of_load fault → IsIdle before after
        → IsRefused name true shown shown'
        → ServesByJournal E K W A plain cells failures steady users port limit name shown shown' before after end
    by_keeper : (kept kept' : Option (List ℕ)) → IsJournalIn shown name kept
        → ServesKept E K W A plain cells failures steady users port limit kept before after kept' end
        → HasKept shown' name kept'
        → ServesByJournal E K W A plain cells failures steady users port limit name shown shown' before after end

-- The command `serve`: there were no users, and nothing was done; or connections were served for those users, at a desk
-- in memory, or, where the words name a journal, by that.
pub data Serves (E K W A : Type 0) (plain : List Entry → Ask → Outcome → Type 0) (cells : List Entry → ℕ → Type 0)
    (failures : K → ℕ) (steady : K → Bool) (port limit : ℕ) (users journal : Option (List ℕ))
    (shown shown' : Option ShownFolder) (before after : Moment (Option Shown)) (end : Finish) : Type 0 where
  no_users : IsUsersFault shown users end → IsIdle before after → shown' ≡ option_map (after_reading users) shown
      → Serves E K W A plain cells failures steady port limit users journal shown shown' before after end
  in_memory : (table : UserTable) (ended : Ended) → HasUsers shown users table → journal ≡ None
      → end ≡ finish.Served ended → ServesInMemory E W A plain cells table port limit before after ended
      → Serves E K W A plain cells failures steady port limit users journal shown shown' before after end
  by_journal : (table : UserTable) (name : List ℕ) → HasUsers shown users table → journal ≡ Some name
      → ServesByJournal E K W A plain cells failures steady table port limit name
      (option_map (after_reading users) shown) shown' before after end
      → Serves E K W A plain cells failures steady port limit users journal shown shown' before after end

-- ---- how it may end

-- the conversation of no connection ends the command: it ends well, by a fault, or for want of memory
abbrev pub IsEndOfServing : Ended → Type 0
IsEndOfServing End = ⊤
IsEndOfServing ReadFault = ⊤
IsEndOfServing WriteFault = ⊤
IsEndOfServing NoMemory = ⊤
IsEndOfServing end = ⊥

abbrev pub IsOfServing : Finish → Type 0
IsOfServing (finish.Served end) = IsEndOfServing end
IsOfServing finish.Unavailable = ⊤
IsOfServing finish.JournalLong = ⊤
IsOfServing (finish.BadJournal entry) = ⊤
IsOfServing finish.UsersLong = ⊤
IsOfServing (finish.BadUsers row) = ⊤
