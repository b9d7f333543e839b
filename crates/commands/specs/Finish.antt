-- How a command ends: its status, and its line on the faults.
use Rattle.std.specs.Prelude.{◌≡◌, ℕ, List, [], ◌++◌, codes, Option, Some, IfSome}
use Rattle.std.specs.Option.{option_map}
use Rattle.std.specs.Fmt.{decimal}
use Rattle.conversation.specs.declared.ended.Ended.{Ended}
use Rattle.conversation.specs.declared.ended.Ended.TheVariants.{End, Asked, Closed, Truncated, LongTalk, ReadFault}
use Rattle.conversation.specs.declared.ended.Ended.TheVariants.{WriteFault, NoMemory}
use Rattle.sheets_http.specs.Framing.{End as TalkEnd, ended, asked, closed, truncated, long_talk}
use Rattle.cell_value.specs.FaultCount.{Rose}
use Rattle.commands.specs.declared.finish.Finish.{Finish}
use Rattle.commands.specs.declared.finish.Finish.TheVariants.{Served, BadUsers, UsersLong, BadJournal, JournalLong}
use Rattle.commands.specs.declared.finish.Finish.TheVariants.{Unavailable}

-- the status with which a conversation that ended so ends the program
abbrev pub status_at_end : Ended → ℕ
status_at_end End = 0
status_at_end Asked = 0
status_at_end (Closed fault) = 0
status_at_end ReadFault = 1
status_at_end NoMemory = 3
status_at_end WriteFault = 4
status_at_end (Truncated count) = 5
status_at_end LongTalk = 8

-- the status with which a command that ended so ends the program
abbrev pub status_of : Finish → ℕ
status_of (Served end) = status_at_end end
status_of (BadUsers row) = 6
status_of UsersLong = 6
status_of (BadJournal entry) = 6
status_of JournalLong = 6
status_of Unavailable = 7

-- a line of this text and a count
abbrev pub count_line : List ℕ → ℕ → List ℕ
count_line text count = text ++ (decimal count ++ codes "\n")

-- the line on the faults of a conversation that ended so, and the line feed behind it
abbrev pub line_at_end : Ended → List ℕ
line_at_end End = []
line_at_end Asked = []
line_at_end (Closed fault) = []
line_at_end ReadFault = codes "read fault\n"
line_at_end NoMemory = codes "no memory\n"
line_at_end WriteFault = codes "write fault\n"
line_at_end (Truncated count) = count_line (codes "truncated ") count
line_at_end LongTalk = codes "long talk\n"

-- the line on the faults of a command that ended so, and the line feed behind it
abbrev pub line_of : Finish → List ℕ
line_of (Served end) = line_at_end end
line_of (BadUsers row) = count_line (codes "bad users ") row
line_of UsersLong = codes "users long\n"
line_of (BadJournal entry) = count_line (codes "bad journal ") entry
line_of JournalLong = codes "journal long\n"
line_of Unavailable = codes "unavailable\n"

-- a list begins with that one
abbrev pub IsPrefix : List ℕ → List ℕ → Type 0
IsPrefix first whole = (rest : List ℕ) × (whole ≡ first ++ rest)

-- the line is written whole, or the count of faults or of shortages rose
pub data WholeOrFails (before after : Option (List ℕ)) (faults faults' shortages shortages' : ℕ) (line : List ℕ) :
    Type 0 where
  written_whole : after ≡ option_map (λ said. said ++ line) before
      → WholeOrFails before after faults faults' shortages shortages' line
  sink_failed : Rose faults faults' → WholeOrFails before after faults faults' shortages shortages' line
  no_memory : Rose shortages shortages' → WholeOrFails before after faults faults' shortages shortages' line

-- the first bytes of the line are written, where the device tells what is: all of them, unless a count rose
pub record Says (before after : Option (List ℕ)) (faults faults' shortages shortages' : ℕ) (line : List ℕ) : Type 0
  where
    pub first : IfSome before (λ said. (first : List ℕ) × IsPrefix first line × (after ≡ Some (said ++ first)))
    pub whole : WholeOrFails before after faults faults' shortages shortages' line

-- the status of the talk's end
abbrev pub status_at : TalkEnd → ℕ
status_at ended = 0
status_at asked = 0
status_at (closed fault) = 0
status_at (truncated count) = 5
status_at long_talk = 8
