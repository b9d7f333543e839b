-- The command `run`: where its input's talk ends so, that is its status, or it says why not.
use Rattle.std.proofs.Common.{◌≡◌, ◌⊎◌, inl, inr, ℕ, List, ◌∙◌, ap}
use Rattle.std.specs.Prelude.{Option, None, Some, IfSome}
use Rattle.sheets_http.specs.declared.request.Wire.{Wire}
use Rattle.sheets_http.specs.Framing.{End, Talk}
use Rattle.sheets_http.specs.Laws.{HasOneTalk}
use Rattle.desk.specs.declared.entry.Ask.{Ask}
use Rattle.desk.specs.declared.entry.Entry.{Entry}
use Rattle.desk.specs.Steps.{Outcome}
use Rattle.conversation.specs.declared.ended.Ended.{Ended}
use Rattle.conversation.specs.declared.ended.Ended.TheVariants as how
use Rattle.folder.specs.Folder.{ShownFolder}
use Rattle.commands.specs.declared.finish.Finish.{Finish}
use Rattle.commands.specs.declared.finish.Finish.TheVariants as finish
use Rattle.sheets_http.specs.declared.next.TheConstants.{LONGEST_TALK}
use Rattle.commands.specs.Finish.{status_of, status_at}
use Rattle.commands.specs.Running.{Runs, no_users, converses}
use Rattle.commands.specs.Users.{IsUsersFault}
use Rattle.commands.proofs.Statuses.{exactly_as}

-- a status that is one of those, whatever the talk's end is
abbrev Other : ℕ → Type 0
Other status = (status ≡ 6) ⊎ ((status ≡ 3) ⊎ ((status ≡ 1) ⊎ (status ≡ 4)))

whatever : (left : Option (List ℕ)) (status : ℕ) → Other status
    → IfSome left (λ bytes. (requests : List Wire) (end : End) → Talk LONGEST_TALK bytes requests end
    → (status ≡ status_at end) ⊎ Other status)
whatever None status other = tt
whatever (Some bytes) status other = λ requests end talk. inr other

-- so it is where there are no users
users_at : (ended : Ended) (status : ℕ) (shown : Option ShownFolder) (name : List ℕ)
    → IsUsersFault shown (Some name) (finish.Served ended) → status ≡ status_of (finish.Served ended) → Other status
users_at how.End status shown name fault is = absurd fault
users_at how.Asked status shown name fault is = absurd fault
users_at (how.Closed refused) status shown name fault is = absurd fault
users_at how.ReadFault status shown name fault is = inr (inr (inl is))
users_at how.NoMemory status shown name fault is = inr (inl is)
users_at how.WriteFault status shown name fault is = absurd fault
users_at (how.Truncated count) status shown name fault is = absurd fault
users_at how.LongTalk status shown name fault is = absurd fault

users_fault : (end : Finish) (status : ℕ) (shown : Option ShownFolder) (users : Option (List ℕ))
    → IsUsersFault shown users end → status ≡ status_of end → Other status
users_fault end status shown None fault is = absurd fault
users_fault (finish.Served ended) status shown (Some name) fault is = users_at ended status shown name fault is
users_fault (finish.BadUsers row) status shown (Some name) fault is = inl is
users_fault finish.UsersLong status shown (Some name) fault is = inl is
users_fault (finish.BadJournal entry) status shown (Some name) fault is = absurd fault
users_fault finish.JournalLong status shown (Some name) fault is = absurd fault
users_fault finish.Unavailable status shown (Some name) fault is = absurd fault

pub exactly_runs : (plain : List Entry → Ask → Outcome → Type 0) (users : Option (List ℕ)) (shown : Option ShownFolder)
    (left written written' : Option (List ℕ)) (shortages shortages' : ℕ) (end : Finish) (status : ℕ) → HasOneTalk
    → Runs plain users shown left written written' shortages shortages' end → status ≡ status_of end
    → IfSome left (λ bytes. (requests : List Wire) (end : End) → Talk LONGEST_TALK bytes requests end
    → (status ≡ status_at end) ⊎ ((status ≡ 6) ⊎ ((status ≡ 3) ⊎ ((status ≡ 1) ⊎ (status ≡ 4)))))
exactly_runs plain users shown left written written' shortages shortages' end status one (no_users fault same) is =
    whatever left status (users_fault end status shown users fault is)
exactly_runs plain users shown left written written' shortages shortages' end status one
    (converses table ended has end_is conversed) is =
    exactly_as one left LONGEST_TALK ended status (is ∙ ap status_of end_is) conversed.ends
