-- The status of a command, and the end of its talk.
use Rattle.std.proofs.Common.{◌≡◌, ◌≢◌, ℕ, List, Option, None, Some, IfSome, ◌⊎◌, inl, inr, ◌∙◌, ap, refl, arith}
use Rattle.sheets_http.specs.declared.request.Wire.{Wire}
use Rattle.sheets_http.specs.Framing.{End, ended, asked, closed, truncated, long_talk, Talk}
use Rattle.sheets_http.specs.Laws.{HasOneTalk}
use Rattle.conversation.specs.declared.ended.Ended.{Ended}
use Rattle.conversation.specs.declared.ended.Ended.TheVariants as how
use Rattle.conversation.specs.Conversation.{HasEnd, EndsAs}
use Rattle.commands.specs.declared.finish.Finish.{Finish}
use Rattle.commands.specs.declared.finish.Finish.TheVariants as finish
use Rattle.commands.specs.Finish.{status_of, status_at_end, status_at}

-- ---- the talk's end

-- a stream has one end
one_end : HasOneTalk → (room : ℕ) (bytes : List ℕ) (requests : List Wire) (end other : End)
    → Talk room bytes requests other → HasEnd room bytes end → end ≡ other
one_end one_talk room bytes requests end other talk has = (one_talk room bytes has.0 requests end other has.1 talk).1

-- the status is that of the talk's end, or says why not
abbrev Exactly : ℕ → End → Type 0
Exactly status end = (status ≡ status_at end) ⊎ ((status ≡ 6) ⊎ ((status ≡ 3) ⊎ ((status ≡ 1) ⊎ (status ≡ 4))))

exactly_at : HasOneTalk → (room : ℕ) (bytes : List ℕ) (result : Ended) (status : ℕ) → status ≡ status_at_end result
    → EndsAs room bytes result → (requests : List Wire) (end : End) → Talk room bytes requests end
    → Exactly status end
exactly_at one room bytes how.End status is ends requests end talk = inl
    (is ∙ ap status_at (one_end one room bytes requests ended end talk ends))
exactly_at one room bytes how.Asked status is ends requests end talk = inl
    (is ∙ ap status_at (one_end one room bytes requests asked end talk ends))
exactly_at one room bytes (how.Closed fault) status is ends requests end talk = inl
    (is ∙ ap status_at (one_end one room bytes requests (closed fault) end talk ends))
exactly_at one room bytes (how.Truncated count) status is ends requests end talk = inl
    (is ∙ ap status_at (one_end one room bytes requests (truncated count) end talk ends))
exactly_at one room bytes how.LongTalk status is ends requests end talk = inl
    (is ∙ ap status_at (one_end one room bytes requests long_talk end talk ends))
exactly_at one room bytes how.ReadFault status is ends requests end talk = inr (inr (inr (inl is)))
exactly_at one room bytes how.WriteFault status is ends requests end talk = inr (inr (inr (inr is)))
exactly_at one room bytes how.NoMemory status is ends requests end talk = inr (inr (inl is))

pub exactly_as : HasOneTalk → (left : Option (List ℕ)) (room : ℕ) (result : Ended) (status : ℕ)
    → status ≡ status_at_end result → IfSome left (λ bytes. EndsAs room bytes result)
    → IfSome left (λ bytes. (requests : List Wire) (end : End) → Talk room bytes requests end
    → (status ≡ status_at end) ⊎ ((status ≡ 6) ⊎ ((status ≡ 3) ⊎ ((status ≡ 1) ⊎ (status ≡ 4)))))
exactly_as one None room result status is ends = tt
exactly_as one (Some bytes) room result status is ends = exactly_at one room bytes result status is ends

-- ---- the status of a cut request and of the bound

cut_at : (end : Ended) (room : ℕ) (bytes : List ℕ) → status_at_end end ≡ 5 → EndsAs room bytes end
    → (count : ℕ) × HasEnd room bytes (truncated count)
cut_at how.End room bytes is ends = absurd (omega (arith, is))
cut_at how.Asked room bytes is ends = absurd (omega (arith, is))
cut_at (how.Closed fault) room bytes is ends = absurd (omega (arith, is))
cut_at how.ReadFault room bytes is ends = absurd (omega (arith, is))
cut_at how.NoMemory room bytes is ends = absurd (omega (arith, is))
cut_at how.WriteFault room bytes is ends = absurd (omega (arith, is))
cut_at (how.Truncated count) room bytes is ends = (count, ends)
cut_at how.LongTalk room bytes is ends = absurd (omega (arith, is))

pub cut_where : (left : Option (List ℕ)) (end : Ended) (room : ℕ) → status_at_end end ≡ 5
    → IfSome left (λ bytes. EndsAs room bytes end)
    → IfSome left (λ bytes. (count : ℕ) × HasEnd room bytes (truncated count))
cut_where None end room is ends = tt
cut_where (Some bytes) end room is ends = cut_at end room bytes is ends

long_at : (end : Ended) (room : ℕ) (bytes : List ℕ) → status_at_end end ≡ 8 → EndsAs room bytes end
    → HasEnd room bytes long_talk
long_at how.End room bytes is ends = absurd (omega (arith, is))
long_at how.Asked room bytes is ends = absurd (omega (arith, is))
long_at (how.Closed fault) room bytes is ends = absurd (omega (arith, is))
long_at how.ReadFault room bytes is ends = absurd (omega (arith, is))
long_at how.NoMemory room bytes is ends = absurd (omega (arith, is))
long_at how.WriteFault room bytes is ends = absurd (omega (arith, is))
long_at (how.Truncated count) room bytes is ends = absurd (omega (arith, is))
long_at how.LongTalk room bytes is ends = ends

pub long_where : (left : Option (List ℕ)) (end : Ended) (room : ℕ) → status_at_end end ≡ 8
    → IfSome left (λ bytes. EndsAs room bytes end) → IfSome left (λ bytes. HasEnd room bytes long_talk)
long_where None end room is ends = tt
long_where (Some bytes) end room is ends = long_at end room bytes is ends

-- ---- which end a status tells

-- the status 1 is that of a read fault alone
pub read_alone : (end : Ended) → status_at_end end ≡ 1 → end ≡ how.ReadFault
read_alone how.End is = absurd (omega (arith, is))
read_alone how.Asked is = absurd (omega (arith, is))
read_alone (how.Closed fault) is = absurd (omega (arith, is))
read_alone how.ReadFault is = refl
read_alone how.NoMemory is = absurd (omega (arith, is))
read_alone how.WriteFault is = absurd (omega (arith, is))
read_alone (how.Truncated count) is = absurd (omega (arith, is))
read_alone how.LongTalk is = absurd (omega (arith, is))

pub write_alone : (end : Ended) → status_at_end end ≡ 4 → end ≡ how.WriteFault
write_alone how.End is = absurd (omega (arith, is))
write_alone how.Asked is = absurd (omega (arith, is))
write_alone (how.Closed fault) is = absurd (omega (arith, is))
write_alone how.ReadFault is = absurd (omega (arith, is))
write_alone how.NoMemory is = absurd (omega (arith, is))
write_alone how.WriteFault is = refl
write_alone (how.Truncated count) is = absurd (omega (arith, is))
write_alone how.LongTalk is = absurd (omega (arith, is))

-- so of a command
pub read_fault : (end : Finish) → status_of end ≡ 1 → end ≡ finish.Served how.ReadFault
read_fault (finish.Served end) is = ap (λ (e : Ended). finish.Served e) (read_alone end is)
read_fault (finish.BadUsers row) is = absurd (omega (arith, is))
read_fault finish.UsersLong is = absurd (omega (arith, is))
read_fault (finish.BadJournal entry) is = absurd (omega (arith, is))
read_fault finish.JournalLong is = absurd (omega (arith, is))
read_fault finish.Unavailable is = absurd (omega (arith, is))

pub write_fault : (end : Finish) → status_of end ≡ 4 → end ≡ finish.Served how.WriteFault
write_fault (finish.Served end) is = ap (λ (e : Ended). finish.Served e) (write_alone end is)
write_fault (finish.BadUsers row) is = absurd (omega (arith, is))
write_fault finish.UsersLong is = absurd (omega (arith, is))
write_fault (finish.BadJournal entry) is = absurd (omega (arith, is))
write_fault finish.JournalLong is = absurd (omega (arith, is))
write_fault finish.Unavailable is = absurd (omega (arith, is))

never_seven : (end : Ended) → status_at_end end ≢ 7
never_seven how.End is = omega (arith, is)
never_seven how.Asked is = omega (arith, is)
never_seven (how.Closed fault) is = omega (arith, is)
never_seven how.ReadFault is = omega (arith, is)
never_seven how.NoMemory is = omega (arith, is)
never_seven how.WriteFault is = omega (arith, is)
never_seven (how.Truncated count) is = omega (arith, is)
never_seven how.LongTalk is = omega (arith, is)

pub unavailable_alone : (end : Finish) → status_of end ≡ 7 → end ≡ finish.Unavailable
unavailable_alone (finish.Served end) is = absurd (never_seven end is)
unavailable_alone (finish.BadUsers row) is = absurd (omega (arith, is))
unavailable_alone finish.UsersLong is = absurd (omega (arith, is))
unavailable_alone (finish.BadJournal entry) is = absurd (omega (arith, is))
unavailable_alone finish.JournalLong is = absurd (omega (arith, is))
unavailable_alone finish.Unavailable is = refl

-- no command ends as words do that are none
never_two : (end : Ended) → status_at_end end ≢ 2
never_two how.End is = omega (arith, is)
never_two how.Asked is = omega (arith, is)
never_two (how.Closed fault) is = omega (arith, is)
never_two how.ReadFault is = omega (arith, is)
never_two how.NoMemory is = omega (arith, is)
never_two how.WriteFault is = omega (arith, is)
never_two (how.Truncated count) is = omega (arith, is)
never_two how.LongTalk is = omega (arith, is)

pub never_usage : (end : Finish) → status_of end ≢ 2
never_usage (finish.Served end) is = never_two end is
never_usage (finish.BadUsers row) is = omega (arith, is)
never_usage finish.UsersLong is = omega (arith, is)
never_usage (finish.BadJournal entry) is = omega (arith, is)
never_usage finish.JournalLong is = omega (arith, is)
never_usage finish.Unavailable is = omega (arith, is)
