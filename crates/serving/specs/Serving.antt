-- Many connections that are served at one desk: what each of them was answered, and what is left of them all.
use Rattle.std.specs.Prelude.{◌≡◌, ◌≢◌, ◌⊎◌, ℕ, zero, suc, ◌+◌, max, ◌==◌, ◌<◌, ◌≤◌, List, [], ◌∷◌, ◌++◌, All, map, length, drop, Option, None, Some, IfSome, IsTrue, if◌then◌else◌}
use Rattle.std.specs.List.{Contains, filter, flat_map}
use Rattle.std.specs.Option.{option_map}
use Rattle.cell_value.specs.Calls.{one_more}
use Rattle.cell_value.specs.FaultCount.{Rose}
use Rattle.sheets_http.specs.declared.request.Wire.{Wire}
use Rattle.history_lock.specs.History.{StartsWith, NoneOf}
use Rattle.history_lock.specs.declared.view.Drawing.TheVariants.{Alone}
use Rattle.history_lock.specs.Passes.{seen_by, number_of, count_of, drawing_of, met_by}
use Rattle.history_lock.specs.declared.pass.Pass.{Pass}
use Rattle.desk.specs.declared.desk.Desk.{Desk}
use Rattle.desk.specs.declared.entry.Ask.{Ask}
use Rattle.desk.specs.declared.entry.Entry.{Entry}
use Rattle.desk.specs.declared.entry.Noted.{Noted}
use Rattle.desk.specs.Points.{Keeps, caller_of, entries_of, last_counted}
use Rattle.desk.specs.Desks.{IsPass, pair_at, list_at, callers_at}
use Rattle.desk.specs.Histories.{AreAccepted}
use Rattle.desk.specs.Steps.{Outcome}
use Rattle.conversation.specs.declared.ended.Ended.TheVariants as how
use Rattle.sheets_http.specs.declared.next.TheConstants.{LONGEST_TALK}
use Rattle.conversation.specs.Conversation.{at_moment, IsConversation, EndsAs, Counts, LosesFirst}
use Rattle.connections.specs.Calls.{UserTable}
use Rattle.connections.specs.Doors.{LinkSeen, IsFresh, Ending, Connection, Shown, after_accept}
use Rattle.serving.specs.declared.accepting.Served.{Served}
use Rattle.serving.specs.declared.accepting.Served.TheVariants as served

-- ---- one connection

-- a connection as it was accepted: who calls the desk for it, the list that this caller had seen then, and what its
-- link told
pub record Arrival : Type 0 where
  pub caller : ℕ
  pub before : List Noted
  pub link : LinkSeen

-- a connection that was served: how it was accepted, the list that its caller had seen at the end, and how it ended
pub record Visit : Type 0 where
  pub arrival : Arrival
  pub after : List Noted
  pub ending : Ending

-- which response answers a request at a desk with these users, of a caller with this number, that had seen the items
-- before and has seen those after
abbrev pub AnswersAt : Type 0 → Type 0 → Type 0 → Type 0 → Type 1
AnswersAt E K W A = Desk E K W A → UserTable → ℕ → List Noted → Wire → List Noted → List ℕ → Type 0

-- The requests of a link were answered by calls of the desk, from the list that the caller had seen before to the one
-- that it had seen after; it ended as their talk does, or was cut off.
pub record IsVisit {E K W A : Type 0} (answers : AnswersAt E K W A) (desk : Desk E K W A) (users : UserTable)
    (arrival : Arrival) (after : List Noted) (ending : Ending) : Type 0 where
  pub served : IsConversation (answers desk users arrival.caller) LONGEST_TALK arrival.link.left
      (at_moment arrival.before arrival.link.written arrival.link.shortages)
      (at_moment after ending.link.written ending.link.shortages) ending.ended
  pub ends : IfSome arrival.link.left (λ bytes. EndsAs LONGEST_TALK bytes ending.ended)
  pub left : LosesFirst arrival.link.left ending.link.left
  pub grows : StartsWith after arrival.before
  pub read : ending.ended ≡ how.ReadFault → Rose arrival.link.read_faults ending.link.read_faults
  pub write : ending.ended ≡ how.WriteFault → Rose arrival.link.write_faults ending.link.write_faults
  pub shortages : arrival.link.shortages ≤ ending.link.shortages
  pub input : Counts arrival.link.read_faults ending.link.read_faults arrival.link.read_steady ending.link.read_steady
  pub output : Counts arrival.link.write_faults ending.link.write_faults arrival.link.write_steady
      ending.link.write_steady
  pub steady_read : IsTrue arrival.link.read_steady → ending.ended ≢ how.ReadFault
  pub steady_write : IsTrue arrival.link.write_steady → ending.ended ≢ how.WriteFault
  pub references : ending.link.references ≡ arrival.link.references

-- the caller isn't the one with that number, and no item since the opening that it had seen before was its own
pub record IsAnother {E K W A : Type 0} (desk : Desk E K W A) (number : ℕ) (arrival : Arrival) : Type 0 where
  pub other : arrival.caller ≢ number
  pub unused : NoneOf caller_of arrival.caller (drop (length (list_at desk)) arrival.before)

-- a connection came with a link that had not failed, and its caller had seen these items
pub record HasArrived (first : List Noted) (arrival : Arrival) : Type 0 where
  pub fresh : IsFresh arrival.link
  pub begins : StartsWith arrival.before first

-- another's only visit: since the opening none of its items is among those that it had seen before the visit, and none
-- of the list's behind those that it had seen at the end
pub record IsOnlyVisit {E K W A : Type 0} (desk : Desk E K W A) (number : ℕ) (told : List Noted)
    (visit : Visit) : Type 0
  where
    pub another : IsAnother desk number visit.arrival
    pub done : NoneOf caller_of visit.arrival.caller (drop (length visit.after) told)

-- A connection was served at the desk, whose list is told, where the first caller has this number and had seen the
-- first items: by the first caller, or by another, all of whose items since the opening were added in this visit.
pub record WasServed {E K W A : Type 0} (answers : AnswersAt E K W A) (desk : Desk E K W A)
    (users : UserTable) (number : ℕ) (first told : List Noted) (visit : Visit) : Type 0 where
  pub arrived : HasArrived first visit.arrival
  pub talked : IsVisit answers desk users visit.arrival visit.after visit.ending
  pub within : StartsWith told visit.after
  pub by : (visit.arrival.caller ≡ number) ⊎ IsOnlyVisit desk number told visit

-- no item is of both: their callers differ, or the later one's had seen before it all that the other's had after it
abbrev pub AreApart : Visit → Visit → Type 0
AreApart visit later = (visit.arrival.caller ≢ later.arrival.caller) ⊎ StartsWith later.arrival.before visit.after

-- so it is of any two of the list, of which the one stands before the other
abbrev pub OfAnyTwo : {A : Type 0} → (A → A → Type 0) → List A → Type 0
OfAnyTwo R [] = Unit {0}
OfAnyTwo R (x ∷ xs) = All (R x) xs × OfAnyTwo R xs

-- the items of this caller, in order
abbrev pub items_of : ℕ → List Noted → List Noted
items_of number items = filter (λ item. caller_of item == number) items

-- what the caller of this number added in a visit; nothing, where it is another's
abbrev pub added_by : ℕ → Visit → List Noted
added_by number visit =
    if visit.arrival.caller == number then items_of number (drop (length visit.arrival.before) visit.after) else []

-- ---- all connections

-- so many connections were accepted where at most `limit` were to be: all, or fewer where the doors failed
abbrev pub HasAccepted : ℕ → Served → ℕ → Type 0
HasAccepted limit served.All count = count ≡ limit
HasAccepted limit served.DoorFault count = count < limit

-- how often the doors were asked for so many connections
abbrev pub asked : Served → ℕ → ℕ
asked served.All count = count
asked served.DoorFault count = suc count

-- a count that went up so often
abbrev pub counted_up : ℕ → ℕ → ℕ
counted_up zero count = count
counted_up (suc more) count = one_more (counted_up more count)

-- a connection that is back, as doors show it
abbrev pub connection_of : Visit → Connection
connection_of visit = record { came = visit.arrival.link; back = Some visit.ending }

-- what doors show that were asked for connections so often, and accepted these
abbrev pub showing : ℕ → List Connection → Shown → Shown
showing calls connections shown = record {
  opened = shown.opened;
  accepts = counted_up calls shown.accepts;
  connections = connections;
}

-- What was served at a desk, whose list is told, by a caller with this number that had seen the first items, and by
-- others: the connections, in the order of accepting, and what the doors showed before and show. Behind the first items
-- the caller's own are those that it added in its visits, one visit after another.
pub record HaveTalked {E K W A : Type 0} (answers : AnswersAt E K W A) (desk : Desk E K W A) (users : UserTable)
    (number : ℕ)
    (first told : List Noted) (limit : ℕ) (end : Served) (shown shown' : Option Shown) : Type 0 where
  pub visits : List Visit
  pub each : All (WasServed answers desk users number first told) visits
  pub apart : OfAnyTwo AreApart visits
  pub sees : StartsWith told first
  pub own : items_of number (drop (length first) told) ≡ flat_map (added_by number) visits
  pub accepted : HasAccepted limit end (length visits)
  pub shown_is : shown' ≡ option_map (showing (asked end (length visits)) (map connection_of visits)) shown

-- who called the desk for a connection
abbrev pub visitor : Visit → ℕ
visitor visit = visit.arrival.caller

-- the item is from the caller of one of these connections, or from another than the first caller, whose number was
-- drawn before the count came to this
abbrev pub HasVisitor : ℕ → ℕ → List Visit → Noted → Type 0
HasVisitor number count visits item =
    Contains (map visitor visits) (caller_of item) ⊎ ((caller_of item < count) × (caller_of item ≢ number))

-- What serving many connections came to, by the pass that was given. The history is the entries of the list that the
-- desk told when it was closed, each accepted behind those before it. What is kept is its journal, or that of it and
-- one entry more, which has a mark behind the last; the keeper's count of faults is that of the list's last mark. Each
-- item since the opening is from one of the desk's callers. Where the pass alone drew numbers, each that it had not
-- seen is from the caller of a connection, or from one that had a number before.
pub record AreServed {E K W A : Type 0} (plain : List Entry → Ask → Outcome → Type 0) (answers : AnswersAt E K W A)
    (desk : Desk E K W A) (users : UserTable) (pass : Pass Noted) (limit : ℕ) (end : Served)
    (shown shown' : Option Shown) (entries : List Entry) (failures : ℕ) (kept : Option (List ℕ)) : Type 0 where
  pub told : List Noted
  pub talked : HaveTalked answers desk users (number_of pass) (seen_by pass) told limit end shown shown'
  pub numbered : All (λ item. caller_of item < callers_at desk) (drop (length (list_at desk)) told)
  pub visitors : drawing_of pass ≡ Alone
      → All (HasVisitor (number_of pass) (count_of pass) talked.visits) (drop (length (seen_by pass)) told)
  pub entries_are : entries ≡ entries_of told
  pub accepted : AreAccepted plain entries
  pub counted : failures ≡ last_counted (pair_at desk).1 told
  pub keeps : Keeps plain (pair_at desk).0 kept told

-- ---- while connections are accepted

-- what doesn't change: the desk, the users, the pass that was given, and what the doors showed at the beginning
pub record Begun (E K W A : Type 0) : Type 0 where
  pub desk : Desk E K W A
  pub users : UserTable
  pub pass : Pass Noted
  pub shown : Option Shown

-- a connection that a thread serves at this desk: its number, counted from 0, how it was accepted, and the count of
-- drawn numbers that its pass knows
pub record Waiting (E K W A : Type 0) : Type 0 where
  pub number : ℕ
  pub arrival : Arrival
  pub count : ℕ
  pub desk : Desk E K W A
  pub users : UserTable

-- who accepts connections: what it began with, its pass, the threads that aren't joined, how many connections it
-- accepted, and whether the doors failed
pub record Accepting (E K W A : Type 0) : Type 0 where
  pub begun : Begun E K W A
  pub pass : Pass Noted
  pub threads : List (Waiting E K W A)
  pub accepted : ℕ
  pub end : Served

-- a connection as it is accepted for this pass, with a link that tells this
abbrev pub arrival_of : Pass Noted → LinkSeen → Arrival
arrival_of pass link = record { caller = number_of pass; before = seen_by pass; link = link }

-- what a conversation leaves: its end, and the pass, which is of the desk, and knows of no more numbers than before
pub record IsTalked {E K W A : Type 0} (answers : AnswersAt E K W A) (desk : Desk E K W A)
    (users : UserTable) (arrival : Arrival) (count : ℕ) (ending : Ending) (pass : Pass Noted) : Type 0 where
  pub pass_is : IsPass desk pass
  pub number_is : number_of pass ≡ arrival.caller
  pub count_is : count_of pass ≡ count
  pub visit : IsVisit answers desk users arrival (seen_by pass) ending

-- the pass took in another: it has seen what both have seen, and what is new to it isn't its own
pub record HasMet {E K W A : Type 0} (desk : Desk E K W A) (pass other met : Pass Noted) : Type 0 where
  pub pass_is : IsPass desk met
  pub number_is : number_of met ≡ number_of pass
  pub drawing_is : drawing_of met ≡ drawing_of pass
  pub count : count_of met ≡ max (count_of pass) (count_of other)
  pub mine : StartsWith (seen_by met) (seen_by pass)
  pub theirs : StartsWith (seen_by met) (seen_by other)
  pub own : NoneOf caller_of (number_of pass) (drop (length (seen_by pass)) (seen_by met))
  pub met_is : met_by met ≡ met_by pass ++ (number_of other, length (seen_by other)) ∷ met_by other

-- a connection is under way, or over
pub data Course : Type 0 where
  under_way : Arrival → Course
  over : Visit → Course

abbrev pub start_of : Course → Arrival
start_of (under_way arrival) = arrival
start_of (over visit) = visit.arrival

-- as doors show it
abbrev pub shown_course : Course → Connection
shown_course (under_way arrival) = record { came = arrival.link; back = None }
shown_course (over visit) = connection_of visit

-- those that are over
abbrev pub visits_of : List Course → List Visit
visits_of [] = []
visits_of (under_way arrival ∷ courses) = visits_of courses
visits_of (over visit ∷ courses) = visit ∷ visits_of courses

-- the thread of a connection with this number; its pass was the last that was given then
abbrev pub thread_of : {E K W A : Type 0} → Begun E K W A → ℕ → Arrival → Waiting E K W A
thread_of begun number arrival = record {
  number = number;
  arrival = arrival;
  count = suc arrival.caller;
  desk = begun.desk;
  users = begun.users;
}

-- the threads of those that are under way, numbered from this number on
abbrev pub threads_of : {E K W A : Type 0} → Begun E K W A → ℕ → List Course → List (Waiting E K W A)
threads_of begun number [] = []
threads_of begun number (under_way arrival ∷ courses) =
    thread_of begun number arrival ∷ threads_of begun (suc number) courses
threads_of begun number (over visit ∷ courses) = threads_of begun (suc number) courses

-- the caller has a number that was given before the count came to this
pub record IsGiven {E K W A : Type 0} (begun : Begun E K W A) (count : ℕ) (arrival : Arrival) : Type 0 where
  pub another : IsAnother begun.desk (number_of begun.pass) arrival
  pub below : arrival.caller < count

-- another than the first caller served the connection, and the pass took in that one's
pub record IsTakenIn {E K W A : Type 0} (begun : Begun E K W A) (pass : Pass Noted) (visit : Visit) : Type 0 where
  pub given : IsGiven begun (count_of pass) visit.arrival
  pub met : Contains (met_by pass) (visit.arrival.caller, length visit.after)

-- what is known of a connection by the pass of who accepts
abbrev pub Fits : {E K W A : Type 0} → AnswersAt E K W A → Begun E K W A → Pass Noted → Course → Type 0
Fits answers begun pass (under_way arrival) =
    HasArrived (seen_by begun.pass) arrival × IsGiven begun (count_of pass) arrival
Fits answers begun pass (over visit) =
    HasArrived (seen_by begun.pass) visit.arrival
    × IsVisit answers begun.desk begun.users visit.arrival visit.after visit.ending
    × StartsWith (seen_by pass) visit.after
    × ((visit.arrival.caller ≡ number_of begun.pass) ⊎ IsTakenIn begun pass visit)

-- no item is of both, where the later one was accepted so
abbrev pub LeavesApart : Course → Arrival → Type 0
LeavesApart (under_way arrival) later = arrival.caller ≢ later.caller
LeavesApart (over visit) later = (visit.arrival.caller ≢ later.caller) ⊎ StartsWith later.before visit.after

abbrev pub CoursesApart : Course → Course → Type 0
CoursesApart course later = LeavesApart course (start_of later)

-- each number from the one count up to the other is among these
abbrev pub AreAmong : ℕ → ℕ → List ℕ → Type 0
AreAmong from count numbers = (number : ℕ) → from ≤ number → number < count → Contains numbers number

-- who calls the desk for a connection
abbrev pub caller_in : Course → ℕ
caller_in course = (start_of course).caller

-- Where accepting stands: the connections so far, in order. Where nobody else draws numbers, each that was drawn since
-- is a connection's.
pub record AcceptsSo {E K W A : Type 0} (answers : AnswersAt E K W A) (begun : Begun E K W A)
    (pass : Pass Noted) (threads : List (Waiting E K W A)) (accepted : ℕ) (end : Served) (shown : Option Shown)
    : Type 0 where
  pub courses : List Course
  pub pass_is : IsPass begun.desk pass
  pub number_is : number_of pass ≡ number_of begun.pass
  pub drawing_is : drawing_of pass ≡ drawing_of begun.pass
  pub callers : drawing_of begun.pass ≡ Alone
      → AreAmong (count_of begun.pass) (count_of pass) (map caller_in courses)
  pub sees : StartsWith (seen_by pass) (seen_by begun.pass)
  pub own : items_of (number_of begun.pass) (drop (length (seen_by begun.pass)) (seen_by pass))
      ≡ flat_map (added_by (number_of begun.pass)) (visits_of courses)
  pub each : All (Fits answers begun pass) courses
  pub apart : OfAnyTwo CoursesApart courses
  pub threads_are : threads ≡ threads_of begun 0 courses
  pub accepted_is : accepted ≡ length courses
  pub shown_is : shown ≡ option_map (showing (asked end (length courses)) (map shown_course courses)) begun.shown

abbrev pub Stands : {E K W A : Type 0} → AnswersAt E K W A → Accepting E K W A → Option Shown → Type 0
Stands answers acceptor shown =
    AcceptsSo answers acceptor.begun acceptor.pass acceptor.threads acceptor.accepted acceptor.end shown

-- no thread is left, and so many connections were accepted as were to be
pub record HaveAllTalked {E K W A : Type 0} (answers : AnswersAt E K W A) (begun : Begun E K W A) (pass : Pass Noted)
    (limit : ℕ) (end : Served) (shown : Option Shown) : Type 0 where
  pub accepted : ℕ
  pub counts : HasAccepted limit end accepted
  pub stands : AcceptsSo answers begun pass [] accepted end shown

-- a further connection was accepted, with a link that tells this, and isn't served yet
pub record HasAsked {E K W A : Type 0} (answers : AnswersAt E K W A) (acceptor : Accepting E K W A)
    (link : LinkSeen) (shown : Option Shown) : Type 0 where
  pub before : Option Shown
  pub stands : Stands answers acceptor before
  pub end_is : acceptor.end ≡ served.All
  pub fresh : IsFresh link
  pub shown_is : shown ≡ option_map (after_accept link) before

-- nothing changed but the pass and the threads
pub record IsSame {E K W A : Type 0} (acceptor acceptor' : Accepting E K W A) : Type 0 where
  pub begun : acceptor'.begun ≡ acceptor.begun
  pub accepted : acceptor'.accepted ≡ acceptor.accepted
  pub end : acceptor'.end ≡ acceptor.end

-- one connection more was accepted
pub record HasOneMore {E K W A : Type 0} (acceptor acceptor' : Accepting E K W A) : Type 0 where
  pub begun : acceptor'.begun ≡ acceptor.begun
  pub accepted : acceptor'.accepted ≡ acceptor.accepted + 1
  pub end : acceptor'.end ≡ acceptor.end
