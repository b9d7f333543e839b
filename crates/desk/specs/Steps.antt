-- What a call is on a history of accepted calls.
use Rattle.std.specs.Prelude.{◌≡◌, ℕ, ◌==◌, Bool, true, false, ◌&&◌, List, [], ◌∷◌, ◌++◌, length, nat_lt, if◌then◌else◌, Option, None, Some, MatchOption, IsSome, IsTrue, codes}
use Rattle.std.specs.List.{list_any}
use Rattle.desk.specs.declared.entry.Entry.{Entry}
use Rattle.desk.specs.declared.entry.Ask.{Ask}
use Rattle.desk.specs.declared.engine.Answered.{Answered}
use Rattle.desk.specs.Journal.{journal_text}

-- a status, a body, and whether the call is accepted
pub record Outcome : Type 0 where
  pub status : ℕ
  pub body : List ℕ
  pub accepts : Bool

-- the user's name; empty where nobody is known
abbrev pub user_of : Option (List ℕ) → List ℕ
user_of (Some user) = user
user_of None = []

-- the entry that an ask of this caller makes, where it is accepted
abbrev pub entry_of : ℕ → Ask → Entry
entry_of caller ask = record {
  caller = caller;
  user = user_of ask.user;
  project = ask.project;
  target = ask.target;
  body = ask.body;
}

-- the statuses that an engine answers (RFC 9110, sections 15.3.1 and 15.5)
abbrev pub served : List ℕ
served = 200 ∷ 400 ∷ 401 ∷ 403 ∷ 404 ∷ []

-- the status is one of these; what is accepted is answered 200, and has a user and no content coding, so that its
-- entry tells all of it
pub record IsServed (ask : Ask) (outcome : Outcome) : Type 0 where
  pub status_is : IsTrue (list_any (λ status. status == outcome.status) served)
  pub accepted : outcome.accepts ≡ true → (outcome.status ≡ 200) × IsSome ask.user × (ask.coded ≡ false)

-- an ask has one outcome behind a history
abbrev pub HasOneOutcome : (List Entry → Ask → Outcome → Type 0) → Type 0
HasOneOutcome plain =
    (entries : List Entry) (ask : Ask) (outcome other : Outcome) → plain entries ask outcome → plain entries ask other
    → outcome ≡ other

-- a history makes one number of cells
abbrev pub HasOneCount : (List Entry → ℕ → Type 0) → Type 0
HasOneCount cells =
    (entries : List Entry) (count other : ℕ) → cells entries count → cells entries other → count ≡ other

-- a history has one text that tells what its calls made
abbrev pub HasOneDump : (List Entry → List ℕ → Type 0) → Type 0
HasOneDump dumps =
    (entries : List Entry) (text other : List ℕ) → dumps entries text → dumps entries other → text ≡ other

-- each outcome is one that an engine answers
abbrev pub AreServed : (List Entry → Ask → Outcome → Type 0) → Type 0
AreServed plain =
    (entries : List Entry) (ask : Ask) (outcome : Outcome) → plain entries ask outcome → IsServed ask outcome

-- What is answered on a world that stands for the entries: what one thread answers behind them. A world is told exactly
-- where the ask is accepted; it stands for the entries with the ask's own behind them.
pub record Answers {W : Type 0} (plain : List Entry → Ask → Outcome → Type 0) (stands : W → List Entry → Type 0)
    (entries : List Entry) (ask : Ask) (answered : Answered W) : Type 0 where
  pub outcome : Outcome
  pub plainly : plain entries ask outcome
  pub status_is : answered.status ≡ outcome.status
  pub body_is : answered.body ≡ outcome.body
  pub next_is : MatchOption answered.next (outcome.accepts ≡ false)
      (λ world. (outcome.accepts ≡ true)
      × ((caller : ℕ) → stands world (entries ++ entry_of caller ask ∷ [])))

-- the journal of the entries with this one has more bytes than the limit
abbrev pub is_full : ℕ → List Entry → Entry → Bool
is_full limit entries entry = nat_lt limit (length (journal_text (entries ++ entry ∷ [])))

-- the body of 429, Too Many Requests (RFC 6585, section 4)
unfoldable pub full_body : List ℕ
full_body = codes "{\"error\":{\"code\":429,\"message\":\"HistoryFull\",\"status\":\"RESOURCE_EXHAUSTED\"}}"

-- the body of 503, Service Unavailable (RFC 9110, section 15.6.4)
unfoldable pub unavailable_body : List ℕ
unavailable_body = codes "{\"error\":{\"code\":503,\"message\":\"Unavailable\",\"status\":\"UNAVAILABLE\"}}"

-- no room is left in the journal
abbrev pub history_full : Outcome
history_full = record { status = 429; body = full_body; accepts = false }

-- what stands for an outcome where the journal has a limit
abbrev pub within_limit : ℕ → List Entry → Ask → Outcome → Outcome
within_limit limit entries ask outcome =
    if outcome.accepts && is_full limit entries (entry_of 0 ask) then history_full else outcome

-- what one thread answers an ask behind these entries, where their journal has a limit
abbrev pub StepsTo : (List Entry → Ask → Outcome → Type 0) → ℕ → List Entry → Ask → Outcome → Type 0
StepsTo plain limit entries ask outcome =
    (plainly : Outcome) × plain entries ask plainly × (outcome ≡ within_limit limit entries ask plainly)

-- an ask has one outcome behind a history whose journal has a limit
abbrev pub StepsOnce : (List Entry → Ask → Outcome → Type 0) → Type 0
StepsOnce plain =
    (limit : ℕ) (entries : List Entry) (ask : Ask) (outcome other : Outcome)
    → StepsTo plain limit entries ask outcome → StepsTo plain limit entries ask other → outcome ≡ other
