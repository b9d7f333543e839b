-- A law of replies: an ask that has an outcome gives its request a reply.
use Rattle.std.specs.Prelude.{ℕ, List}
use Rattle.sheets_http.specs.declared.request.Wire.{Wire}
use Rattle.desk.specs.declared.entry.Ask.{Ask}
use Rattle.desk.specs.declared.entry.Entry.{Entry}
use Rattle.desk.specs.Steps.{Outcome}
use Rattle.connections.specs.Alone.{IsReply}
use Rattle.connections.specs.Calls.{UserTable, ask_of}

-- a request has a reply behind a history where what it asks has an outcome there
abbrev pub HasReply : (List Entry → Ask → Outcome → Type 0) → Type 0
HasReply plain =
    (users : UserTable) (history : List Entry) (request : Wire) (outcome : Outcome)
    → plain history (ask_of users request) outcome
    → (history' : List Entry) × (response : List ℕ) × IsReply plain users history request history' response
