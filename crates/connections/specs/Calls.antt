-- Requests that are answered by calls of a desk.
use Rattle.std.specs.Prelude.{◌≡◌, ℕ, Bool, List, ◌++◌, Option, IfSome, codes}
use Rattle.std.specs.Option.{option_and_then, option_map_or}
use Rattle.sheets_http.specs.declared.request.Wire.{Wire}
use Rattle.sheets_http.specs.Responses.{text_of_response}
use Rattle.sheets_http.specs.Users.{user_of}
use Rattle.history_lock.specs.declared.pass.Pass.{Pass}
use Rattle.desk.specs.declared.desk.Desk.{Desk}
use Rattle.desk.specs.declared.entry.Ask.{Ask}
use Rattle.desk.specs.declared.entry.Entry.{Entry}
use Rattle.desk.specs.declared.entry.Noted.{Noted}
use Rattle.desk.specs.declared.entry.Reply.{Reply}
use Rattle.desk.specs.Steps.{Outcome}
use Rattle.desk.specs.Points.{IsCallAt, AreCountsOf}
use Rattle.desk.specs.Desks.{pair_at, callers_at}
use Rattle.conversation.specs.Responses.{no_memory_text}

-- the tokens that are known, each with its user, where there is a table of them
abbrev pub UserTable : Type 0
UserTable = Option (List (List ℕ × List ℕ))

-- what a request asks a desk: the user is that of its token, and its target has the method before it
abbrev pub ask_of : UserTable → Wire → Ask
ask_of users wire = record {
  user = option_and_then (user_of users) wire.user_token;
  project = wire.project;
  target = wire.method ++ codes " " ++ wire.target;
  coded = wire.coded;
  body = wire.body;
}

-- the response that a reply makes; a reply without a body is that for want of memory
abbrev pub response_of : Bool → Reply → List ℕ
response_of close reply =
    option_map_or (λ body. text_of_response reply.status close body) reply.body (no_memory_text close)

-- A request of this caller is answered by a call at a point of the desk's list: the caller had seen the items before,
-- and has then seen those after. `failures` and `steady` are what a keeper tells of its faults.
pub record IsAnswer {E K W A : Type 0} (plain : List Entry → Ask → Outcome → Type 0) (failures : K → ℕ)
    (steady : K → Bool) (desk : Desk E K W A) (users : UserTable) (caller : ℕ) (before : List Noted) (wire : Wire)
    (after : List Noted) (response : List ℕ) : Type 0 where
  pub reply : Reply
  pub call : IsCallAt plain (pair_at desk) (callers_at desk) caller (ask_of users wire) before after reply
  -- where there was a call, its counts of faults are those of a keeper before it and after it
  pub counts : IfSome reply.body
      (λ _. (earlier : K) × (later : K) × AreCountsOf failures steady reply.faults earlier later)
  pub response_is : response ≡ response_of wire.close reply

-- who calls a desk for a connection: the desk, the users, and the pass
pub record Calling (E K W A : Type 0) : Type 0 where
  pub desk : Desk E K W A
  pub users : UserTable
  pub pass : Pass Noted
