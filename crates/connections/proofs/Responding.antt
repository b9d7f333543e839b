-- Replies of a desk's calls as responses.
use Rattle.std.proofs.Common.{◌≡◌, ℕ, Bool, true, false, List, [], ◌∷◌, ◌++◌, length, refl, sym, ap, subst, ◌∙◌, rules}
use Rattle.std.specs.Prelude.{Option, Some, None, IfSome, ◌≢◌, ◌<◌, ◌==◌, ◌&&◌, if◌then◌else◌, IsTrue}
use Rattle.std.specs.Option.{option_map_or}
use Rattle.std.specs.List.{list_any}
use Rattle.history_lock.specs.History.{StartsWith}
use Rattle.sheets_http.specs.Responses.{IsServedStatus, text_of_response}
use Rattle.sheets_http.specs.declared.request.Wire.{Wire}
use Rattle.desk.specs.declared.entry.Ask.{Ask}
use Rattle.desk.specs.declared.entry.Entry.{Entry}
use Rattle.desk.specs.declared.entry.Noted.{Noted}
use Rattle.desk.specs.declared.entry.Noted.TheVariants as noted
use Rattle.desk.specs.declared.entry.Reply.{Reply}
use Rattle.desk.specs.Steps.{Outcome, IsServed, served, entry_of, is_full, StepsTo, history_full}
use Rattle.desk.specs.declared.desk.Desk.{Desk}
use Rattle.desk.specs.Desks.{pair_at, callers_at}
use Rattle.desk.specs.Points.{as_one_thread, as_out_of_memory, as_unavailable, IsCallAt, AreCountsOf, caller_of, entries_of, last_counted}
use Rattle.conversation.specs.declared.replies.Said.{Said}
use Rattle.conversation.specs.declared.replies.Said.TheVariants as said
use Rattle.conversation.specs.declared.ended.Ended.{Ended}
use Rattle.conversation.specs.Conversation.{Moment, IsConversation}
use Rattle.conversation.specs.Responses.{IsSaid, no_memory_text}
use Rattle.connections.specs.Calls.{UserTable, IsAnswer, ask_of, response_of}
use Rattle.connections.proofs.Histories.{starts_whole, starts_through, nothing_behind}
use Rattle.connections.proofs.Conversations.{conversation_goes}

-- ---- the status of a reply

-- each status of a list is one of those, as each of the list is
served_too : (status : ℕ) → IsTrue (list_any (λ s. s == status) served) → IsServedStatus status
served_too status h = search (rules, h)

module _ (plain : List Entry → Ask → Outcome → Type 0)
    (is_served : (entries : List Entry) (ask : Ask) (outcome : Outcome) → plain entries ask outcome
    → IsServed ask outcome) where
  -- what one thread answers has a status that a response has
  steps_served : (limit : ℕ) (es : List Entry) (ask : Ask) (o : Outcome) → StepsTo plain limit es ask o
      → IsServedStatus o.status
  steps_served limit es ask o (plainly, made, is) =
      subst (λ (p : Outcome). IsServedStatus p.status) (sym is)
      (cases (plainly.accepts && is_full limit es (entry_of 0 ask)))
    where
      cases : (b : Bool) → IsServedStatus (if b then history_full else plainly).status
      cases true = search rules
      cases false = served_too plainly.status (is_served es ask plainly made).status_is

  -- a reply with a body has a status that a response has
  pub call_served : (pair : ℕ × ℕ) (callers caller : ℕ) (ask : Ask) (before after : List Noted) (reply : Reply)
      → IsCallAt plain pair callers caller ask before after reply → IfSome reply.body (λ _. IsServedStatus reply.status)
  call_served pair callers caller ask before after reply call = elim call.happens.comes_to [
    | as_one_thread is ↦ subst (λ (o : Option (List ℕ)). IfSome o (λ _. IsServedStatus reply.status)) (sym is.body_is)
        (subst IsServedStatus (sym is.status_is) (steps_served pair.0 (entries_of call.told) ask is.outcome is.steps))
    | as_unavailable is ↦ subst (λ (o : Option (List ℕ)). IfSome o (λ _. IsServedStatus reply.status)) (sym is.body_is)
        (subst IsServedStatus (sym is.status_is) (search rules))
    | as_out_of_memory is ↦
        subst (λ (o : Option (List ℕ)). IfSome o (λ _. IsServedStatus reply.status)) (sym is.body_is)
        (search rules)
  ]

-- the text of a reply with that body
pub told_text : (close : Bool) (reply : Reply) (body bytes text : List ℕ) → reply.body ≡ Some body → bytes ≡ body
    → text ≡ text_of_response reply.status close bytes → text ≡ response_of close reply
told_text close reply body bytes text some same is =
    is ∙ ap (λ (b : List ℕ). text_of_response reply.status close b) same
    ∙ sym (ap (λ (o : Option (List ℕ)). option_map_or (λ b. text_of_response reply.status close b) o
    (no_memory_text close)) some)

-- ---- answers

abbrev no_memory : (pair : ℕ × ℕ) (told : List Noted) → Reply
no_memory pair told = record {
  status = 507;
  body = None;
  at = length (entries_of told);
  faults = (last_counted pair.1 told, last_counted pair.1 told);
}

-- what is true of every value is true of one that may be there
anyway : {A : Type 0} {P : A → Type 0} (o : Option A) → ((a : A) → P a) → IfSome o P
anyway None always = tt
anyway (Some a) always = always a

module _ {E K W A : Type 0} (plain : List Entry → Ask → Outcome → Type 0) (failures : K → ℕ) (steady : K → Bool)
    (desk : Desk E K W A) (users : UserTable) (caller : ℕ) where
  -- what is said of a call's reply is said of an answer
  pub said_answer : (before : List Noted) (wire : Wire) (after : List Noted) (reply : Reply) (ask : Ask)
      → ask ≡ ask_of users wire → IsCallAt plain (pair_at desk) (callers_at desk) caller ask before after reply
      → (earlier : K) × (later : K) × AreCountsOf failures steady reply.faults earlier later
      → (what : Said) → IsSaid (λ response. response ≡ response_of wire.close reply) wire.close what
      → IsSaid (IsAnswer plain failures steady desk users caller before wire after) wire.close what
  said_answer before wire after reply ask same call counts what h = cases what h
    where
      answer : (response : List ℕ) → response ≡ response_of wire.close reply
          → IsAnswer plain failures steady desk users caller before wire after response
      answer response is = record {
        reply = reply;
        call = subst (λ (a : Ask). IsCallAt plain (pair_at desk) (callers_at desk) caller a before after reply) same
            call;
        counts = anyway reply.body (λ body. counts);
        response_is = is;
      }

      cases : (what : Said) → IsSaid (λ response. response ≡ response_of wire.close reply) wire.close what
          → IsSaid (IsAnswer plain failures steady desk users caller before wire after) wire.close what
      cases (said.Response bytes) h = answer bytes h
      cases said.Constant h = answer (no_memory_text wire.close) h
      cases said.Lost h = (h.0, answer h.0 h.1)

  -- a request for whose ask no memory is found is answered at once
  pub answered_for_memory : (told : List Noted) (wire : Wire)
      → IsAnswer plain failures steady desk users caller told wire told (no_memory_text wire.close)
  answered_for_memory told wire = record {
    reply = no_memory (pair_at desk) told;
    call = record {
      told = told;
      begins = starts_whole told;
      others = record {
        not_own = nothing_behind (λ item. caller_of item ≢ caller) told;
        numbered = nothing_behind (λ item. caller_of item < callers_at desk) told;
      };
      happens = record {
        at_is = refl;
        comes_to = as_out_of_memory (record { status_is = refl; body_is = refl; item = refl; counts_are = refl });
      };
    };
    counts = tt;
    response_is = refl;
  }

  added : (told : List Noted) (b : Bool) (item : Noted) → StartsWith (if b then told ++ item ∷ [] else told) told
  added told true item = (item ∷ [], refl)
  added told false item = starts_whole told

  -- behind a call the list begins with what stood there before it
  call_goes : (ask : Ask) (before after : List Noted) (reply : Reply)
      → IsCallAt plain (pair_at desk) (callers_at desk) caller ask before after reply → StartsWith after before
  call_goes ask before after reply call =
      starts_through after call.told before (elim call.happens.comes_to [
        | as_one_thread is ↦ subst (λ (l : List Noted). StartsWith l call.told) (sym is.item)
            (added call.told is.outcome.accepts (noted.Entry (entry_of caller ask)))
        | as_unavailable is ↦ subst (λ (l : List Noted). StartsWith l call.told) (sym is.item)
            (noted.Mark (entry_of caller ask) reply.faults.0 reply.faults.1 ∷ [], refl)
        | as_out_of_memory is ↦
            subst (λ (l : List Noted). StartsWith l call.told) (sym is.item) (starts_whole call.told)
      ]) call.begins

  pub served_goes : (room : ℕ) (stream : Option (List ℕ)) (before after : Moment (List Noted)) (end : Ended)
      → IsConversation (IsAnswer plain failures steady desk users caller) room stream before after end
      → StartsWith after.state before.state
  served_goes = conversation_goes (IsAnswer plain failures steady desk users caller) (λ s t. StartsWith t s)
      starts_whole (λ s t u p q. starts_through u t s q p)
      (λ s wire t response answer. call_goes (ask_of users wire) s t answer.reply answer.call)
