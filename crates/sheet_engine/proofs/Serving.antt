-- What is answered is served, and what is accepted has a user and no content coding.
use Rattle.std.proofs.Common.{◌≡◌, ℕ, Bool, true, false, List, Option, Some, None, MatchOption, Result, Ok, Err, refl}
use Rattle.std.proofs.Common.{rules, sym, subst}
use Rattle.std.specs.Prelude.{if◌then◌else◌, IsSome, IsTrue, ◌==◌, ⊤}
use Rattle.std.specs.List.{list_any}
use Rattle.std.proofs.lemmas.Bool.{false≢true}
use Rattle.world_model.specs.Book.{PlaceBook}
use Rattle.dimension_ops.specs.declared.rule.Rule.{Rule}
use Rattle.sheets_http.specs.declared.routes.Route.{Route}
use Rattle.sheets_http.specs.declared.routes.RouteFault.{RouteFault}
use Rattle.sheets_http.specs.declared.routes.RouteFault.TheVariants as unrouted
use Rattle.sheets_json.specs.declared.answer.Answer.{Answer}
use Rattle.sheets_json.specs.declared.call.Call.{Call}
use Rattle.batch_engine.specs.declared.calls.Caller.{Caller}
use Rattle.desk.specs.Steps.{IsServed, served}
use Rattle.desk.specs.declared.entry.Ask.{Ask}
use Rattle.sheet_engine.specs.Asks.{IsAsked, IsAskedBy, asked_on, asked_for, caller_of, lacks_its_book, made_by}
use Rattle.sheet_engine.specs.Asks.{said_by}
use Rattle.sheets_json.specs.Calls.{call_of}
use Rattle.sheet_engine.specs.Answers.{is_accepted, outcome_of, status_of, status_of_fault, status_of_rule}
use Rattle.sheet_engine.specs.declared.fault.Fault.{Fault}
use Rattle.sheet_engine.specs.declared.fault.Fault.TheVariants as fault

-- it is a call, and no fault
abbrev pub IsCall : {A : Type 0} → Result A Fault → Type 0
IsCall (Ok call) = ⊤
IsCall (Err found) = ⊥

-- ---- what is a call has no content coding

coding_free : (books : List PlaceBook) (ask : Ask) (route : Route) → IsCall (asked_on books ask route)
    → ask.coded ≡ false
coding_free books ask route is =
    go (lacks_its_book books route) ask.coded (said_by (call_of route ask.body)) is
  where
    go : (lacks coded : Bool) (said : Result Call Fault)
        → IsCall (if lacks then Err fault.NoBook else if coded then Err fault.BadBody else said) → coded ≡ false
    go true coded said is = absurd is
    go false true said is = absurd is
    go false false said is = refl

uncoded : (books : List PlaceBook) (ask : Ask) (routed : Result Route RouteFault) → IsCall (asked_for books ask routed)
    → ask.coded ≡ false
uncoded books ask (Ok route) is = coding_free books ask route is
uncoded books ask (Err unrouted.NoRoute) is = absurd is
uncoded books ask (Err unrouted.BadQuery) is = absurd is
uncoded books ask (Err unrouted.NoMemory) is = absurd is

was_call : (caller : Caller) (call : Result Call Fault) → IsCall (made_by caller call) → IsCall call
was_call caller (Ok call) is = tt
was_call caller (Err found) is = absurd is

-- ---- what is a call has a user

-- a call's user is known, and its body has no content coding
pub record IsWhole (ask : Ask) : Type 0 where
  pub known : IsSome ask.user
  pub coded_is : ask.coded ≡ false

pub whole : (books : List PlaceBook) (ask : Ask) (asked : Result (Caller × Call) Fault) → IsAsked books ask asked
    → IsCall asked → IsWhole ask
whole books ask asked is call = go ask.user refl is
  where
    go : (user : Option (List ℕ)) → ask.user ≡ user
        → MatchOption user (asked ≡ Err fault.NoUser) (λ user. IsAskedBy user books ask asked) → IsWhole ask
    go None known is = absurd (subst IsCall is call)
    go (Some user) known is = record {
      known = subst IsSome (sym known) refl;
      coded_is = uncoded books ask is.asks.routed
          (subst IsCall is.asks.asked_is (was_call (caller_of user ask) is.call (subst IsCall is.asked_is call)));
    }

-- what is accepted is a call
pub accepted_call : (asked : Result (Caller × Call) Fault) (told : Result Answer Fault) → is_accepted asked told ≡ true
    → IsCall asked
accepted_call (Ok call) told is = tt
accepted_call (Err found) told is = absurd (false≢true is)

-- ---- statuses

abbrev IsServedStatus : ℕ → Type 0
IsServedStatus status = IsTrue (list_any (λ one. one == status) served)

served_rule : (broken : Rule) → IsServedStatus (status_of_rule broken)
served_rule = search rules

served_fault : (found : Fault) → IsServedStatus (status_of_fault found)
served_fault fault.NoUser = refl
served_fault fault.NoRoute = refl
served_fault fault.NoBook = refl
served_fault fault.BadQuery = refl
served_fault fault.BadBody = refl
served_fault fault.EmptyBatch = refl
served_fault (fault.Broken at broken) = served_rule broken

served_told : (told : Result Answer Fault) → IsServedStatus (status_of told)
served_told (Ok shown) = refl
served_told (Err found) = served_fault found

answered_status : (asked : Result (Caller × Call) Fault) (told : Result Answer Fault) → is_accepted asked told ≡ true
    → status_of told ≡ 200
answered_status asked (Ok shown) is = refl
answered_status (Ok call) (Err found) is = absurd (false≢true is)
answered_status (Err none) (Err found) is = absurd (false≢true is)

pub served_outcome : (books : List PlaceBook) (ask : Ask) (asked : Result (Caller × Call) Fault)
    (told : Result Answer Fault) → IsAsked books ask asked → IsServed ask (outcome_of asked told)
served_outcome books ask asked told is = record {
  status_is = served_told told;
  accepted = λ accepts.
      let w = whole books ask asked is (accepted_call asked told accepts) in
      (answered_status asked told accepts, w.known, w.coded_is);
}
