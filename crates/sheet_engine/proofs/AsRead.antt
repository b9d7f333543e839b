-- What is read of an ask says, with the spreadsheets, which call it is, or its first fault.
use Rattle.std.proofs.Common.{◌≡◌, ℕ, Bool, true, false, List, Option, Some, None, MatchOption, Result, Ok, Err, refl}
use Rattle.std.proofs.Common.{ap, subst, sym, ◌∙◌}
use Rattle.std.specs.Prelude.{if◌then◌else◌, IfOk, ⊤}
use Rattle.world_model.specs.Book.{PlaceBook}
use Rattle.sheets_http.specs.declared.routes.Route.{Route}
use Rattle.sheets_http.specs.declared.routes.RouteFault.{RouteFault}
use Rattle.sheets_http.specs.declared.routes.RouteFault.TheVariants as unrouted
use Rattle.sheets_json.specs.declared.answer.Answer.{Answer}
use Rattle.sheets_json.specs.declared.call.Call.{Call}
use Rattle.batch_engine.specs.Calls.{HasItsBook}
use Rattle.batch_engine.specs.Effects.{Effect, IsNext}
use Rattle.batch_engine.specs.declared.calls.Caller.{Caller}
use Rattle.desk.specs.declared.entry.Ask.{Ask}
use Rattle.sheet_engine.specs.Answers.{Makes, Performs}
use Rattle.sheet_engine.specs.Asks.{IsAsked, IsAskedBy, IsRead, IsReadBy, asked_for, asked_on, caller_of}
use Rattle.sheet_engine.specs.Asks.{lacks_its_book, made_by, read_for, read_on, said_on}
use Rattle.sheet_engine.specs.declared.asking.Reading.{Reading}
use Rattle.sheet_engine.specs.declared.asking.Reading.TheVariants as reading
use Rattle.sheet_engine.specs.declared.fault.Fault.{Fault}
use Rattle.sheet_engine.specs.declared.fault.Fault.TheVariants as fault
use Rattle.sheet_engine.specs.declared.step.Stepped.{Stepped}
use Rattle.sheet_engine.proofs.OnItsBook.{is_there}

-- the call that it is on these spreadsheets, and who makes it, or its first fault
abbrev on_books : List PlaceBook → Reading → Result (Caller × Call) Fault
on_books books (reading.Faulty found) = Err found
on_books books (reading.Routed caller route said) =
    if lacks_its_book books route then Err fault.NoBook else made_by caller said

module _ (books : List PlaceBook) (ask : Ask) where
  routed_same : (user : List ℕ) (route : Route)
      → on_books books (read_on user ask route) ≡ made_by (caller_of user ask) (asked_on books ask route)
  routed_same user route = go (lacks_its_book books route)
    where
      go : (lacks : Bool) → (if lacks then Err fault.NoBook else made_by (caller_of user ask) (said_on ask route))
          ≡ made_by (caller_of user ask) (if lacks then Err fault.NoBook else said_on ask route)
      go true = refl
      go false = refl

  read_same : (user : List ℕ) (routed : Result Route RouteFault)
      → on_books books (read_for user ask routed) ≡ made_by (caller_of user ask) (asked_for books ask routed)
  read_same user (Ok route) = routed_same user route
  read_same user (Err unrouted.NoRoute) = refl
  read_same user (Err unrouted.BadQuery) = refl
  read_same user (Err unrouted.NoMemory) = refl

  on_books_asked : (read : Reading) → IsRead ask read → IsAsked books ask (on_books books read)
  on_books_asked read is = go ask.user is
    where
      go : (user : Option (List ℕ)) → MatchOption user (read ≡ reading.Faulty fault.NoUser) (λ user. IsReadBy user ask
          read) → MatchOption user (on_books books read ≡ Err fault.NoUser) (λ user. IsAskedBy user books ask
          (on_books books read))
      go None is = ap (on_books books) is
      go (Some user) is = record {
        call = asked_for books ask is.routed;
        asks = record { routed = is.routed; told = is.told; is_route = is.is_route; asked_is = refl };
        asked_is = ap (on_books books) is.read_is ∙ read_same user is.routed;
      }

  -- what is read with a route is what the ask says with it
  pub said_is : (read : Reading) (caller : Caller) (route : Route) (said : Result Call Fault)
      → read ≡ reading.Routed caller route said → IsRead ask read → said ≡ said_on ask route
  said_is read caller route said same is = go ask.user is
    where
      SaidOn : Reading → Type 0
      SaidOn (reading.Faulty found) = ⊤
      SaidOn (reading.Routed caller route said) = said ≡ said_on ask route

      by_route : (user : List ℕ) (routed : Result Route RouteFault) → SaidOn (read_for user ask routed)
      by_route user (Ok route) = refl
      by_route user (Err unrouted.NoRoute) = tt
      by_route user (Err unrouted.BadQuery) = tt
      by_route user (Err unrouted.NoMemory) = tt

      go : (user : Option (List ℕ)) → MatchOption user (read ≡ reading.Faulty fault.NoUser) (λ user. IsReadBy user ask
          read) → said ≡ said_on ask route
      go None is = subst SaidOn (sym is ∙ same) tt
      go (Some user) is = subst SaidOn (sym is.read_is ∙ same) (by_route user is.routed)

  -- ---- what the ask is on these spreadsheets

  pub is_faulty : (read : Reading) (found : Fault) → read ≡ reading.Faulty found → IsRead ask read
      → IsAsked books ask (Err found)
  is_faulty read found same is =
      subst (λ (r : Reading). IsAsked books ask (on_books books r)) same (on_books_asked read is)

  is_routed : (read : Reading) (caller : Caller) (route : Route) (said : Result Call Fault) (lacks : Bool)
      → read ≡ reading.Routed caller route said → IsRead ask read → lacks_its_book books route ≡ lacks
      → IsAsked books ask (if lacks then Err fault.NoBook else made_by caller said)
  is_routed read caller route said lacks same is lacks_is =
      subst (λ (b : Bool). IsAsked books ask (if b then Err fault.NoBook else made_by caller said)) lacks_is
      (subst (λ (r : Reading). IsAsked books ask (on_books books r)) same (on_books_asked read is))

  pub is_lacking : (read : Reading) (caller : Caller) (route : Route) (said : Result Call Fault)
      → read ≡ reading.Routed caller route said → IsRead ask read → lacks_its_book books route ≡ true
      → IsAsked books ask (Err fault.NoBook)
  is_lacking read caller route said same is lacks = is_routed read caller route said true same is lacks

  pub is_said : (read : Reading) (caller : Caller) (route : Route) (said one : Result Call Fault)
      → read ≡ reading.Routed caller route said → IsRead ask read → lacks_its_book books route ≡ false → said ≡ one
      → IsAsked books ask (made_by caller one)
  is_said read caller route said one same is there one_is =
      subst (λ (s : Result Call Fault). IsAsked books ask (made_by caller s)) one_is
      (is_routed read caller route said false same is there)

  -- a call that was read is on its spreadsheet
  pub has_its_book : (read : Reading) (caller : Caller) (route : Route) (said : Result Call Fault) (call : Call)
      → read ≡ reading.Routed caller route said → IsRead ask read → lacks_its_book books route ≡ false → said ≡ Ok call
      → HasItsBook call books
  has_its_book read caller route said call same is there call_is =
      subst (λ (s : Result Call Fault). IfOk s (λ call. HasItsBook call books))
      (sym (said_is read caller route said same is) ∙ call_is) (is_there books route ask false (sym there) refl)

  -- ---- what is made of them

  pub refuses : (found : Fault) (told : Result Answer Fault) (next : Option (List PlaceBook))
      → IsAsked books ask (Err found) → told ≡ Err found → next ≡ None → Makes books ask told next
  refuses found told next asked told_is none = record {
    asked = Err found;
    effect = Effect.Nothing;
    is_step = record { is_asked = asked; ends = (told_is, refl) };
    is_next = subst (λ (o : Option (List PlaceBook)). IsNext books Effect.Nothing o) (sym none) tt;
  }

  pub performs : {E : Type 0} (caller : Caller) (call : Call) (stepped : Result Stepped E)
      → IsAsked books ask (Ok (caller, call)) → IfOk stepped (λ step. Performs caller books call step.told step.next)
      → IfOk stepped (λ step. Makes books ask step.told step.next)
  performs caller call (Ok step) asked made = record {
    asked = Ok (caller, call);
    effect = made.effect;
    is_step = record { is_asked = asked; ends = made.is_called };
    is_next = made.is_next;
  }
  performs caller call (Err none) asked made = tt
