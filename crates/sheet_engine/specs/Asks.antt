-- Which call an ask is, and who makes it, or its first fault (Google Sheets API v4 reference; RFC 6750 for who asks).
use Rattle.std.specs.Prelude.{◌≡◌, ◌≢◌, ℕ, ◌==◌, Bool, true, false, ◌&&◌, List, Result, Ok, Err}
use Rattle.std.specs.Prelude.{if◌then◌else◌, MatchOption}
use Rattle.std.specs.List.{before_first, after_first}
use Rattle.std.specs.Option.{is_none}
use Rattle.world_model.specs.Book.{PlaceBook}
use Rattle.dimension_ops.specs.World.{book_with}
use Rattle.sheets_http.specs.Routes.{IsRoute}
use Rattle.sheets_http.specs.declared.routes.Route.{Route}
use Rattle.sheets_http.specs.declared.routes.RouteFault.{RouteFault}
use Rattle.sheets_http.specs.declared.routes.RouteFault.TheVariants as unrouted
use Rattle.sheets_http.specs.declared.verb.Verb.{Verb}
use Rattle.sheets_http.specs.declared.verb.Verb.TheVariants as verb
use Rattle.sheets_json.specs.Calls.{call_of}
use Rattle.sheets_json.specs.declared.call.Call.{Call}
use Rattle.sheets_json.specs.declared.call.CallFault.{CallFault}
use Rattle.sheets_json.specs.declared.call.CallFault.TheVariants as uncalled
use Rattle.batch_engine.specs.declared.calls.Caller.{Caller}
use Rattle.desk.specs.declared.entry.Ask.{Ask}
use Rattle.sheet_engine.specs.declared.fault.Fault.{Fault}
use Rattle.sheet_engine.specs.declared.fault.Fault.TheVariants as fault
use Rattle.sheet_engine.specs.declared.asking.Reading.{Reading}
use Rattle.sheet_engine.specs.declared.asking.Reading.TheVariants as reading

-- each call but the one that makes a spreadsheet is on one that is there
abbrev pub names_a_book : Verb → Bool
names_a_book verb.Create = false
names_a_book _ = true

-- ---- the request line

-- the method stands before the first space, the request target behind it (RFC 9112, section 3)
abbrev pub is_space : ℕ → Bool
is_space b = b == 32

abbrev pub method_of : List ℕ → List ℕ
method_of line = before_first is_space line

abbrev pub target_of : List ℕ → List ℕ
target_of line = after_first is_space line

-- ---- the first fault of an ask

-- the call that a body says, or the fault that it says none; no body says that memory ran out, so that line decides
-- nothing
abbrev pub said_by : Result Call CallFault → Result Call Fault
said_by (Ok call) = Ok call
said_by (Err uncalled.BadBody) = Err fault.BadBody
said_by (Err uncalled.EmptyBatch) = Err fault.EmptyBatch
said_by (Err uncalled.NoMemory) = Err fault.BadBody

-- the spreadsheet that the call is on isn't there
abbrev pub lacks_its_book : List PlaceBook → Route → Bool
lacks_its_book books route = names_a_book route.verb && is_none (book_with route.book books)

-- what an ask with this route says, where the spreadsheet is there
abbrev pub said_on : Ask → Route → Result Call Fault
said_on ask route = if ask.coded then Err fault.BadBody else said_by (call_of route ask.body)

abbrev pub asked_on : List PlaceBook → Ask → Route → Result Call Fault
asked_on books ask route = if lacks_its_book books route then Err fault.NoBook else said_on ask route

-- the call of an ask with this route, or its fault; here, too, the line on memory decides nothing
abbrev pub asked_for : List PlaceBook → Ask → Result Route RouteFault → Result Call Fault
asked_for books ask (Ok route) = asked_on books ask route
asked_for books ask (Err unrouted.NoRoute) = Err fault.NoRoute
asked_for books ask (Err unrouted.BadQuery) = Err fault.BadQuery
asked_for books ask (Err unrouted.NoMemory) = Err fault.NoRoute

-- the ask is that call, or has that fault
pub record AsksFor (books : List PlaceBook) (ask : Ask) (asked : Result Call Fault) : Type 0 where
  pub routed : Result Route RouteFault
  pub told : routed ≢ Err unrouted.NoMemory
  pub is_route : IsRoute (method_of ask.target) (target_of ask.target) routed
  pub asked_is : asked ≡ asked_for books ask routed

-- ---- who asks

-- the user makes the call, under the project that the ask names
abbrev pub caller_of : List ℕ → Ask → Caller
caller_of user ask = record { user = user; project = ask.project }

-- the call, if it is one, and who makes it
abbrev pub made_by : Caller → Result Call Fault → Result (Caller × Call) Fault
made_by caller (Ok call) = Ok (caller, call)
made_by caller (Err found) = Err found

-- that user's ask is that call, or has that fault
pub record IsAskedBy (user : List ℕ) (books : List PlaceBook) (ask : Ask)
    (asked : Result (Caller × Call) Fault) : Type 0 where
  pub call : Result Call Fault
  pub asks : AsksFor books ask call
  pub asked_is : asked ≡ made_by (caller_of user ask) call

-- the ask is that call of that caller, or has that fault; that nobody is known is before all others
abbrev pub IsAsked : List PlaceBook → Ask → Result (Caller × Call) Fault → Type 0
IsAsked books ask asked =
    MatchOption ask.user (asked ≡ Err fault.NoUser) (λ user. IsAskedBy user books ask asked)

-- ---- what is read of an ask, whichever spreadsheets there are

abbrev pub read_on : List ℕ → Ask → Route → Reading
read_on user ask route = reading.Routed (caller_of user ask) route (said_on ask route)

-- with this route, or its fault; here, too, the line on memory decides nothing
abbrev pub read_for : List ℕ → Ask → Result Route RouteFault → Reading
read_for user ask (Ok route) = read_on user ask route
read_for user ask (Err unrouted.NoRoute) = reading.Faulty fault.NoRoute
read_for user ask (Err unrouted.BadQuery) = reading.Faulty fault.BadQuery
read_for user ask (Err unrouted.NoMemory) = reading.Faulty fault.NoRoute

-- that is read of that user's ask
pub record IsReadBy (user : List ℕ) (ask : Ask) (read : Reading) : Type 0 where
  pub routed : Result Route RouteFault
  pub told : routed ≢ Err unrouted.NoMemory
  pub is_route : IsRoute (method_of ask.target) (target_of ask.target) routed
  pub read_is : read ≡ read_for user ask routed

-- that is read of the ask
abbrev pub IsRead : Ask → Reading → Type 0
IsRead ask read = MatchOption ask.user (read ≡ reading.Faulty fault.NoUser) (λ user. IsReadBy user ask read)
