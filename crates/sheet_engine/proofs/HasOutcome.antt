-- Each ask is a call or has a fault, and one that looks or fails has an outcome.
use Rattle.std.proofs.Common.{◌≡◌, ℕ, Bool, true, false, cond, List, [], ◌∷◌, ◌++◌, map, append_assoc, refl, sym, subst}
use Rattle.std.specs.Prelude.{IsTrue, Option, Some, None, MatchOption, Result, Ok, Err, IfOk, if◌then◌else◌}
use Rattle.std.specs.List.{All, AllByRecursion, AllZip, concat}
use Rattle.std.specs.Option.{IsSome}
use Rattle.std.specs.Str.{bytes_eq}
use Rattle.std.proofs.lemmas.Slice.Eq.{bytes_eq-Decides}
use Rattle.world_model.specs.Book.{PlaceBook}
use Rattle.world_model.specs.Sheet.{PlaceSheet}
use Rattle.world_model.specs.Sound.{IsSound}
use Rattle.dimension_ops.specs.World.{book_with}
use Rattle.sheets_http.specs.RouteLaws.{HasRoute}
use Rattle.sheets_http.specs.declared.routes.Route.{Route}
use Rattle.sheets_http.specs.declared.routes.RouteFault.{RouteFault}
use Rattle.sheets_http.specs.declared.routes.RouteFault.TheVariants as unrouted
use Rattle.sheets_json.specs.declared.answer.Answer.{Answer}
use Rattle.sheets_json.specs.declared.call.Call.{Call}
use Rattle.batch_engine.specs.Answered.{LooksAnswered, looks_or_clears}
use Rattle.batch_engine.specs.Calls.{HasItsBook}
use Rattle.batch_engine.specs.Effects.{Effect}
use Rattle.batch_engine.specs.declared.calls.Caller.{Caller}
use Rattle.desk.specs.Steps.{Outcome}
use Rattle.desk.specs.declared.entry.Ask.{Ask}
use Rattle.desk.specs.declared.entry.Entry.{Entry}
use Rattle.sheet_engine.specs.Answered.{AsksAnswered, HasAnswer, LooksOrFails}
use Rattle.sheet_engine.specs.Answers.{Ends, as_fault, body_of, outcome_of}
use Rattle.sheet_engine.specs.Asks.{IsAsked, IsAskedBy, IsRead, IsReadBy, asked_for, asked_on, caller_of, lacks_its_book, made_by, method_of, read_for, said_on, target_of}
use Rattle.sheet_engine.specs.Dump.{Dump, IsLine, calls_on, dump_calls, owner_of, read_of}
use Rattle.sheet_engine.specs.Replay.{Plain, Stands}
use Rattle.sheet_engine.specs.declared.asking.Reading.{Reading}
use Rattle.sheet_engine.specs.declared.asking.Reading.TheVariants as reading
use Rattle.sheet_engine.specs.declared.fault.Fault.{Fault}
use Rattle.sheet_engine.specs.declared.fault.Fault.TheVariants as fault
use Rattle.sheet_engine.proofs.OnItsBook.{is_there}
use Rattle.sheet_engine.proofs.Once.{books_sound}

-- ---- asks

module _ (has_route : HasRoute) (ask : Ask) where
  some_read : ¬ ((read : Reading) → ¬ (IsRead ask read))
  some_read none = by_user ask.user none
    where
      by_user : (user : Option (List ℕ))
          → ¬ ((read : Reading)
          → ¬ (MatchOption user (read ≡ reading.Faulty fault.NoUser) (λ user. IsReadBy user ask read)))
      by_user None none = none (reading.Faulty fault.NoUser) refl
      by_user (Some user) none = has_route (method_of ask.target) (target_of ask.target) (λ routed told is_route.
          none (read_for user ask routed)
          (record { routed = routed; told = told; is_route = is_route; read_is = refl }))

  some_asked : (books : List PlaceBook)
      → ¬ ((asked : Result (Caller × Call) Fault) → ¬ (IsAsked books ask asked))
  some_asked books none = by_user ask.user none
    where
      by_user : (user : Option (List ℕ))
          → ¬ ((asked : Result (Caller × Call) Fault)
          → ¬ (MatchOption user (asked ≡ Err fault.NoUser) (λ user. IsAskedBy user books ask asked)))
      by_user None none = none (Err fault.NoUser) refl
      by_user (Some user) none = has_route (method_of ask.target) (target_of ask.target) (λ routed told is_route.
          let call = asked_for books ask routed in
          none (made_by (caller_of user ask) call) (record {
            call = call;
            asks = record { routed = routed; told = told; is_route = is_route; asked_is = refl };
            asked_is = refl;
          }))

-- ---- calls are on spreadsheets that are there

module _ (books : List PlaceBook) (ask : Ask) where
  abbrev IsOn : Result Call Fault → Type 0
  IsOn asked = IfOk asked (λ call. HasItsBook call books)

  on_route : (route : Route) → IsOn (asked_on books ask route)
  on_route route = by_test (lacks_its_book books route) refl
    where
      by_test : (lacks : Bool) → lacks ≡ lacks_its_book books route
          → IsOn (if lacks then Err fault.NoBook else said_on ask route)
      by_test true is = tt
      by_test false is = is_there books route ask false is refl

  on_its_book : (routed : Result Route RouteFault) → IsOn (asked_for books ask routed)
  on_its_book (Ok route) = on_route route
  on_its_book (Err unrouted.NoRoute) = tt
  on_its_book (Err unrouted.BadQuery) = tt
  on_its_book (Err unrouted.NoMemory) = tt

  abbrev IsMadeOn : Result (Caller × Call) Fault → Type 0
  IsMadeOn asked = IfOk asked (λ made. HasItsBook made.1 books)

  made_on : (caller : Caller) (asked : Result Call Fault) → IsOn asked → IsMadeOn (made_by caller asked)
  made_on caller (Ok call) on = on
  made_on caller (Err found) on = tt

  asked_on_its_book : (asked : Result (Caller × Call) Fault) → IsAsked books ask asked → IsMadeOn asked
  asked_on_its_book asked is = by_user ask.user is
    where
      by_user : (user : Option (List ℕ))
          → MatchOption user (asked ≡ Err fault.NoUser) (λ user. IsAskedBy user books ask asked) → IsMadeOn asked
      by_user None is = subst IsMadeOn (sym is) tt
      by_user (Some user) is =
          subst IsMadeOn (sym is.asked_is)
          (made_on (caller_of user ask) is.call
          (subst IsOn (sym is.asks.asked_is) (on_its_book is.asks.routed)))

-- ---- outcomes

some_end : (books : List PlaceBook) (asked : Result (Caller × Call) Fault) → HasAnswer books asked
    → ¬ ((told : Result Answer Fault) (effect : Effect) → ¬ (Ends books asked told effect))
some_end books (Ok (caller, call)) has none = has (λ answer effect answered.
    none (as_fault answer) effect (record { answer = answer; answered = answered; told_is = refl }))
some_end books (Err found) has none = none (Err found) Effect.Nothing (refl, refl)

has_answer : LooksAnswered → (books : List PlaceBook) → All IsSound books → (asked : Result (Caller × Call) Fault)
    → IfOk asked (λ made. HasItsBook made.1 books) → LooksOrFails asked → HasAnswer books asked
has_answer looks books sound (Ok (caller, call)) on is = looks.answered caller call books sound is on
has_answer looks books sound (Err found) on is = tt

some_outcome : (entries : List Entry) (books : List PlaceBook) (ask : Ask) (asked : Result (Caller × Call) Fault)
    → Stands books entries → IsAsked books ask asked → HasAnswer books asked
    → ¬ ((outcome : Outcome) → ¬ (Plain entries ask outcome))
some_outcome entries books ask asked stands is_asked has none = some_end books asked has (λ told effect ends.
    none (outcome_of asked told) (record {
      world = stands.world;
      replays = stands.replays;
      effect = effect;
      answered = record {
        books = books;
        seen = stands.seen;
        asked = asked;
        told = told;
        is_step = record { is_asked = is_asked; ends = ends };
        outcome_is = refl;
      };
    }))

-- ---- dumps

module _ (looks : LooksAnswered) (books : List PlaceBook) (sound : All IsSound books) where
  -- the call looks at a spreadsheet that is there
  record Looks (made : Caller × Call) : Type 0 where
    is : IsTrue (looks_or_clears made.1)
    there : HasItsBook made.1 books

  some_lines : (made : List (Caller × Call)) → AllByRecursion Looks made
      → ¬ ((lines : List (List ℕ)) → ¬ (AllZip (IsLine books) made lines))
  some_lines [] look none = none [] tt
  some_lines (one ∷ made) (is, look) none =
      looks.answered one.0 one.1 books sound is.is is.there (λ answer effect answered.
      some_lines made look (λ lines each.
      none ((body_of (as_fault answer) ++ 10 ∷ []) ∷ lines) (
        record {
          told = as_fault answer;
          effect = effect;
          called = record { answer = answer; answered = answered; told_is = refl };
          line_is = refl;
        },
        each,
      )))

  all_look : (one others : List (Caller × Call)) → AllByRecursion Looks one → AllByRecursion Looks others
      → AllByRecursion Looks (one ++ others)
  all_look [] others look more = more
  all_look (first ∷ one) others look more = (look.0, all_look one others look.1 more)

  module _ (book : PlaceBook) (there : IsSome (book_with book.id books)) where
    reads_look : (sheets : List PlaceSheet)
        → AllByRecursion Looks (map (λ call. (owner_of book, call)) (map (read_of book) sheets))
    reads_look [] = tt
    reads_look (sheet ∷ sheets) = (record { is = refl; there = there }, reads_look sheets)

    calls_look : AllByRecursion Looks (calls_on book book.sheets)
    calls_look = (record { is = refl; there = there }, reads_look book.sheets)

  dump_looks : (some : List PlaceBook) → AllByRecursion (λ book. IsSome (book_with book.id books)) some
      → AllByRecursion Looks (dump_calls some)
  dump_looks [] there = tt
  dump_looks (book ∷ some) there =
      all_look (calls_on book book.sheets) (dump_calls some) (calls_look book there.0) (dump_looks some there.1)

found_behind : (book first : PlaceBook) (same : Bool) (rest : Option PlaceBook) → IsSome rest
    → IsSome (cond same (Some first) rest)
found_behind book first true rest some = refl
found_behind book first false rest some = some

-- each spreadsheet is found by its id, or one before it is
found_itself : (book : PlaceBook) (before books : List PlaceBook)
    → IsSome (book_with book.id (before ++ book ∷ books))
found_itself book [] books =
    subst (λ b. IsSome (cond b (Some book) (book_with book.id books))) (sym ((bytes_eq-Decides book.id book.id).1 refl))
    refl
found_itself book (first ∷ before) books =
    found_behind book first (bytes_eq first.id book.id) (book_with book.id (before ++ book ∷ books))
    (found_itself book before books)

all_found : (before some : List PlaceBook)
    → AllByRecursion (λ book. IsSome (book_with book.id (before ++ some))) some
all_found before [] = tt
all_found before (book ∷ some) = (
  found_itself book before some,
  subst (λ books. AllByRecursion (λ (one : PlaceBook). IsSome (book_with one.id books)) some)
      (append_assoc before (book ∷ []) some) (all_found (before ++ book ∷ []) some),
)

some_dump : LooksAnswered → (entries : List Entry) (books : List PlaceBook) → Stands books entries
    → ¬ ((text : List ℕ) → ¬ (Dump entries text))
some_dump looks entries books stands none =
    let sound = books_sound books stands.world.books stands.seen.each in
    some_lines looks books sound (dump_calls books) (dump_looks looks books sound books (all_found [] books))
    (λ lines each. none (concat lines) (record {
      books = books;
      stands = stands;
      are_lines = record { lines = lines; each = each; text_is = refl };
    }))

pub asks_answered : HasRoute → LooksAnswered → AsksAnswered
asks_answered has_route looks = record {
  read = λ ask. some_read has_route ask;
  asked = λ books ask. some_asked has_route ask books;
  on_its_book = asked_on_its_book;
  sound = λ entries books stands. books_sound books stands.world.books stands.seen.each;
  where_answered = some_outcome;
  outcome = λ entries books ask asked stands is_asked is.
      some_outcome entries books ask asked stands is_asked
      (has_answer looks books (books_sound books stands.world.books stands.seen.each) asked
      (asked_on_its_book books ask asked is_asked) is);
  dumped = some_dump looks;
}
