-- An ask has one outcome behind a history, and a history makes one world.
use Rattle.std.proofs.Common.{◌≡◌, ◌≢◌, ℕ, refl, sym, ap, subst, ◌∙◌, List, [], ◌∷◌, ◌++◌, Result, Ok, Err}
use Rattle.std.proofs.Common.{Option, Some, None, MatchOption}
use Rattle.std.specs.List.{All, AllZip, concat}
use Rattle.std.proofs.lemmas.Bool.{false≢true}
use Rattle.std.proofs.lemmas.List.Elements.{All-cons, All-nil}
use Rattle.world_model.specs.Book.{NameBook, PlaceBook}
use Rattle.world_model.specs.Laws.{StandsForApart}
use Rattle.world_model.specs.Sound.{IsSound}
use Rattle.world_model.specs.StandsFor.{BookStandsFor}
use Rattle.world_model.specs.Counts.{filled_in}
use Rattle.world_model.specs.World.{NameWorld}
use Rattle.dimension_ops.specs.World.{opening_world}
use Rattle.sheets_http.specs.Queries.{fits_query, members_of}
use Rattle.sheets_http.specs.Routes.{GivesLast, item, other, HasOneCall, IsRoute, part, path_of, query_of, raw_segments}
use Rattle.sheets_http.specs.declared.routes.Route.{Route}
use Rattle.sheets_http.specs.declared.routes.RouteFault.{RouteFault}
use Rattle.sheets_http.specs.declared.routes.RouteFault.TheVariants as unrouted
use Rattle.sheets_http.specs.declared.verb.Verb.{Verb}
use Rattle.sheets_json.specs.declared.answer.Answer.{Answer}
use Rattle.sheets_json.specs.declared.call.Call.{Call}
use Rattle.batch_engine.specs.Effects.{Effect, world_after}
use Rattle.batch_engine.specs.Laws.{CallsAnsweredOnce}
use Rattle.batch_engine.specs.declared.calls.Caller.{Caller}
use Rattle.desk.specs.Histories.{asked_again}
use Rattle.desk.specs.Steps.{HasOneCount, HasOneDump, HasOneOutcome, Outcome}
use Rattle.desk.specs.declared.entry.Ask.{Ask}
use Rattle.desk.specs.declared.entry.Entry.{Entry}
use Rattle.sheet_engine.specs.Answers.{Ends, IsStep, as_fault, body_of, outcome_of}
use Rattle.sheet_engine.specs.Asks.{AsksFor, IsAsked, IsAskedBy, asked_for, caller_of, made_by, method_of, target_of}
use Rattle.sheet_engine.specs.Dump.{AreLines, Dump, IsLine, dump_calls}
use Rattle.sheet_engine.specs.Replay.{Cells, IsAnsweredOn, Plain, ReplaysFrom}
use Rattle.sheet_engine.specs.declared.fault.Fault.{Fault}
use Rattle.sheet_engine.specs.declared.fault.Fault.TheVariants as fault

-- ---- routes

-- the range and the id behind five segments
last_once : (verb : Verb) (last range id range' id' : List ℕ) → GivesLast verb last range id
    → GivesLast verb last range' id' → (range ≡ range') × (id ≡ id')
last_once verb last range id range' id' (item is none same) (item is' none' same') =
    (none ∙ sym none', same ∙ sym same')
last_once verb last range id range' id' (item is none same) (other not same' none') = absurd (not is)
last_once verb last range id range' id' (other not same none) (item is none' same') = absurd (not is)
last_once verb last range id range' id' (other not same none) (other not' same' none') =
    (same ∙ sym same', none ∙ sym none')

abbrev route_as : Verb → List ℕ → List ℕ → List ℕ → List (List ℕ × List ℕ) → Route
route_as verb book range id query = record { verb = verb; book = book; range = range; id = id; query = query }

route_same : (verb verb' : Verb) (book book' range range' id id' : List ℕ) (query query' : List (List ℕ × List ℕ))
    → verb ≡ verb' → book ≡ book' → range ≡ range' → id ≡ id' → query ≡ query'
    → route_as verb book range id query ≡ route_as verb' book' range' id' query'
route_same verb verb' book book' range range' id id' query query' v b r i q =
    ap (λ one. route_as one book range id query) v ∙ ap (λ one. route_as verb' one range id query) b
    ∙ ap (λ one. route_as verb' book' one id query) r ∙ ap (λ one. route_as verb' book' range' one query) i
    ∙ ap (λ one. route_as verb' book' range' id' one) q

module _ (one_call : HasOneCall) (method target : List ℕ) where
  route_once : (one another : Route) → IsRoute method target (Ok one) → IsRoute method target (Ok another)
      → one ≡ another
  route_once one another is is' =
      let call = one_call one.verb another.verb is.before is'.before method (path_of target) is.is_call is'.is_call in
      let last : (one.range ≡ another.range) × (one.id ≡ another.id) =
      last_once another.verb (part 5 (raw_segments is'.before)) one.range one.id another.range another.id
      (subst (λ verb. GivesLast verb (part 5 (raw_segments is'.before)) one.range one.id) call.0
      (subst (λ before. GivesLast one.verb (part 5 (raw_segments before)) one.range one.id) call.1 is.last_is))
      is'.last_is in
      route_same one.verb another.verb one.book another.book one.range another.range one.id another.id one.query
      another.query
      call.0 (is.book_is ∙ ap (λ before. part 3 (raw_segments before)) call.1 ∙ sym is'.book_is) last.0 last.1
      (is.query_is ∙ sym is'.query_is)

  -- a query fits, or it doesn't
  query_apart : (route : Route) → IsRoute method target (Ok route) → IsRoute method target (Err unrouted.BadQuery) → ⊥
  query_apart route is is' =
      let call = one_call route.verb is'.0 is.before is'.1 method (path_of target) is.is_call is'.2 in
      false≢true (sym is'.3 ∙ ap (λ verb. fits_query verb (members_of (query_of target))) (sym call.0)
      ∙ ap (λ query. fits_query route.verb query) (sym is.query_is) ∙ is.query_fits)

  routed_once : (one another : Result Route RouteFault) → one ≢ Err unrouted.NoMemory → another ≢ Err unrouted.NoMemory
      → IsRoute method target one → IsRoute method target another → one ≡ another
  routed_once (Ok one) (Ok another) told told' is is' = ap (λ route. Ok route) (route_once one another is is')
  routed_once (Ok one) (Err unrouted.NoRoute) told told' is is' = absurd (is' one.verb is.before is.is_call)
  routed_once (Ok one) (Err unrouted.BadQuery) told told' is is' = absurd (query_apart one is is')
  routed_once (Err unrouted.NoRoute) (Ok another) told told' is is' = absurd (is another.verb is'.before is'.is_call)
  routed_once (Err unrouted.NoRoute) (Err unrouted.NoRoute) told told' is is' = refl
  routed_once (Err unrouted.NoRoute) (Err unrouted.BadQuery) told told' is is' = absurd (is is'.0 is'.1 is'.2)
  routed_once (Err unrouted.BadQuery) (Ok another) told told' is is' = absurd (query_apart another is' is)
  routed_once (Err unrouted.BadQuery) (Err unrouted.NoRoute) told told' is is' = absurd (is' is.0 is.1 is.2)
  routed_once (Err unrouted.BadQuery) (Err unrouted.BadQuery) told told' is is' = refl
  routed_once (Err unrouted.NoMemory) another told told' is is' = absurd (told refl)
  routed_once (Ok one) (Err unrouted.NoMemory) told told' is is' = absurd (told' refl)
  routed_once (Err unrouted.NoRoute) (Err unrouted.NoMemory) told told' is is' = absurd (told' refl)
  routed_once (Err unrouted.BadQuery) (Err unrouted.NoMemory) told told' is is' = absurd (told' refl)

-- ---- what is seen of a world

books_once : StandsForApart → (books others : List PlaceBook) (names : List NameBook) → AllZip BookStandsFor books names
    → AllZip BookStandsFor others names → books ≡ others
books_once apart [] [] [] is is' = refl
books_once apart [] (another ∷ others) [] is is' = absurd is'
books_once apart (book ∷ books) others [] is is' = absurd is
books_once apart [] others (name ∷ names) is is' = absurd is
books_once apart (book ∷ books) [] (name ∷ names) is is' = absurd is'
books_once apart (book ∷ books) (another ∷ others) (name ∷ names) is is' =
    ap (λ first. first ∷ books) (apart.same book another name is.0 is'.0)
    ∙ ap (λ rest. another ∷ rest) (books_once apart books others names is.1 is'.1)

pub books_sound : (books : List PlaceBook) (names : List NameBook) → AllZip BookStandsFor books names
    → All IsSound books
books_sound [] names is = All-nil IsSound
books_sound (book ∷ books) [] is = absurd is
books_sound (book ∷ books) (name ∷ names) is = All-cons IsSound book books is.0.sound (books_sound books names is.1)

-- ---- steps

module _ (one_call : HasOneCall) (calls : CallsAnsweredOnce) (books : List PlaceBook) (sound : All IsSound books) where
  asks_once : (ask : Ask) (one another : Result Call Fault) → AsksFor books ask one → AsksFor books ask another
      → one ≡ another
  asks_once ask one another is is' =
      is.asked_is ∙ ap (asked_for books ask)
      (routed_once one_call (method_of ask.target) (target_of ask.target) is.routed is'.routed is.told is'.told
      is.is_route is'.is_route) ∙ sym is'.asked_is

  asked_once : (ask : Ask) (one another : Result (Caller × Call) Fault) → IsAsked books ask one
      → IsAsked books ask another → one ≡ another
  asked_once ask one another is is' = go ask.user is is'
    where
      go : (user : Option (List ℕ)) → MatchOption user (one ≡ Err fault.NoUser) (λ user. IsAskedBy user books ask one)
          → MatchOption user (another ≡ Err fault.NoUser) (λ user. IsAskedBy user books ask another) → one ≡ another
      go None is is' = is ∙ sym is'
      go (Some user) is is' =
          is.asked_is ∙ ap (made_by (caller_of user ask)) (asks_once ask is.call is'.call is.asks is'.asks)
          ∙ sym is'.asked_is

  ends_once : (asked : Result (Caller × Call) Fault) (told told' : Result Answer Fault) (effect effect' : Effect)
      → Ends books asked told effect → Ends books asked told' effect' → (told ≡ told') × (effect ≡ effect')
  ends_once (Ok (caller, call)) told told' effect effect' is is' =
      let same = calls.once caller call books sound is.answer is'.answer effect effect' is.answered is'.answered in
      (is.told_is ∙ ap as_fault same.0 ∙ sym is'.told_is, same.1)
  ends_once (Err found) told told' effect effect' is is' = (is.0 ∙ sym is'.0, is.1 ∙ sym is'.1)

  step_once : (ask : Ask) (asked asked' : Result (Caller × Call) Fault) (told told' : Result Answer Fault)
      (effect effect' : Effect) → IsStep books ask asked told effect → IsStep books ask asked' told' effect'
      → (outcome_of asked told ≡ outcome_of asked' told') × (effect ≡ effect')
  step_once ask asked asked' told told' effect effect' is is' =
      let same = asked_once ask asked asked' is.is_asked is'.is_asked in
      let ends = ends_once asked' told told' effect effect' (subst (λ a. Ends books a told effect) same is.ends)
      is'.ends in
      (ap (λ a. outcome_of a told) same ∙ ap (outcome_of asked') ends.0, ends.1)

  -- a call has one line, and so have calls, one after another
  line_once : (made : Caller × Call) (line another : List ℕ) → IsLine books made line → IsLine books made another
      → line ≡ another
  line_once made line another is is' =
      let same = calls.once made.0 made.1 books sound is.called.answer is'.called.answer is.effect is'.effect
      is.called.answered is'.called.answered in
      is.line_is
      ∙ ap (λ told. body_of told ++ 10 ∷ []) (is.called.told_is ∙ ap as_fault same.0 ∙ sym is'.called.told_is)
      ∙ sym is'.line_is

  each_once : (made : List (Caller × Call)) (lines others : List (List ℕ)) → AllZip (IsLine books) made lines
      → AllZip (IsLine books) made others → lines ≡ others
  each_once [] [] [] is is' = refl
  each_once [] [] (another ∷ others) is is' = absurd is'
  each_once [] (line ∷ lines) others is is' = absurd is
  each_once (one ∷ made) [] others is is' = absurd is
  each_once (one ∷ made) (line ∷ lines) [] is is' = absurd is'
  each_once (one ∷ made) (line ∷ lines) (another ∷ others) is is' =
      ap (λ first. first ∷ lines) (line_once one line another is.0 is'.0)
      ∙ ap (λ rest. another ∷ rest) (each_once made lines others is.1 is'.1)

  lines_once : (made : List (Caller × Call)) (text another : List ℕ) → AreLines books made text
      → AreLines books made another → text ≡ another
  lines_once made text another is is' =
      is.text_is ∙ ap concat (each_once made is.lines is'.lines is.each is'.each) ∙ sym is'.text_is

-- ---- histories

module _ (one_call : HasOneCall) (calls : CallsAnsweredOnce) (apart : StandsForApart) where
  answered_once : (world : NameWorld) (ask : Ask) (outcome another : Outcome) (effect effect' : Effect)
      → IsAnsweredOn world ask outcome effect → IsAnsweredOn world ask another effect'
      → (outcome ≡ another) × (effect ≡ effect')
  answered_once world ask outcome another effect effect' is is' =
      let same_books = books_once apart is.books is'.books world.books is.seen.each is'.seen.each in
      let same = step_once one_call calls is'.books (books_sound is'.books world.books is'.seen.each) ask is.asked
      is'.asked is.told is'.told effect effect'
      (subst (λ books. IsStep books ask is.asked is.told effect) same_books is.is_step) is'.is_step in
      (is.outcome_is ∙ same.0 ∙ sym is'.outcome_is, same.1)

  replays_once : (start : NameWorld) (entries : List Entry) (world world' : NameWorld) → ReplaysFrom start entries world
      → ReplaysFrom start entries world' → world ≡ world'
  replays_once start [] world world' is is' = is ∙ sym is'
  replays_once start (entry ∷ entries) world world' (between, one, others) (between', one', others') =
      let same = answered_once start (asked_again entry) one.outcome one'.outcome one.effect one'.effect one.answered
      one'.answered in
      let same_between = one.world_is ∙ ap (λ effect. world_after effect start) same.1 ∙ sym one'.world_is in
      replays_once between' entries world world' (subst (λ w. ReplaysFrom w entries world) same_between others) others'

  pub one_outcome : HasOneOutcome Plain
  one_outcome entries ask outcome another is is' =
      let same = replays_once opening_world entries is.world is'.world is.replays is'.replays in
      let both = answered_once is'.world ask outcome another is.effect is'.effect
      (subst (λ w. IsAnsweredOn w ask outcome is.effect) same is.answered) is'.answered in
      both.0

  pub one_count : HasOneCount Cells
  one_count entries count another is is' =
      let same = replays_once opening_world entries is.stands.world is'.stands.world is.stands.replays
      is'.stands.replays in
      let same_books = books_once apart is.books is'.books is'.stands.world.books
      (subst (λ (w : NameWorld). AllZip BookStandsFor is.books w.books) same is.stands.seen.each)
      is'.stands.seen.each in
      is.count_is ∙ ap filled_in same_books ∙ sym is'.count_is

  pub one_dump : HasOneDump Dump
  one_dump entries text another is is' =
      let same = replays_once opening_world entries is.stands.world is'.stands.world is.stands.replays
      is'.stands.replays in
      let same_books = books_once apart is.books is'.books is'.stands.world.books
      (subst (λ (w : NameWorld). AllZip BookStandsFor is.books w.books) same is.stands.seen.each)
      is'.stands.seen.each in
      lines_once one_call calls is'.books (books_sound is'.books is'.stands.world.books is'.stands.seen.each)
      (dump_calls is'.books) text another
      (subst (λ books. AreLines books (dump_calls books) text) same_books is.are_lines) is'.are_lines
