-- The spreadsheet that a call is on is the one of its route.
use Rattle.std.proofs.Common.{◌≡◌, List, [], ◌∷◌, sym, refl, ◌∙◌, Bool, true, false, ◌&&◌}
use Rattle.std.specs.Prelude.{Option, Some, None, is_none, Result, Ok, Err, IfOk, if◌then◌else◌}
use Rattle.std.specs.Option.{IsSome}
use Rattle.std.proofs.lemmas.Bool.{false≢true}
use Rattle.world_model.specs.Book.{PlaceBook}
use Rattle.dimension_ops.specs.World.{book_with}
use Rattle.sheets_http.specs.declared.routes.Route.{Route}
use Rattle.sheets_http.specs.declared.verb.Verb.{Verb}
use Rattle.sheets_http.specs.declared.verb.Verb.TheVariants as verb
use Rattle.sheets_json.specs.Calls as calls
use Rattle.sheets_json.specs.declared.call.Call.{Call}
use Rattle.sheets_json.specs.declared.call.CallFault.{CallFault}
use Rattle.sheets_json.specs.declared.call.CallFault.TheVariants as uncalled
use Rattle.batch_engine.specs.Calls.{HasItsBook}
use Rattle.desk.specs.declared.entry.Ask.{Ask}
use Rattle.sheet_engine.specs.Asks.{names_a_book, lacks_its_book, said_by, said_on}
use Rattle.sheet_engine.specs.declared.fault.Fault.TheVariants as fault

-- a spreadsheet that isn't lacking is there
pub is_found : {A : Type 0} (names lacks : Bool) (looked : Option A) → lacks ≡ (names && is_none looked) → lacks ≡ false
    → names ≡ true → IsSome looked
is_found true lacks None is there named = absurd (false≢true (sym there ∙ is))
is_found true lacks (Some one) is there named = refl
is_found false lacks looked is there named = absurd (false≢true named)

module _ (books : List PlaceBook) (route : Route) where
  abbrev IsThere : Type 0
  IsThere = IsSome (book_with route.book books)

  abbrev IsOn : Result Call CallFault → Type 0
  IsOn told = IfOk told (λ call. HasItsBook call books)

  bare : (body : List _) (told : Result Call CallFault) → IsOn told → IsOn (calls.without_body body told)
  bare [] told on = on
  bare (byte ∷ bytes) told on = tt

  each : {A : Type 0} (things : List A) (call : Call) → HasItsBook call books → IsOn (calls.unless_none things call)
  each [] call on = tt
  each (first ∷ more) call on = on

  said : {A : Type 0} (answer : A → Result Call CallFault) (body : Result A CallFault)
      → ((one : A) → IsOn (answer one)) → IsOn (calls.after_body answer body)
  said answer (Ok one) on = on one
  said answer (Err fault) on = tt

  cleared : (body : List _) → IsThere → IsOn (calls.clear_of route body)
  cleared [] there = there
  cleared (byte ∷ bytes) there = said (λ _. Ok (calls.clear_call route)) _ (λ _. there)

  by_verb_on : (asked : Verb) (body : List _) → (names_a_book asked ≡ true → IsThere)
      → IsOn (calls.by_verb asked route body)
  by_verb_on verb.Create body there = said (λ spreadsheet. Ok (calls.create_call spreadsheet)) _ (λ _. tt)
  by_verb_on verb.Get body there = bare body (Ok (calls.get_call route)) (there refl)
  by_verb_on verb.Batch body there =
      said (calls.many_asked route) _ (λ steps. each steps (calls.batch_call route steps) (there refl))
  by_verb_on verb.Read body there = bare body (Ok (calls.read_call route)) (there refl)
  by_verb_on verb.Write body there = said (λ values. Ok (calls.write_call route values)) _ (λ _. there refl)
  by_verb_on verb.Append body there = said (λ values. Ok (calls.append_call route values)) _ (λ _. there refl)
  by_verb_on verb.Clear body there = cleared body (there refl)
  by_verb_on verb.ReadMany body there =
      bare body (calls.many_read route (calls.ranges_of route))
      (each (calls.ranges_of route) (calls.read_many_call route (calls.ranges_of route)) (there refl))
  by_verb_on verb.WriteMany body there =
      said (calls.many_written route) _ (λ one. each one.1 (calls.write_many_call route one.0 one.1) (there refl))
  by_verb_on verb.ClearMany body there =
      said (calls.many_cleared route) _ (λ ranges. each ranges (calls.clear_many_call route ranges) (there refl))
  by_verb_on verb.ReadFiltered body there =
      said (calls.many_filtered route) _ (λ one. each one.0 (calls.read_filtered_call route one) (there refl))
  by_verb_on verb.Item body there = bare body (Ok (calls.item_call route)) (there refl)
  by_verb_on verb.Search body there =
      said (calls.many_searched route) _ (λ filters. each filters (calls.search_call route filters) (there refl))

  said_there : (told : Result Call CallFault) → IsOn told → IfOk (said_by told) (λ call. HasItsBook call books)
  said_there (Ok call) on = on
  said_there (Err uncalled.BadBody) on = tt
  said_there (Err uncalled.EmptyBatch) on = tt
  said_there (Err uncalled.NoMemory) on = tt

  -- a call that an ask with the route says is on the spreadsheet of the route
  pub is_there : (ask : Ask) (lacks : Bool) → lacks ≡ lacks_its_book books route → lacks ≡ false
      → IfOk (said_on ask route) (λ call. HasItsBook call books)
  is_there ask lacks is there = go ask.coded
    where
      go : (coded : Bool) → IfOk (if coded then Err fault.BadBody else said_by (calls.call_of route ask.body))
          (λ call. HasItsBook call books)
      go true = tt
      go false = said_there (calls.call_of route ask.body)
          (by_verb_on route.verb ask.body
          (λ named. is_found (names_a_book route.verb) lacks (book_with route.book books) is there named))
