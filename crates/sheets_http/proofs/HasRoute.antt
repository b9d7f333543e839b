-- Each request line has a route, or has none, or has a query that its call doesn't take.
use Rattle.std.proofs.Common.{◌≡◌, ◌≢◌, ℕ, Bool, true, false, List, [], refl}
use Rattle.std.specs.Prelude.{Result, Ok, Err}
use Rattle.sheets_http.specs.declared.verb.Verb.{Verb}
use Rattle.sheets_http.specs.declared.verb.Verb.TheVariants.{Item}
use Rattle.sheets_http.specs.declared.routes.Route.{Route}
use Rattle.sheets_http.specs.declared.routes.RouteFault.{RouteFault}
use Rattle.sheets_http.specs.declared.routes.RouteFault.TheVariants as fault
use Rattle.sheets_http.specs.Queries.{members_of, fits_query}
use Rattle.sheets_http.specs.Routes.{GivesLast, IsCall, IsRoute, item, other, part, path_of, query_of, raw_segments}
use Rattle.sheets_http.specs.RouteLaws.{HasRoute}

module _ (method target : List ℕ)
    (none : (routed : Result Route RouteFault) → routed ≢ Err fault.NoMemory → ¬ (IsRoute method target routed)) where
  -- the call's route, with this range and this id
  no_route : (verb : Verb) (before range id : List ℕ) → IsCall verb before method (path_of target)
      → fits_query verb (members_of (query_of target)) ≡ true
      → ¬ (GivesLast verb (part 5 (raw_segments before)) range id)
  no_route verb before range id is fits last = none (Ok (record {
    verb = verb;
    book = part 3 (raw_segments before);
    range = range;
    id = id;
    query = members_of (query_of target);
  })) (λ e. cc) (record {
    before = before;
    is_call = is;
    book_is = refl;
    last_is = last;
    query_is = refl;
    query_fits = fits;
  })

  no_call : (verb : Verb) (before : List ℕ) → ¬ (IsCall verb before method (path_of target))
  no_call verb before is = fitting (fits_query verb (members_of (query_of target))) refl
    where
      fitting : (fits : Bool) → fits_query verb (members_of (query_of target)) ≡ fits → ⊥
      fitting true fits =
          let last = part 5 (raw_segments before) in
          let no_item : verb ≢ Item = λ same. no_route verb before [] last is fits (item same refl refl) in
          no_route verb before last [] is fits (other no_item refl refl)
      fitting false fits = none (Err fault.BadQuery) (λ e. cc) (verb, before, is, fits)

pub has_route : HasRoute
has_route method target none = none (Err fault.NoRoute) (λ e. cc) (no_call method target none)
