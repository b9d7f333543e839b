-- How a route is found: call by call, and then its parts.
use Rattle.std.specs.Prelude.{◌≡◌, ◌≢◌, ℕ, ◌+◌, ◌==◌, if◌then◌else◌, true, false, List, [], ◌∷◌, get_or, Option, Some, None, Result, Ok, Err, ⊤, MatchOption}
use Rattle.std.specs.List.{All}
use Rattle.percent_encoding.specs.Percent.{percent_sign, percent_decode}
use Rattle.sheets_http.specs.declared.verb.Verb.{Verb}
use Rattle.sheets_http.specs.declared.table.Segment.{Segment}
use Rattle.sheets_http.specs.declared.routing.Fitted.{Fitted}
use Rattle.sheets_http.specs.declared.routes.Route.{Route}
use Rattle.sheets_http.specs.declared.routes.RouteFault.{RouteFault}
use Rattle.sheets_http.specs.declared.routes.RouteFault.TheVariants as fault
use Rattle.sheets_http.specs.Queries.{members_of, fits_query}
use Rattle.sheets_http.specs.Routes.{FitSegments, IsCall, raw_segments, GivesLast}

-- ---- escapes

-- the text has no escape (RFC 3986, section 2.1)
abbrev pub IsPlain : List ℕ → Type 0
IsPlain text = All (λ b. b ≢ percent_sign) text

-- none of these has one
abbrev pub ArePlain : List (List ℕ) → Type 0
ArePlain [] = ⊤
ArePlain (raw ∷ raws) = IsPlain raw × ArePlain raws

-- ---- segments

-- the raw segment at a place of a path, of which these stand behind so many others; where the place isn't
-- among them, what is given
abbrev pub raw_at : ℕ → ℕ → List (List ℕ) → List ℕ → List ℕ
raw_at place count [] given = given
raw_at place count (raw ∷ raws) given = raw_at place (count + 1) raws (if count == place then raw else given)

-- the segments fit as well that stand behind so many others, and these are all of them; with the two that
-- the caller gives, where those before have these
abbrev pub FitsOn : List Segment → List (List ℕ) → ℕ → List ℕ → List ℕ → Option Fitted → Type 0
FitsOn segments raws count book last None = ¬ (FitSegments segments raws)
FitsOn segments raws count book last (Some fitted) =
    FitSegments segments raws × (fitted.book.now ≡ raw_at 3 count raws book)
    × (fitted.last.now ≡ raw_at 5 count raws last)

-- ---- calls

-- the request isn't that call
abbrev pub IsOther : Verb → List ℕ → List ℕ → Type 0
IsOther verb method path = (before : List ℕ) → ¬ (IsCall verb before method path)

-- the request is that call, and these are the segments that the caller gives
pub record IsCallWith (verb : Verb) (fitted : Fitted) (method path : List ℕ) : Type 0 where
  pub before : List ℕ
  pub is_call : IsCall verb before method path
  pub book_is : fitted.book.now ≡ get_or (raw_segments before) 3 []
  pub last_is : fitted.last.now ≡ get_or (raw_segments before) 5 []

-- the segments, where the request is that call
abbrev pub FitsCall : Verb → List ℕ → List ℕ → Option Fitted → Type 0
FitsCall verb method path found =
    MatchOption found (IsOther verb method path) (λ fitted. IsCallWith verb fitted method path)

-- the request is none of these calls
abbrev pub IsNone : List Verb → List ℕ → List ℕ → Type 0
IsNone [] method path = ⊤
IsNone (verb ∷ others) method path = IsOther verb method path × IsNone others method path

-- the request is the call that was found, or none of these
abbrev pub FindsCall : List Verb → List ℕ → List ℕ → Option (Verb × Fitted) → Type 0
FindsCall verbs method path found =
    MatchOption found (IsNone verbs method path) (λ call. IsCallWith call.0 call.1 method path)

-- ---- the route

-- the route of a call with these segments
pub record IsRouteOfCall (verb : Verb) (fitted : Fitted) (query : List ℕ) (route : Route) : Type 0 where
  pub verb_is : route.verb ≡ verb
  pub book_is : route.book ≡ percent_decode fitted.book.now
  pub last_is : GivesLast verb (percent_decode fitted.last.now) route.range route.id
  pub query_is : route.query ≡ members_of query
  pub query_fits : fits_query verb (members_of query) ≡ true

abbrev pub RoutesCall : Verb → Fitted → List ℕ → Result Route RouteFault → Type 0
RoutesCall verb fitted query (Ok route) = IsRouteOfCall verb fitted query route
RoutesCall verb fitted query (Err fault.NoRoute) = ⊥
RoutesCall verb fitted query (Err fault.BadQuery) = fits_query verb (members_of query) ≡ false
RoutesCall verb fitted query (Err fault.NoMemory) = ⊤
