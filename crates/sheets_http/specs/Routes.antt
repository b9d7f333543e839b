-- Which call a request is (RFC 3986, section 3.3 on paths).
use Rattle.std.specs.Prelude.{◌≡◌, ◌≢◌, ℕ, Bool, true, false, ◌==◌, List, [], ◌∷◌, ◌++◌, get_or, IsUtf8, Result, Ok, Err, ⊤}
use Rattle.std.specs.List.{slice_split, before_first, after_first}
use Rattle.percent_encoding.specs.Percent.{percent_decode}
use Rattle.sheets_http.specs.declared.verb.Verb.{Verb}
use Rattle.sheets_http.specs.declared.verb.Verb.TheVariants.{Item}
use Rattle.sheets_http.specs.declared.table.Segment.{Segment}
use Rattle.sheets_http.specs.declared.routes.Route.{Route}
use Rattle.sheets_http.specs.declared.routes.RouteFault.{RouteFault}
use Rattle.sheets_http.specs.declared.routes.RouteFault.TheVariants as fault
use Rattle.sheets_http.specs.Table.{line, fits_segment}
use Rattle.sheets_http.specs.Queries.{members_of, fits_query}

-- ---- segments

-- a raw segment is decoded before it is compared, and is UTF-8 then
pub record FitsSegment (segment : Segment) (raw : List ℕ) : Type 0 where
  pub utf8 : IsUtf8 (percent_decode raw)
  pub fits : fits_segment segment (percent_decode raw) ≡ true

-- each segment fits
abbrev pub FitSegments : List Segment → List (List ℕ) → Type 0
FitSegments [] [] = ⊤
FitSegments [] (raw ∷ raws) = ⊥
FitSegments (segment ∷ path) [] = ⊥
FitSegments (segment ∷ path) (raw ∷ raws) = FitsSegment segment raw × FitSegments path raws

-- ---- paths

abbrev pub slash : ℕ
slash = 47

-- the segments of a path
abbrev pub raw_segments : List ℕ → List (List ℕ)
raw_segments path = slice_split (λ b. b == slash) path

-- the request is that call: its path has the call's verb at the end, and its segments before it
pub record IsCall (verb : Verb) (before method path : List ℕ) : Type 0 where
  pub method_is : method ≡ (line verb).method
  pub path_is : path ≡ before ++ (line verb).verb
  pub fits : FitSegments (line verb).path (raw_segments before)

-- the part of a path at a place, decoded; none where the path ends before it
abbrev pub part : ℕ → List (List ℕ) → List ℕ
part place raws = percent_decode (get_or raws place [])

-- the range, or the id of an item of metadata, stands behind five segments
pub data GivesLast (verb : Verb) (last range id : List ℕ) : Type 0 where
  item : verb ≡ Item → range ≡ [] → id ≡ last → GivesLast verb last range id
  other : verb ≢ Item → range ≡ last → id ≡ [] → GivesLast verb last range id

-- ---- what is answered

-- the question mark, before which the path stands and behind which the query does
abbrev pub is_mark : ℕ → Bool
is_mark b = b == 63

abbrev pub path_of : List ℕ → List ℕ
path_of target = before_first is_mark target

abbrev pub query_of : List ℕ → List ℕ
query_of target = after_first is_mark target

-- the route is that of the request: its call, the parts of its path, and the members of its query
pub record IsRouteOf (method target : List ℕ) (route : Route) : Type 0 where
  pub before : List ℕ
  pub is_call : IsCall route.verb before method (path_of target)
  pub book_is : route.book ≡ part 3 (raw_segments before)
  pub last_is : GivesLast route.verb (part 5 (raw_segments before)) route.range route.id
  pub query_is : route.query ≡ members_of (query_of target)
  pub query_fits : fits_query route.verb route.query ≡ true

-- what is answered to a request line: its route; that no line of the table fits it; or that one does, and
-- the query doesn't
abbrev pub IsRoute : List ℕ → List ℕ → Result Route RouteFault → Type 0
IsRoute method target (Ok route) = IsRouteOf method target route
IsRoute method target (Err fault.NoRoute) =
    (verb : Verb) (before : List ℕ) → ¬ (IsCall verb before method (path_of target))
IsRoute method target (Err fault.BadQuery) =
    (verb : Verb) × (before : List ℕ) × IsCall verb before method (path_of target)
    × (fits_query verb (members_of (query_of target)) ≡ false)
IsRoute method target (Err fault.NoMemory) = ⊤

-- at most one line of the table fits a request
abbrev pub HasOneCall : Type 0
HasOneCall =
    (verb other : Verb) (before front method path : List ℕ)
    → IsCall verb before method path → IsCall other front method path → (verb ≡ other) × (before ≡ front)
