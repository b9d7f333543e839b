-- Parts of paths, and the call that a request is.
use Rattle.std.proofs.Common.{◌≡◌, ◌≢◌, ℕ, zero, suc, ◌+◌, ◌<◌, ◌≤◌, ◌==◌, Bool, true, false, cond, List, [], ◌∷◌, ◌++◌, length, take, drop, get_or, refl, sym, ap, ◌∙◌, subst, arith}
use Rattle.std.specs.List.{position_or_len, onto_first}
use Rattle.std.specs.Borrow.{Bor}
use Rattle.std.specs.Prelude.{◌↔◌, IsTrue, IsUtf8, Option, Some, None, MatchOption, MatchBool, Result, Ok, Err, IfOk}
use Rattle.std.specs.Str.Pattern.{FindsChar, HasMatch, FindsTextSuffix, StripsSuffix}
use Rattle.std.proofs.Math.Seq.{drop-cons}
use Rattle.std.proofs.lemmas.Bool.{eq-eqb, ne_eqb}
use Rattle.std.proofs.lemmas.List.{append_cancel_right, take_at, drop_all, length-drop}
use Rattle.std.proofs.lemmas.List.Elements.{All-from_get_or, All-nil, All-cons, All-head, All-tail, All-take}
use Rattle.std.proofs.lemmas.List.Splits.{slice_split_none, length-slice_split}
use Rattle.std.proofs.lemmas.List.Sums.{fails_before_first}
use Rattle.std.proofs.lemmas.Str.Pattern.{contains_char}
use Rattle.percent_encoding.proofs.PercentLemmas.{percent_decode-nil, percent_decode_not_percent}
use Rattle.percent_encoding.specs.Percent.{percent_sign, percent_decode}
use Rattle.cell_value.specs.declared.failure.NoMemory.{NoMemory}
use Rattle.sheets_http.specs.declared.verb.Verb.{Verb}
use Rattle.sheets_http.specs.declared.verb.Verb.TheVariants.{Create, Get, Batch, Read, Write, Append, Clear, ReadMany, WriteMany, ClearMany, ReadFiltered, Item, Search}
use Rattle.sheets_http.specs.declared.table.Segment.{Segment}
use Rattle.sheets_http.specs.declared.routing.Fitted.{Fitted}
use Rattle.sheets_http.specs.declared.routes.Route.{Route}
use Rattle.sheets_http.specs.declared.routes.RouteFault.{RouteFault}
use Rattle.sheets_http.specs.declared.routes.RouteFault.TheVariants as fault
use Rattle.sheets_http.specs.Table.{line, fits_segment}
use Rattle.sheets_http.specs.Queries.{members_of, fits_query}
use Rattle.sheets_http.specs.Routes.{FitsSegment, FitSegments, slash, raw_segments, IsCall, part, GivesLast, path_of, query_of, IsRoute}
use Rattle.sheets_http.specs.Routing.{IsPlain, ArePlain, raw_at, FitsOn, IsCallWith, FitsCall, IsOther, IsNone, FindsCall, RoutesCall}

-- nothing decodes to nothing, which is UTF-8
nothing_is_utf8 : IsUtf8 (percent_decode [])
unfolding percent_decode
nothing_is_utf8 = ([], (refl, refl))

-- each part of a path whose segments fit is UTF-8
pub part_is_utf8 : (path : List Segment) (raws : List (List ℕ)) (place : ℕ) → FitSegments path raws
    → IsUtf8 (part place raws)
part_is_utf8 [] [] place fits = nothing_is_utf8
part_is_utf8 [] (raw ∷ raws) place fits = absurd fits
part_is_utf8 (segment ∷ path) [] place fits = absurd fits
part_is_utf8 (segment ∷ path) (raw ∷ raws) zero fits = fits.0.utf8
part_is_utf8 (segment ∷ path) (raw ∷ raws) (suc place) fits = part_is_utf8 path raws place fits.1

-- ---- escapes

-- what has no escape decodes to itself
pub no_escape : (raw : List ℕ) → IsPlain raw → percent_decode raw ≡ raw
no_escape [] none = percent_decode-nil
no_escape (b ∷ raw) none =
    percent_decode_not_percent b raw (All-head (λ b. b ≢ percent_sign) b raw none)
    ∙ ap (λ (t : List ℕ). b ∷ t) (no_escape raw (All-tail (λ b. b ≢ percent_sign) b raw none))

pub plain_fits : (segment : Segment) (raw : List ℕ) (fits : Bool) → IsPlain raw → IsUtf8 raw
    → fits ≡ fits_segment segment raw → IsTrue fits ↔ FitsSegment segment raw
plain_fits segment raw fits plain utf8 is =
    let same : raw ≡ percent_decode raw = sym (no_escape raw plain) in (
      λ yes. record { utf8 = subst IsUtf8 same utf8; fits = ap (fits_segment segment) (sym same) ∙ sym is ∙ yes },
      λ found. is ∙ ap (fits_segment segment) same ∙ found.fits,
    )

-- there is none where no percent sign is found
pub none_found : (text : List ℕ) (found : Bool)
    → MatchBool found (HasMatch (FindsChar percent_sign) text) (FindsChar percent_sign text None) → found ≡ false
    → IsPlain text
none_found text found cases none =
    let find = contains_char percent_sign text found cases (omega arith) in
    All-from_get_or (λ b. b ≢ percent_sign) text 0 (λ i inside here.
    let some : found ≡ true = find.1 i inside here in
    cc)

-- no segment of a path has one where the path has none
cut_plain : (ends : Bool) (b : ℕ) (raws : List (List ℕ)) → b ≢ percent_sign → ArePlain raws
    → ArePlain (cond ends ([] ∷ raws) (onto_first b raws))
cut_plain true b raws here plain = (All-nil (λ c. c ≢ percent_sign), plain)
cut_plain false b [] here plain = (All-cons (λ c. c ≢ percent_sign) b [] here (All-nil (λ c. c ≢ percent_sign)), tt)
cut_plain false b (raw ∷ raws) here plain = (All-cons (λ c. c ≢ percent_sign) b raw here plain.0, plain.1)

pub plain_segments : (path : List ℕ) → IsPlain path → ArePlain (raw_segments path)
plain_segments [] plain = (All-nil (λ c. c ≢ percent_sign), tt)
plain_segments (b ∷ path) plain =
    cut_plain (b == slash) b (raw_segments path) (All-head (λ c. c ≢ percent_sign) b path plain)
    (plain_segments path (All-tail (λ c. c ≢ percent_sign) b path plain))

-- nor before its verb
pub plain_before : (before end path : List ℕ) → path ≡ before ++ end → IsPlain path → IsPlain before
plain_before before end path is plain =
    subst IsPlain (ap (take (length before)) is ∙ take_at before end (length before) refl)
    (All-take (λ b. b ≢ percent_sign) (length before) path plain)

plain_at : (raws : List (List ℕ)) (place : ℕ) → ArePlain raws → IsPlain (get_or raws place [])
plain_at [] place plain = All-nil (λ c. c ≢ percent_sign)
plain_at (raw ∷ raws) zero plain = plain.0
plain_at (raw ∷ raws) (suc place) plain = plain_at raws place plain.1

-- ---- a segment

-- a path without a slash is one segment
pub no_slash : (path : List ℕ) → position_or_len (λ b. b == slash) path ≡ length path → raw_segments path ≡ path ∷ []
no_slash path none =
    slice_split_none (λ b. b == slash) path
    (All-from_get_or (λ b. (b == slash) ≡ false) path 0 (λ i inside.
    fails_before_first (λ b. b == slash) path i 0 (omega (arith, inside, none))))

-- ---- segments from a place on

-- the item at a place, and those behind it
next_is : {X : Type 0} (xs : List X) (place : ℕ) (x : X) → place < length xs → x ≡ get_or xs place x
    → drop place xs ≡ x ∷ drop (place + 1) xs
next_is xs place x there item =
    let one : suc place ≡ place + 1 = omega arith in
    drop-cons xs place x there
    ∙ ap (λ y. y ∷ drop (suc place) xs) (sym item)
    ∙ ap (λ n. x ∷ drop n xs) one

-- a path has a segment
none_fit : (raws : List (List ℕ)) → 0 < length raws → ¬ (FitSegments [] raws)
none_fit [] some fits = absurd (omega (arith, some))
none_fit (raw ∷ raws) some fits = fits

-- the segments that are left of a path, if it hasn't ended
abbrev pub segments_left : Option (Bor (List ℕ)) → List (List ℕ)
segments_left None = []
segments_left (Some path) = raw_segments path.now

-- one more segment that fits
pub one_more : (segments : List Segment) (place : ℕ) (segment : Segment) (raw : List ℕ) (raws others : List (List ℕ))
    (book last book_on last_on : List ℕ) (found : Option Fitted) → place < length segments
    → segment ≡ get_or segments place segment → raws ≡ raw ∷ others → FitsSegment segment raw
    → book_on ≡ raw_at 3 place (raw ∷ []) book → last_on ≡ raw_at 5 place (raw ∷ []) last
    → FitsOn (drop (place + 1) segments) others (place + 1) book_on last_on found
    → FitsOn (drop place segments) raws place book last found
one_more segments place segment raw raws others book last book_on last_on found there item cut fits b l on =
    let here : drop place segments ≡ segment ∷ drop (place + 1) segments = next_is segments place segment there item in
    rw (here, cut) (onto found (rw (b, l) at on))
  where
    onto : (found : Option Fitted)
        → FitsOn (drop (place + 1) segments) others (place + 1) (raw_at 3 place (raw ∷ []) book)
        (raw_at 5 place (raw ∷ []) last) found
        → FitsOn (segment ∷ drop (place + 1) segments) (raw ∷ others) place book last found
    onto None none = λ all. none all.1
    onto (Some fitted) all = ((fits, all.0), all.1, all.2)

-- not all fit where one doesn't, or where the path has ended
pub none_here : (segments : List Segment) (place : ℕ) (segment : Segment) (raw : List ℕ) (raws others : List (List ℕ))
    (fit : Bool) → place < length segments → IsTrue fit ↔ FitsSegment segment raw → fit ≡ false
    → segment ≡ get_or segments place segment → raws ≡ raw ∷ others → ¬ (FitSegments (drop place segments) raws)
none_here segments place segment raw raws others fit there fits lacks item cut =
    rw (next_is segments place segment there item, cut)
    (λ all. let wrong : true ≡ false = sym (fits.1 all.0) ∙ lacks in cc)

none_without : (segments : List Segment) → 0 < length segments → ¬ (FitSegments segments [])
none_without [] some all = absurd (omega (arith, some))
none_without (segment ∷ segments) some all = all

pub ended : (segments : List Segment) (place : ℕ) (rest : Option (Bor (List ℕ))) → place < length segments
    → ((path : Bor (List ℕ)) → rest ≡ Some path → ⊥) → ¬ (FitSegments (drop place segments) (segments_left rest))
ended segments place (Some path) there none all = none path refl
ended segments place None there none all =
    none_without (drop place segments) (omega (arith, there, length-drop place segments)) all

-- the first segment of a path, and those behind it
pub cut_is : (raws : List (List ℕ)) (raw : List ℕ) (behind : Option (Bor (List ℕ)))
    → MatchOption behind (raws ≡ raw ∷ []) (λ rest. raws ≡ raw ∷ raw_segments rest.now) → raws ≡ raw
    ∷ segments_left behind
cut_is raws raw None cut = cut
cut_is raws raw (Some rest) cut = cut

-- all fit where the path ends with the last, and none does where it goes on
pub all_fit : (segments : List Segment) (place : ℕ) (fitted : Fitted) → length segments ≤ place
    → FitsOn (drop place segments) [] place fitted.book.now fitted.last.now (Some fitted)
all_fit segments place fitted past = rw (drop_all place segments past) (tt, refl, refl)

pub goes_on : (segments : List Segment) (place : ℕ) (path : List ℕ) → length segments ≤ place
    → ¬ (FitSegments (drop place segments) (raw_segments path))
goes_on segments place path past =
    rw (drop_all place segments past)
    (none_fit (raw_segments path) (omega (arith, length-slice_split (λ b. b == slash) path)))

-- ---- the segment at a place

-- which was passed by
passed_by : (place count : ℕ) (raws : List (List ℕ)) (given : List ℕ) → place < count
    → raw_at place count raws given ≡ given
passed_by place count [] given less = refl
passed_by place count (raw ∷ raws) given less =
    let other : (count == place) ≡ false = ne_eqb count place (λ e. absurd (omega (arith, less, e))) in
    rw other (passed_by place (count + 1) raws given (omega (arith, less)))

-- which is to come
to_come : (ahead count place : ℕ) (raws : List (List ℕ)) → place ≡ count + ahead
    → raw_at place count raws [] ≡ get_or raws ahead []
to_come ahead count place [] is = refl
to_come zero count place (raw ∷ raws) is =
    let here : (count == place) ≡ true = eq-eqb count place (omega (arith, is)) in
    rw here (passed_by place (count + 1) raws raw (omega (arith, is)))
to_come (suc ahead) count place (raw ∷ raws) is =
    let other : (count == place) ≡ false = ne_eqb count place (λ e. absurd (omega (arith, e, is))) in
    rw other (to_come ahead (count + 1) place raws (omega (arith, is)))

-- ---- the call

-- what stands before a text that a path ends with, where it does
pub stripped : (end path : List ℕ) (found : Option (Bor (List ℕ)))
    → MatchOption found (FindsTextSuffix end path None) (λ front. StripsSuffix (FindsTextSuffix end) path front.now)
    → MatchOption found ((front : List ℕ) → path ≢ front ++ end) (λ front. path ≡ front.now ++ end)
stripped end path None none = none
stripped end path (Some front) (n, finds, is, long) =
    finds.1 ∙ ap (λ (t : List ℕ). t ++ end) (sym is)

-- what the segments before the verb say of a request whose method is the call's
pub fits_call : (verb : Verb) (before method path text : List ℕ) (segments : List Segment)
    (result : Result (Option Fitted) NoMemory) → method ≡ (line verb).method → text ≡ (line verb).verb
    → path ≡ before ++ text → segments ≡ (line verb).path
    → IfOk result (λ found. FitsOn segments (raw_segments before) 0 [] [] found)
    → IfOk result (λ found. FitsCall verb method path found)
fits_call verb before method path text segments (Err none) m t p s fits = tt
fits_call verb before method path text segments (Ok None) m t p s none = λ front is.
    let same : front ≡ before =
    append_cancel_right front before (line verb).verb
    (sym is.path_is ∙ p ∙ ap (λ (end : List ℕ). before ++ end) t) in
    none (subst (λ (path : List Segment). FitSegments path (raw_segments before)) (sym s)
    (subst (λ (u : List ℕ). FitSegments (line verb).path (raw_segments u)) same is.fits))
fits_call verb before method path text segments (Ok (Some fitted)) m t p s fits = record {
  before = before;
  is_call = record {
    method_is = m;
    path_is = p ∙ ap (λ (end : List ℕ). before ++ end) t;
    fits = subst (λ (path : List Segment). FitSegments path (raw_segments before)) s fits.0;
  };
  book_is = fits.1 ∙ to_come 3 0 3 (raw_segments before) refl;
  last_is = fits.2 ∙ to_come 5 0 5 (raw_segments before) refl;
}

-- the calls in the order in which they are tried
abbrev pub every_verb : List Verb
every_verb =
    Create ∷ Get ∷ Batch ∷ Read ∷ Write ∷ Append ∷ Clear ∷ ReadMany ∷ WriteMany ∷ ClearMany ∷ ReadFiltered ∷ Item
    ∷ Search ∷ []

-- a request that is not that call, and none of those behind it
pub none_from : (verbs : List Verb) (place : ℕ) (verb : Verb) (method path : List ℕ) → place < length verbs
    → verb ≡ get_or verbs place verb → IsOther verb method path → IsNone (drop (place + 1) verbs) method path
    → IsNone (drop place verbs) method path
none_from verbs place verb method path there item other behind =
    rw (next_is verbs place verb there item) (other, behind)

pub none_behind : (verbs : List Verb) (place : ℕ) (method path : List ℕ) → length verbs ≤ place
    → IsNone (drop place verbs) method path
none_behind verbs place method path past = rw (drop_all place verbs past) tt

-- the call that was found
pub call_found : (verbs : List Verb) (method path : List ℕ) (result : Result (Option (Verb × Fitted)) NoMemory)
    (verb : Verb) (fitted : Fitted) → IfOk result (λ found. FindsCall verbs method path found)
    → result ≡ Ok (Some (verb, fitted)) → IsCallWith verb fitted method path
call_found verbs method path result verb fitted finds is =
    subst (λ (r : Result (Option (Verb × Fitted)) NoMemory). IfOk r
    (λ found. FindsCall verbs method path found)) is finds

-- the segments that the caller gives are UTF-8 where they are decoded, and plain where the path is
pub book_is_utf8 : (verb : Verb) (fitted : Fitted) (method path : List ℕ) → IsCallWith verb fitted method path
    → IsUtf8 (percent_decode fitted.book.now)
book_is_utf8 verb fitted method path is =
    subst (λ (raw : List ℕ). IsUtf8 (percent_decode raw)) (sym is.book_is)
    (part_is_utf8 (line verb).path (raw_segments is.before) 3 is.is_call.fits)

pub last_is_utf8 : (verb : Verb) (fitted : Fitted) (method path : List ℕ) → IsCallWith verb fitted method path
    → IsUtf8 (percent_decode fitted.last.now)
last_is_utf8 verb fitted method path is =
    subst (λ (raw : List ℕ). IsUtf8 (percent_decode raw)) (sym is.last_is)
    (part_is_utf8 (line verb).path (raw_segments is.before) 5 is.is_call.fits)

given_plain : (verb : Verb) (fitted : Fitted) (method path : List ℕ) → (is : IsCallWith verb fitted method path)
    → IsPlain path → (place : ℕ) → IsPlain (get_or (raw_segments is.before) place [])
given_plain verb fitted method path is plain place =
    plain_at (raw_segments is.before) place
    (plain_segments is.before (plain_before is.before (line verb).verb path is.is_call.path_is plain))

pub book_is_plain : (verb : Verb) (fitted : Fitted) (method path : List ℕ) → IsCallWith verb fitted method path
    → IsPlain path → IsPlain fitted.book.now
book_is_plain verb fitted method path is plain =
    subst IsPlain (sym is.book_is) (given_plain verb fitted method path is plain 3)

pub last_is_plain : (verb : Verb) (fitted : Fitted) (method path : List ℕ) → IsCallWith verb fitted method path
    → IsPlain path → IsPlain fitted.last.now
last_is_plain verb fitted method path is plain =
    subst IsPlain (sym is.last_is) (given_plain verb fitted method path is plain 5)

-- the route of the call is that of the request
pub routed : (verb : Verb) (fitted : Fitted) (method target path query : List ℕ) (result : Result Route RouteFault)
    → path ≡ path_of target → query ≡ query_of target → IsCallWith verb fitted method path
    → RoutesCall verb fitted query result → IsRoute method target result
routed verb fitted method target path query (Ok route) p q is routes = record {
  before = is.before;
  is_call = subst (λ (v : Verb). IsCall v is.before method (path_of target)) (sym routes.verb_is)
      (subst (λ (t : List ℕ). IsCall verb is.before method t) p is.is_call);
  book_is = routes.book_is ∙ ap percent_decode is.book_is;
  last_is = subst (λ (v : Verb). GivesLast v (part 5 (raw_segments is.before)) route.range route.id)
      (sym routes.verb_is)
      (subst (λ (last : List ℕ). GivesLast verb last route.range route.id) (ap percent_decode is.last_is)
      routes.last_is);
  query_is = routes.query_is ∙ ap members_of q;
  query_fits = ap (λ (v : Verb). fits_query v route.query) routes.verb_is ∙ ap (fits_query verb) routes.query_is
      ∙ routes.query_fits;
}
routed verb fitted method target path query (Err fault.NoRoute) p q is routes = absurd routes
routed verb fitted method target path query (Err fault.BadQuery) p q is routes = (
  verb,
  is.before,
  subst (λ (t : List ℕ). IsCall verb is.before method t) p is.is_call,
  ap (λ (t : List ℕ). fits_query verb (members_of t)) (sym q) ∙ routes,
)
routed verb fitted method target path query (Err fault.NoMemory) p q is routes = tt
