-- Connections under way and over, in the order in which they were accepted.
use Rattle.std.proofs.Common.{◌≡◌, ◌⊎◌, inl, inr, ℕ, zero, suc, ◌+◌, List, [], ◌∷◌, ◌++◌, map, length, refl, sym, ap, subst, ◌∙◌, arith}
use Rattle.std.specs.Prelude.{Some, None, All, Bool, ◌≢◌, drop, if◌then◌else◌}
use Rattle.std.specs.List.{slice_get, flat_map, Contains}
use Rattle.std.proofs.lemmas.List.{append-nil}
use Rattle.std.proofs.lemmas.Bool.{eq-eqb, ne_eqb}
use Rattle.std.proofs.lemmas.Grind.{flat_map-append}
use Rattle.std.proofs.lemmas.List.Elements.{All-nil, All-cons, All-head, All-tail, Contains-append_right}
use mathlib.Core.Logic.{dite}
use native.Mathlib.Decide.{ℕ_discrete}
use Rattle.desk.specs.declared.entry.Noted.{Noted}
use Rattle.connections.specs.Doors.{Ending, Connection, came_back, IsAway}
use Rattle.serving.specs.Serving.{Arrival, Visit, Course, under_way, over, start_of, shown_course, Begun, Waiting, thread_of, threads_of, OfAnyTwo, LeavesApart, CoursesApart, AreApart, connection_of, visits_of, added_by, items_of, caller_in, visitor}

-- ---- one of them ends

-- the connection at this place is over
abbrev pub finished : ℕ → List Noted → Ending → List Course → List Course
finished place after ending [] = []
finished zero after ending (under_way arrival ∷ courses) =
    over (record { arrival = arrival; after = after; ending = ending }) ∷ courses
finished zero after ending (over visit ∷ courses) = over visit ∷ courses
finished (suc place) after ending (course ∷ courses) = course ∷ finished place after ending courses

-- the thread is that of the connection at this place; without it those of the others are left
pub record IsFoundAt {E K W A : Type 0} (begun : Begun E K W A) (number : ℕ) (courses : List Course)
    (threads : List (Waiting E K W A)) (thread : Waiting E K W A) (place : ℕ) : Type 0 where
  pub number_is : thread.number ≡ number + place
  pub at : slice_get courses place ≡ Some (under_way thread.arrival)
  pub desk_is : thread.desk ≡ begun.desk
  pub users_is : thread.users ≡ begun.users
  pub count_is : thread.count ≡ suc thread.arrival.caller
  pub others : (after : List Noted) (ending : Ending)
      → threads_of begun number (finished place after ending courses) ≡ threads

module _ {E K W A : Type 0} (begun : Begun E K W A) where
  -- each thread is that of a connection
  pub found : (number : ℕ) (courses : List Course) (xs : List (Waiting E K W A)) (w : Waiting E K W A)
      (ys : List (Waiting E K W A)) → threads_of begun number courses ≡ xs ++ w ∷ ys
      → (place : ℕ) × IsFoundAt begun number courses (xs ++ ys) w place
  found number [] [] w ys is = absurd (cc)
  found number [] (x ∷ xs) w ys is = absurd (cc)
  found number (over visit ∷ courses) xs w ys is =
      let (place, at) = found (suc number) courses xs w ys is in (
        suc place,
        record {
          number_is = omega (arith, at.number_is);
          at = at.at;
          desk_is = at.desk_is;
          users_is = at.users_is;
          count_is = at.count_is;
          others = at.others;
        },
      )
  found number (under_way arrival ∷ courses) [] w ys is =
      let first : thread_of begun number arrival ≡ w = cc in
      let rest : threads_of begun (suc number) courses ≡ ys = cc in (
        zero,
        record {
          number_is = sym (ap (λ (v : Waiting E K W A). v.number) first) ∙ omega arith;
          at = ap (λ (v : Waiting E K W A). Some (under_way v.arrival)) first;
          desk_is = sym (ap (λ (v : Waiting E K W A). v.desk) first);
          users_is = sym (ap (λ (v : Waiting E K W A). v.users) first);
          count_is = sym (ap (λ (v : Waiting E K W A). v.count) first)
              ∙ ap (λ (v : Waiting E K W A). suc v.arrival.caller) first;
          others = λ after ending. rest;
        },
      )
  found number (under_way arrival ∷ courses) (x ∷ xs) w ys is =
      let this : Waiting E K W A =
      thread_of begun number arrival in
      let first : this ≡ x = cc in
      let rest : threads_of begun (suc number) courses ≡ xs ++ w ∷ ys = cc in
      let (place, at) = found (suc number) courses xs w ys rest in (
        suc place,
        record {
          number_is = omega (arith, at.number_is);
          at = at.at;
          desk_is = at.desk_is;
          users_is = at.users_is;
          count_is = at.count_is;
          others = λ after ending. ap (λ (l : List (Waiting E K W A)). this ∷ l) (at.others after ending)
              ∙ ap (λ (v : Waiting E K W A). v ∷ (xs ++ ys)) first;
        },
      )

  -- a further connection has a further thread, where it is under way
  pub one_thread_more : (number : ℕ) (courses : List Course) (arrival : Arrival)
      → threads_of begun number (courses ++ under_way arrival ∷ []) ≡ threads_of begun number courses
      ++ thread_of begun (number + length courses) arrival ∷ []
  one_thread_more number [] arrival =
      ap (λ (n : ℕ). thread_of begun n arrival ∷ []) (omega arith)
  one_thread_more number (over visit ∷ courses) arrival =
      one_thread_more (suc number) courses arrival
      ∙ ap (λ (n : ℕ). threads_of begun (suc number) courses
      ++ thread_of begun n arrival ∷ []) (omega arith)
  one_thread_more number (under_way start ∷ courses) arrival =
      ap (λ (l : List (Waiting E K W A)).
      thread_of begun number start ∷ l)
      (one_thread_more (suc number) courses arrival
      ∙ ap (λ (n : ℕ). threads_of begun (suc number) courses
      ++ thread_of begun n arrival ∷ []) (omega arith))

  pub no_thread_more : (number : ℕ) (courses : List Course) (visit : Visit)
      → threads_of begun number (courses ++ over visit ∷ []) ≡ threads_of begun number courses
  no_thread_more number [] visit = refl
  no_thread_more number (over t ∷ courses) visit = no_thread_more (suc number) courses visit
  no_thread_more number (under_way start ∷ courses) visit =
      ap (λ (l : List (Waiting E K W A)).
      thread_of begun number start ∷ l)
      (no_thread_more (suc number) courses visit)

-- ---- what is shown

-- one that is under way isn't back
pub away : (courses : List Course) (place : ℕ) (arrival : Arrival) → slice_get courses place ≡ Some (under_way arrival)
    → IsAway place (map shown_course courses)
away [] place arrival at = absurd (cc)
away (course ∷ courses) zero arrival at =
    let is : course ≡ under_way arrival = cc in
    (shown_course course, refl, ap (λ (c : Course). (shown_course c).back) is)
away (course ∷ courses) (suc place) arrival at = away courses place arrival at

-- it is back once it is over
pub back : (courses : List Course) (place : ℕ) (arrival : Arrival) (after : List Noted) (ending : Ending)
    → slice_get courses place ≡ Some (under_way arrival)
    → came_back place ending (map shown_course courses) ≡ map shown_course (finished place after ending courses)
back [] place arrival after ending at = refl
back (under_way start ∷ courses) zero arrival after ending at = refl
back (over visit ∷ courses) zero arrival after ending at = absurd (cc)
back (course ∷ courses) (suc place) arrival after ending at =
    ap (λ (l : List Connection). shown_course course ∷ l) (back courses place arrival after ending at)

-- the caller of this number has a visit, or added nothing in any
pub visited : (number : ℕ) (visits : List Visit) → Contains (map visitor visits) number
    ⊎ (flat_map (added_by number) visits ≡ [])
visited number [] = inr refl
visited number (visit ∷ visits) =
    dite (ℕ_discrete (visitor visit) number)
    (λ (same : visitor visit ≡ number). inl (0, omega arith, same))
    (λ (differs : visitor visit ≢ number). elim (visited number visits) [
      | inl there ↦ inl (Contains-append_right (visitor visit ∷ []) (map visitor visits) number there)
      | inr none ↦ inr (ap (λ (b : Bool).
          (if b then items_of number (drop (length visit.arrival.before) visit.after) else [])
          ++ flat_map (added_by number) visits) (ne_eqb (visitor visit) number differs) ∙ none)
    ])

-- the callers are the same
pub same_callers : (courses : List Course) (place : ℕ) (after : List Noted) (ending : Ending)
    → map caller_in (finished place after ending courses) ≡ map caller_in courses
same_callers [] place after ending = refl
same_callers (under_way start ∷ courses) zero after ending = refl
same_callers (over visit ∷ courses) zero after ending = refl
same_callers (course ∷ courses) (suc place) after ending =
    ap (λ l. caller_in course ∷ l) (same_callers courses place after ending)

pub visitors_over : (visits : List Visit) → map caller_in (map over visits) ≡ map visitor visits
visitors_over [] = refl
visitors_over (visit ∷ visits) = ap (λ l. visitor visit ∷ l) (visitors_over visits)

pub as_many : (courses : List Course) (place : ℕ) (after : List Noted) (ending : Ending)
    → length (finished place after ending courses) ≡ length courses
as_many [] place after ending = refl
as_many (under_way start ∷ courses) zero after ending = refl
as_many (over visit ∷ courses) zero after ending = refl
as_many (course ∷ courses) (suc place) after ending = ap suc (as_many courses place after ending)

-- the last of a list that is one longer
pub last_away : (xs : List Connection) (c : Connection) → c.back ≡ None → IsAway (length xs) (xs ++ c ∷ [])
last_away [] c none = (c, refl, none)
last_away (x ∷ xs) c none = last_away xs c none

pub last_back : (xs : List Connection) (c : Connection) (ending : Ending)
    → came_back (length xs) ending (xs ++ c ∷ []) ≡ xs ++ record { came = c.came; back = Some ending } ∷ []
last_back [] c ending = refl
last_back (x ∷ xs) c ending = ap (λ (l : List Connection). x ∷ l) (last_back xs c ending)

-- ---- what holds of each, and of any two

module _ (P : Course → Type 0) where
  pub at_place : (courses : List Course) (place : ℕ) (course : Course) → slice_get courses place ≡ Some course
      → All P courses → P course
  at_place [] place course at all = absurd (cc)
  at_place (c ∷ courses) zero course at all =
      let is : c ≡ course = cc in subst P is (All-head P c courses all)
  at_place (c ∷ courses) (suc place) course at all = at_place courses place course at (All-tail P c courses all)

  pub each_finished : (courses : List Course) (place : ℕ) (arrival : Arrival) (after : List Noted) (ending : Ending)
      → slice_get courses place ≡ Some (under_way arrival)
      → P (over (record { arrival = arrival; after = after; ending = ending }))
      → All P courses → All P (finished place after ending courses)
  each_finished [] place arrival after ending at p all = all
  each_finished (over visit ∷ courses) zero arrival after ending at p all = all
  each_finished (under_way start ∷ courses) zero arrival after ending at p all =
      let is : arrival ≡ start = cc in
      All-cons P (over (record { arrival = start; after = after; ending = ending })) courses
      (subst (λ (a : Arrival). P (over (record { arrival = a; after = after; ending = ending }))) is p)
      (All-tail P (under_way start) courses all)
  each_finished (course ∷ courses) (suc place) arrival after ending at p all =
      All-cons P course (finished place after ending courses) (All-head P course courses all)
      (each_finished courses place arrival after ending at p (All-tail P course courses all))

module _ (Q : Arrival → Type 0) where
  abbrev of_start : Course → Type 0
  of_start course = Q (start_of course)

  -- what is said of how they were accepted stays
  starts_finished : (courses : List Course) (place : ℕ) (after : List Noted) (ending : Ending)
      → All of_start courses → All of_start (finished place after ending courses)
  starts_finished [] place after ending all = all
  starts_finished (over visit ∷ courses) zero after ending all = all
  starts_finished (under_way start ∷ courses) zero after ending all =
      All-cons of_start (over (record { arrival = start; after = after; ending = ending })) courses
      (All-head of_start (under_way start) courses all) (All-tail of_start (under_way start) courses all)
  starts_finished (course ∷ courses) (suc place) after ending all =
      All-cons of_start course (finished place after ending courses) (All-head of_start course courses all)
      (starts_finished courses place after ending (All-tail of_start course courses all))

-- one that is over leaves those apart that it left apart under way
over_apart : (arrival : Arrival) (after : List Noted) (ending : Ending) (courses : List Course)
    → All (CoursesApart (under_way arrival)) courses
    → All (CoursesApart (over (record { arrival = arrival; after = after; ending = ending }))) courses
over_apart arrival after ending [] all =
    All-nil (CoursesApart (over (record { arrival = arrival; after = after; ending = ending })))
over_apart arrival after ending (c ∷ courses) all =
    All-cons (CoursesApart (over (record { arrival = arrival; after = after; ending = ending }))) c courses
    (inl (All-head (CoursesApart (under_way arrival)) c courses all))
    (over_apart arrival after ending courses (All-tail (CoursesApart (under_way arrival)) c courses all))

pub apart_finished : (courses : List Course) (place : ℕ) (after : List Noted) (ending : Ending)
    → OfAnyTwo CoursesApart courses → OfAnyTwo CoursesApart (finished place after ending courses)
apart_finished [] place after ending apart = apart
apart_finished (over visit ∷ courses) zero after ending apart = apart
apart_finished (under_way start ∷ courses) zero after ending apart =
    (over_apart start after ending courses apart.0, apart.1)
apart_finished (course ∷ courses) (suc place) after ending apart = (
  starts_finished (LeavesApart course) courses place after ending apart.0,
  apart_finished courses place after ending apart.1,
)

-- a further one at the end
pub two_more : {A : Type 0} (R : A → A → Type 0) (xs : List A) (y : A) → All (λ x. R x y) xs → OfAnyTwo R xs
    → OfAnyTwo R (xs ++ y ∷ [])
two_more R [] y all apart = (All-nil (R y), tt)
two_more {A} R (x ∷ xs) y all apart =
    (snoc xs apart.0, two_more R xs y (All-tail (λ (z : A). R z y) x xs all) apart.1)
  where
    snoc : (zs : List A) → All (R x) zs → All (R x) (zs ++ y ∷ [])
    snoc [] h = All-cons (R x) y [] (All-head (λ (z : A). R z y) x xs all) (All-nil (R x))
    snoc (z ∷ zs) h = All-cons (R x) z (zs ++ y ∷ []) (All-head (R x) z zs h) (snoc zs (All-tail (R x) z zs h))

pub one_more_holds : {A : Type 0} (P : A → Type 0) (xs : List A) (y : A) → All P xs → P y → All P (xs ++ y ∷ [])
one_more_holds P [] y all p = All-cons P y [] p (All-nil P)
one_more_holds P (x ∷ xs) y all p =
    All-cons P x (xs ++ y ∷ []) (All-head P x xs all) (one_more_holds P xs y (All-tail P x xs all) p)

-- ---- where no thread is left, all are over

module _ {E K W A : Type 0} (begun : Begun E K W A) where
  pub all_over : (number : ℕ) (courses : List Course) → length (threads_of begun number courses) ≡ 0
      → courses ≡ map over (visits_of courses)
  all_over number [] none = refl
  all_over number (under_way arrival ∷ courses) none = absurd (omega arith)
  all_over number (over visit ∷ courses) none =
      ap (λ (l : List Course). over visit ∷ l) (all_over (suc number) courses none)

pub shown_over : (visits : List Visit) → map shown_course (map over visits) ≡ map connection_of visits
shown_over [] = refl
shown_over (visit ∷ visits) = ap (λ (l : List Connection). connection_of visit ∷ l) (shown_over visits)

pub count_over : (visits : List Visit) → length (map over visits) ≡ length visits
count_over [] = refl
count_over (visit ∷ visits) = ap suc (count_over visits)

pub apart_over : (visits : List Visit) → OfAnyTwo CoursesApart (map over visits) → OfAnyTwo AreApart visits
apart_over [] apart = tt
apart_over (visit ∷ visits) apart = (each visits apart.0, apart_over visits apart.1)
  where
    each : (ts : List Visit) → All (CoursesApart (over visit)) (map over ts) → All (AreApart visit) ts
    each [] all = All-nil (AreApart visit)
    each (t ∷ ts) all =
        All-cons (AreApart visit) t ts (All-head (CoursesApart (over visit)) (over t) (map over ts) all)
        (each ts (All-tail (CoursesApart (over visit)) (over t) (map over ts) all))

pub visits_over : (visits : List Visit) → visits_of (map over visits) ≡ visits
visits_over [] = refl
visits_over (visit ∷ visits) = ap (λ (l : List Visit). visit ∷ l) (visits_over visits)

-- ---- what a caller added in the visits that are over

pub one_visit_more : (courses : List Course) (visit : Visit) → visits_of (courses ++ over visit ∷ [])
    ≡ visits_of courses ++ visit ∷ []
one_visit_more [] visit = refl
one_visit_more (under_way arrival ∷ courses) visit = one_visit_more courses visit
one_visit_more (over t ∷ courses) visit = ap (λ (l : List Visit). t ∷ l) (one_visit_more courses visit)

pub no_visit_more : (courses : List Course) (arrival : Arrival) → visits_of (courses ++ under_way arrival ∷ [])
    ≡ visits_of courses
no_visit_more [] arrival = refl
no_visit_more (under_way start ∷ courses) arrival = no_visit_more courses arrival
no_visit_more (over t ∷ courses) arrival = ap (λ (l : List Visit). t ∷ l) (no_visit_more courses arrival)

module _ (number : ℕ) where
  pub nothing_added : (visit : Visit) → visit.arrival.caller ≢ number → added_by number visit ≡ []
  nothing_added visit other =
      ap (λ (b : Bool). if b then items_of number (drop (length visit.arrival.before) visit.after) else [])
      (ne_eqb visit.arrival.caller number other)

  pub own_added : (visit : Visit) → visit.arrival.caller ≡ number
      → added_by number visit ≡ items_of number (drop (length visit.arrival.before) visit.after)
  own_added visit own =
      ap (λ (b : Bool). if b then items_of number (drop (length visit.arrival.before) visit.after) else [])
      (eq-eqb visit.arrival.caller number own)

  -- another's connection that is over adds nothing of this caller's
  pub added_finished : (courses : List Course) (place : ℕ) (arrival : Arrival) (after : List Noted) (ending : Ending)
      → slice_get courses place ≡ Some (under_way arrival) → arrival.caller ≢ number
      → flat_map (added_by number) (visits_of (finished place after ending courses))
      ≡ flat_map (added_by number) (visits_of courses)
  added_finished [] place arrival after ending at other = refl
  added_finished (under_way start ∷ courses) zero arrival after ending at other =
      let is : start ≡ arrival = cc in
      ap (λ (l : List Noted). l ++ flat_map (added_by number) (visits_of courses))
      (nothing_added (record { arrival = start; after = after; ending = ending })
      (λ same. other (sym (ap (λ (a : Arrival). a.caller) is) ∙ same)))
  added_finished (over visit ∷ courses) zero arrival after ending at other = absurd (cc)
  added_finished (under_way start ∷ courses) (suc place) arrival after ending at other =
      added_finished courses place arrival after ending at other
  added_finished (over visit ∷ courses) (suc place) arrival after ending at other =
      ap (λ (l : List Noted). added_by number visit ++ l) (added_finished courses place arrival after ending at other)

  pub added_more : (courses : List Course) (visit : Visit) → visit.arrival.caller ≡ number
      → flat_map (added_by number) (visits_of courses)
      ++ items_of number (drop (length visit.arrival.before) visit.after)
      ≡ flat_map (added_by number) (visits_of (courses ++ over visit ∷ []))
  added_more courses visit own =
      ap (λ (l : List Noted). flat_map (added_by number) (visits_of courses) ++ l)
      (sym (own_added visit own) ∙ sym (append-nil (added_by number visit)))
      ∙ sym (flat_map-append (added_by number) (visits_of courses) (visit ∷ []))
      ∙ ap (λ (l : List Visit). flat_map (added_by number) l) (sym (one_visit_more courses visit))
