-- Where accepting stands, step by step.
use Rattle.std.proofs.Common.{◌≡◌, ◌⊎◌, inl, inr, ℕ, zero, suc, max, ◌+◌, ◌<◌, ◌≤◌, Bool, List, [], ◌∷◌, ◌++◌, map, length, take, drop, slice_index_or, refl, sym, ap, subst, ◌∙◌, arith}
use Rattle.std.specs.Prelude.{Option, Some, None, IfSome, All, ◌≢◌, IsTrue}
use Rattle.std.specs.Option.{option_map}
use Rattle.std.specs.List.{Contains, flat_map}
use Rattle.std.proofs.Math.Nat.{le-max_left, max-le}
use Rattle.std.proofs.lemmas.Bool.{cases_lt}
use mathlib.Core.Logic.{dite}
use native.Mathlib.Decide.{ℕ_discrete}
use Rattle.std.proofs.lemmas.List.{append-nil}
use Rattle.cell_value.specs.FaultCount.{last_count, Rose, StaysSteady}
use Rattle.std.proofs.lemmas.List.Elements.{All-nil, All-cons, All-head, All-tail, All-weaker, All-contains, Contains-append_left, Contains-append_right}
use Rattle.history_lock.specs.History.{StartsWith, NoneOf, AreSilent}
use Rattle.history_lock.specs.declared.view.Drawing.TheVariants.{Alone}
use Rattle.history_lock.specs.Passes.{seen_by, number_of, count_of, drawing_of, met_by}
use Rattle.history_lock.specs.declared.pass.Pass.{Pass}
use Rattle.desk.specs.declared.desk.Desk.{Desk}
use Rattle.desk.specs.declared.entry.Noted.{Noted}
use Rattle.desk.specs.Desks.{IsPass, list_at}
use Rattle.desk.specs.Points.{caller_of}
use Rattle.connections.specs.Calls.{UserTable}
use Rattle.connections.specs.Doors.{LinkSeen, IsFresh, Ending, Connection, Shown, IsAway, came_back, after_accept, after_refusal, after_back}
use Rattle.serving.specs.declared.accepting.Served.{Served}
use Rattle.serving.specs.declared.accepting.Served.TheVariants as served
use Rattle.serving.specs.Serving.{AnswersAt, Arrival, Visit, IsAnother, WasServed, OfAnyTwo, HasAccepted, asked, showing, HaveTalked, Begun, Waiting, Accepting, arrival_of, IsTalked, HasMet, Course, under_way, over, shown_course, thread_of, threads_of, IsGiven, Fits, CoursesApart, AcceptsSo, Stands, HasAsked, HaveAllTalked, visits_of, items_of, added_by, visitor, HasVisitor, caller_in, AreAmong}
use Rattle.serving.proofs.Histories.{starts_whole, starts_through, items_grown, items_same, nothing_behind, all_behind, none_from}
use Rattle.serving.proofs.Courses.{finished, found, one_thread_more, no_thread_more, away, back, as_many, last_away, last_back, at_place, each_finished, apart_finished, two_more, one_more_holds, all_over, shown_over, count_over, apart_over, no_visit_more, added_finished, added_more, same_callers, visitors_over, visited}

-- ---- what is shown after two calls of the doors

-- a connection that was just accepted
abbrev newcomer : LinkSeen → Connection
newcomer link = record { came = link; back = None }

shown_then : (o before shown : Option Shown) (f g h : Shown → Shown) → before ≡ option_map f o
    → shown ≡ option_map g before → ((s : Shown) → g (f s) ≡ h s) → shown ≡ option_map h o
shown_then None before shown f g h first second same =
    second ∙ ap (λ (b : Option Shown). option_map g b) first
shown_then (Some s) before shown f g h first second same =
    second ∙ ap (λ (b : Option Shown). option_map g b) first ∙ ap Some (same s)

shown_away : (o shown : Option Shown) (number calls : ℕ) (connections : List Connection) → IsAway number connections
    → shown ≡ option_map (showing calls connections) o → IfSome shown (λ s. IsAway number s.connections)
shown_away o shown number calls connections is same =
    subst (λ (b : Option Shown). IfSome b (λ s. IsAway number s.connections)) (sym same) (cases o)
  where
    cases : (o : Option Shown) → IfSome (option_map (showing calls connections) o) (λ s. IsAway number s.connections)
    cases None = tt
    cases (Some s) = is

-- the count of calls and the connections, by which doors show the same
showing_same : (calls calls' : ℕ) (xs ys : List Connection) (s : Shown) → calls ≡ calls' → xs ≡ ys
    → showing calls xs s ≡ showing calls' ys s
showing_same calls calls' xs ys s same these =
    ap (λ (n : ℕ). showing n xs s) same ∙ ap (λ (l : List Connection). showing calls' l s) these

snoc_length : {A : Type 0} (xs : List A) (x : A) → suc (length xs) ≡ length (xs ++ x ∷ [])
snoc_length [] x = refl
snoc_length (y ∷ xs) x = ap suc (snoc_length xs x)

snoc_map : {A B : Type 0} (f : A → B) (xs : List A) (x : A) → map f xs ++ f x ∷ [] ≡ map f (xs ++ x ∷ [])
snoc_map f [] x = refl
snoc_map f (y ∷ xs) x = ap (λ l. f y ∷ l) (snoc_map f xs x)

map_length : {A B : Type 0} (f : A → B) (xs : List A) → length (map f xs) ≡ length xs
map_length f [] = refl
map_length f (x ∷ xs) = ap suc (map_length f xs)

-- ---- what a later pass knows

-- it has seen what the pass had seen, and took in those that this one had taken in
record IsLater (pass pass' : Pass Noted) : Type 0 where
  pub seen : StartsWith (seen_by pass') (seen_by pass)
  pub count : count_of pass ≤ count_of pass'
  pub met : (m : ℕ × ℕ) → Contains (met_by pass) m → Contains (met_by pass') m

-- it has seen and taken in the same, and knows of as many numbers or more
pub record HasRecounted (pass pass' : Pass Noted) : Type 0 where
  pub drawing : drawing_of pass' ≡ drawing_of pass
  pub seen : seen_by pass' ≡ seen_by pass
  pub count : count_of pass ≤ count_of pass'
  pub met : met_by pass' ≡ met_by pass

later_recounted : (pass pass' : Pass Noted) → HasRecounted pass pass' → IsLater pass pass'
later_recounted pass pass' has = record {
  seen = subst (λ (l : List Noted). StartsWith l (seen_by pass)) (sym has.seen) (starts_whole (seen_by pass));
  count = has.count;
  met = λ m is. subst (λ (l : List (ℕ × ℕ)). Contains l m) (sym has.met) is;
}

later_met : {E K W A : Type 0} (desk : Desk E K W A) (pass other met : Pass Noted) → HasMet desk pass other met
    → IsLater pass met
later_met desk pass other met has = record {
  seen = has.mine;
  count = subst (λ n. count_of pass ≤ n) (sym has.count) (le-max_left (count_of pass) (count_of other));
  met = λ m is. subst (λ (l : List (ℕ × ℕ)). Contains l m) (sym has.met_is)
      (Contains-append_left (met_by pass) ((number_of other, length (seen_by other)) ∷ met_by other) m is);
}

-- a number more, which is the count, is among these and it
among_more : (from count : ℕ) (numbers : List ℕ) (n last : ℕ) → AreAmong from count numbers → last ≡ count → from ≤ n
    → n < last + 1 → Contains (numbers ++ last ∷ []) n
among_more from count numbers n last among is le lt = elim (cases_lt n count) [
  | inl early ↦ Contains-append_left numbers (last ∷ []) n (among n le early)
  | inr late ↦ Contains-append_right numbers (last ∷ []) n (0, omega arith, omega arith)
]

-- an item is a connection's, or from another than the first caller that had a number before
one_visited : (number from count : ℕ) (visits : List Visit) (item : Noted) → AreAmong from count (map visitor visits)
    → caller_of item < count → Contains (map visitor visits) number ⊎ (caller_of item ≢ number)
    → HasVisitor number from visits item
one_visited number from count visits item among lt own = elim (cases_lt (caller_of item) from) [
  | inl early ↦
      dite (ℕ_discrete (caller_of item) number)
      (λ (same : caller_of item ≡ number). elim own [
        | inl there ↦ inl (subst (Contains (map visitor visits)) (sym same) there)
        | inr else ↦ absurd (else same)
      ])
      (λ (else : caller_of item ≢ number). inr (early, else))
  | inr late ↦ inl (among (caller_of item) late lt)
]

each_visited : (number from count : ℕ) (visits : List Visit) (items : List Noted)
    → AreAmong from count (map visitor visits) → All (λ item. caller_of item < count) items
    → Contains (map visitor visits) number ⊎ NoneOf caller_of number items
    → All (HasVisitor number from visits) items
each_visited number from count visits [] among low own = All-nil (HasVisitor number from visits)
each_visited number from count visits (item ∷ items) among low own =
    All-cons (HasVisitor number from visits) item items
    (one_visited number from count visits item among
    (All-head (λ item. caller_of item < count) item items low)
    (elim own [
      | inl there ↦ inl there
      | inr none ↦ inr (All-head (λ (i : Noted). caller_of i ≢ number) item items none)
    ]))
    (each_visited number from count visits items among (All-tail (λ item. caller_of item < count) item items low)
    (elim own [
      | inl there ↦ inl there
      | inr none ↦ inr (All-tail (λ (i : Noted). caller_of i ≢ number) item items none)
    ]))

module _ {E K W A : Type 0} (answers : AnswersAt E K W A) (begun : Begun E K W A) where
  given_later : (count count' : ℕ) (arrival : Arrival) → count ≤ count' → IsGiven begun count arrival
      → IsGiven begun count' arrival
  given_later count count' arrival le is = record { another = is.another; below = omega (arith, is.below) }

  -- what is known stays known
  fits_later : (pass pass' : Pass Noted) (course : Course) → IsLater pass pass' → Fits answers begun pass course
      → Fits answers begun pass' course
  fits_later pass pass' (under_way arrival) later (arrived, is) =
      (arrived, given_later (count_of pass) (count_of pass') arrival later.count is)
  fits_later pass pass' (over visit) later (arrived, talked, within, by) = (
    arrived,
    talked,
    starts_through (seen_by pass') (seen_by pass) visit.after later.seen within,
    elim by [
      | inl own ↦ inl own
      | inr is ↦ inr (record {
        given = given_later (count_of pass) (count_of pass') visit.arrival later.count is.given;
        met = later.met (visit.arrival.caller, length visit.after) is.met;
      })
    ],
  )

  all_later : (pass pass' : Pass Noted) (courses : List Course) → IsLater pass pass'
      → All (Fits answers begun pass) courses → All (Fits answers begun pass') courses
  all_later pass pass' courses later =
      All-weaker (Fits answers begun pass) (Fits answers begun pass')
      (λ course fits. fits_later pass pass' course later fits) courses

  -- a connection of a new number is apart from those before it
  new_apart : (pass : Pass Noted) (arrival : Arrival) → count_of pass ≤ arrival.caller
      → arrival.caller ≢ number_of begun.pass → (course : Course) → Fits answers begun pass course
      → CoursesApart course (under_way arrival)
  new_apart pass arrival le other (under_way start) (arrived, is) =
      λ same. absurd (omega (arith, is.below, same))
  new_apart pass arrival le other (over visit) (arrived, talked, within, by) = elim by [
    | inl own ↦ inl (λ same. other (sym same ∙ own))
    | inr is ↦ inl (λ same. absurd (omega (arith, is.given.below, same)))
  ]

  -- and so is one of the first pass, which has seen what they had seen at their end
  own_apart : (pass : Pass Noted) (visit : Visit) → visit.arrival.caller ≡ number_of begun.pass
      → visit.arrival.before ≡ seen_by pass → (course : Course) → Fits answers begun pass course
      → CoursesApart course (over visit)
  own_apart pass visit own same (under_way start) (arrived, is) = λ e. is.another.other (e ∙ own)
  own_apart pass visit own same (over t) (arrived, talked, within, by) =
      inr (subst (λ (l : List Noted). StartsWith l t.after) (sym same) within)

  -- ---- the steps

  module _ (threads : List (Waiting E K W A)) (accepted : ℕ) (end : Served) (shown : Option Shown) (pass : Pass Noted)
    where
      -- another thread's connection is back
      pub comes_back : (met other : Pass Noted) (threads' xs ys : List (Waiting E K W A)) (w : Waiting E K W A)
          (shown' : Option Shown) (ending : Ending) → threads ≡ xs ++ w ∷ ys → threads' ≡ xs ++ ys
          → IsTalked answers w.desk w.users w.arrival w.count ending other → HasMet begun.desk pass other met
          → shown' ≡ option_map (after_back w.number ending) shown
          → AcceptsSo answers begun pass threads accepted end shown
          → AcceptsSo answers begun met threads' accepted end shown'
      comes_back met other threads' xs ys w shown' ending are are' talked has shows s =
          let (place, at) = found begun 0 s.courses xs w ys (sym s.threads_are ∙ are) in
          let after = seen_by other in
          let number : w.number ≡ place = at.number_is ∙ omega arith in
          let talked' : IsTalked answers begun.desk begun.users w.arrival w.count ending other =
          subst (λ (u : UserTable). IsTalked answers begun.desk u w.arrival w.count ending other) at.users_is
          (subst (λ (d : Desk E K W A). IsTalked answers d w.users w.arrival w.count ending other) at.desk_is talked) in
          let before : Fits answers begun pass (under_way w.arrival) =
          at_place (Fits answers begun pass) s.courses place (under_way w.arrival) at.at s.each in
          let known : count_of other ≤ count_of pass = omega (arith, talked'.count_is, at.count_is, before.1.below) in
          let no_more : max (count_of pass) (count_of other) ≤ count_of pass = max-le (omega arith) known in
          let fits : All (Fits answers begun met) s.courses =
          all_later pass met s.courses (later_met begun.desk pass other met has) s.each in
          let this : Fits answers begun met (under_way w.arrival) =
          at_place (Fits answers begun met) s.courses place (under_way w.arrival) at.at fits in
          let taken_in : Contains (met_by met) (w.arrival.caller, length after) =
          subst (λ (n : ℕ). Contains (met_by met) (n, length after)) talked'.number_is
          (subst (λ (l : List (ℕ × ℕ)). Contains l (number_of other, length after)) (sym has.met_is)
          (Contains-append_right (met_by pass) ((number_of other, length after) ∷ met_by other)
          (number_of other, length after) (0, omega arith, refl))) in
          record {
            courses = finished place after ending s.courses;
            pass_is = has.pass_is;
            number_is = has.number_is ∙ s.number_is;
            drawing_is = has.drawing_is ∙ s.drawing_is;
            callers = λ alone number from below.
                subst (λ l. Contains l number) (sym (same_callers s.courses place after ending))
                (s.callers alone number from (omega (arith, below, has.count, no_more)));
            sees = starts_through (seen_by met) (seen_by pass) (seen_by begun.pass) has.mine s.sees;
            own = items_same (number_of begun.pass) (seen_by begun.pass) (seen_by pass) (seen_by met) s.sees has.mine
                (subst (λ (n : ℕ). NoneOf caller_of n (drop (length (seen_by pass)) (seen_by met))) s.number_is has.own)
                ∙ s.own
                ∙ sym (added_finished (number_of begun.pass) s.courses place w.arrival after ending at.at
                this.1.another.other);
            each = each_finished (Fits answers begun met) s.courses place w.arrival after ending
                at.at (this.0, talked'.visit, has.theirs, inr (record { given = this.1; met = taken_in })) fits;
            apart = apart_finished s.courses place after ending s.apart;
            threads_are = are' ∙ sym (at.others after ending);
            accepted_is = s.accepted_is ∙ sym (as_many s.courses place after ending);
            shown_is = shown_then begun.shown shown shown'
                (showing (asked end (length s.courses)) (map shown_course s.courses)) (after_back w.number ending)
                (showing (asked end (length (finished place after ending s.courses)))
                (map shown_course (finished place after ending s.courses)))
                s.shown_is shows
                (λ shows. showing_same (asked end (length s.courses))
                (asked end (length (finished place after ending s.courses)))
                (came_back w.number ending (map shown_course s.courses))
                (map shown_course (finished place after ending s.courses)) shows
                (ap (asked end) (sym (as_many s.courses place after ending)))
                (ap (λ (n : ℕ). came_back n ending (map shown_course s.courses)) number
                ∙ back s.courses place w.arrival after ending at.at));
          }

      -- until then it is away
      pub is_away : (xs ys : List (Waiting E K W A)) (w : Waiting E K W A) → threads ≡ xs ++ w ∷ ys
          → AcceptsSo answers begun pass threads accepted end shown
          → IfSome shown (λ s. IsAway w.number s.connections)
      is_away xs ys w are s =
          let (place, at) = found begun 0 s.courses xs w ys (sym s.threads_are ∙ are) in
          let number : place ≡ w.number = sym (at.number_is ∙ omega arith) in
          shown_away begun.shown shown w.number (asked end (length s.courses)) (map shown_course s.courses)
          (subst (λ (n : ℕ). IsAway n (map shown_course s.courses)) number (away s.courses place w.arrival at.at))
          s.shown_is

  -- a pass that has seen the same, and knows of more numbers
  pub recounts : (threads : List (Waiting E K W A)) (accepted : ℕ) (end : Served) (shown : Option Shown)
      (pass pass' : Pass Noted) → IsPass begun.desk pass' → number_of pass' ≡ number_of pass → HasRecounted pass pass'
      → (drawing_of pass ≡ Alone → count_of pass' ≡ count_of pass)
      → AcceptsSo answers begun pass threads accepted end shown
      → AcceptsSo answers begun pass' threads accepted end shown
  recounts threads accepted end shown pass pass' is number recounted none s = record {
    courses = s.courses;
    pass_is = is;
    number_is = number ∙ s.number_is;
    drawing_is = recounted.drawing ∙ s.drawing_is;
    callers = λ alone n from below. s.callers alone n from (omega (arith, below, none (s.drawing_is ∙ alone)));
    sees = subst (λ (l : List Noted). StartsWith l (seen_by begun.pass)) (sym recounted.seen) s.sees;
    own = ap (λ (l : List Noted). items_of (number_of begun.pass) (drop (length (seen_by begun.pass)) l)) recounted.seen
        ∙ s.own;
    each = all_later pass pass' s.courses (later_recounted pass pass' recounted) s.each;
    apart = s.apart;
    threads_are = s.threads_are;
    accepted_is = s.accepted_is;
    shown_is = s.shown_is;
  }

  -- nothing was accepted yet
  pub begins : (pass : Pass Noted) (threads : List (Waiting E K W A)) (shown : Option Shown) → IsPass begun.desk pass
      → begun.pass ≡ pass → threads ≡ [] → begun.shown ≡ shown → IfSome shown (λ s. s.connections ≡ [])
      → AcceptsSo answers begun pass threads 0 served.All shown
  begins pass threads shown is first none same fresh = record {
    courses = [];
    pass_is = is;
    number_is = ap (λ (p : Pass Noted). number_of p) (sym first);
    drawing_is = ap (λ (p : Pass Noted). drawing_of p) (sym first);
    callers = λ _ n from below. absurd (omega (arith, from, below, ap (λ (p : Pass Noted). count_of p) first));
    sees = subst (λ (p : Pass Noted). StartsWith (seen_by pass) (seen_by p)) (sym first) (starts_whole (seen_by pass));
    own = ap (λ (p : Pass Noted). items_of (number_of begun.pass) (drop (length (seen_by p)) (seen_by pass))) first
        ∙ nothing_behind (number_of begun.pass) (seen_by pass);
    each = All-nil (Fits answers begun pass);
    apart = tt;
    threads_are = none;
    accepted_is = refl;
    shown_is = nothing shown fresh ∙ ap (λ (o : Option Shown). option_map (showing 0 []) o) (sym same);
  }
    where
      nothing : (o : Option Shown) → IfSome o (λ s. s.connections ≡ []) → o ≡ option_map (showing 0 []) o
      nothing None fresh = refl
      nothing (Some s) fresh = ap (λ (l : List Connection).
          Some (record { opened = s.opened; accepts = s.accepts; connections = l })) fresh

  -- ---- a further connection

  module _ (threads : List (Waiting E K W A)) (accepted : ℕ) (shown before : Option Shown) (pass : Pass Noted)
      (link : LinkSeen) (fresh : IsFresh link) (s : AcceptsSo answers begun pass threads accepted served.All before)
      (shows : shown ≡ option_map (after_accept link) before) where
    -- it is shown behind the others
    shown_newcomer : shown ≡ option_map (showing (suc (length s.courses))
        (map shown_course s.courses ++ newcomer link ∷ [])) begun.shown
    shown_newcomer = shown_then begun.shown before shown
        (showing (length s.courses) (map shown_course s.courses)) (after_accept link)
        (showing (suc (length s.courses)) (map shown_course s.courses ++ newcomer link ∷ []))
        s.shown_is shows (λ x. refl)

    number : accepted ≡ length (map shown_course s.courses)
    number = s.accepted_is ∙ sym (map_length shown_course s.courses)

    pub newcomer_away : IfSome shown (λ x. IsAway accepted x.connections)
    newcomer_away =
        shown_away begun.shown shown accepted (suc (length s.courses))
        (map shown_course s.courses ++ newcomer link ∷ [])
        (subst (λ (n : ℕ). IsAway n (map shown_course s.courses ++ newcomer link ∷ []))
        (sym number) (last_away (map shown_course s.courses) (newcomer link) refl))
        shown_newcomer

    -- a thread serves it, with a pass of a new number
    pub starts : (pass' own : Pass Noted) (threads' : List (Waiting E K W A)) → IsPass begun.desk pass'
        → number_of pass' ≡ number_of pass → HasRecounted pass pass'
        → seen_by own ≡ seen_by pass → count_of pass ≤ number_of own
        → (drawing_of pass ≡ Alone → number_of own ≡ count_of pass) → count_of pass' ≡ number_of own + 1
        → IsAnother begun.desk (number_of pass) (arrival_of own link)
        → threads' ≡ threads ++ thread_of begun accepted (arrival_of own link) ∷ []
        → AcceptsSo answers begun pass' threads' (accepted + 1) served.All shown
    starts pass' own threads' is number_same recounted own_same next exact count another are =
        let arrival = arrival_of own link in
        let first : StartsWith (seen_by own) (seen_by begun.pass) =
        subst (λ (l : List Noted). StartsWith l (seen_by begun.pass)) (sym own_same) s.sees in
        let another' : IsAnother begun.desk (number_of begun.pass) arrival =
        subst (λ (n : ℕ). IsAnother begun.desk n arrival) s.number_is another in
        record {
          courses = s.courses ++ under_way arrival ∷ [];
          pass_is = is;
          number_is = number_same ∙ s.number_is;
          drawing_is = recounted.drawing ∙ s.drawing_is;
          callers = λ alone n from below.
              subst (λ l. Contains l n) (snoc_map caller_in s.courses (under_way arrival))
              (among_more (count_of begun.pass) (count_of pass) (map caller_in s.courses) n (number_of own)
              (s.callers alone) (exact (s.drawing_is ∙ alone)) from (omega (arith, below, count)));
          sees = subst (λ (l : List Noted). StartsWith l (seen_by begun.pass)) (sym recounted.seen) s.sees;
          own = ap (λ (l : List Noted). items_of (number_of begun.pass) (drop (length (seen_by begun.pass)) l))
              recounted.seen ∙ s.own
              ∙ ap (λ (l : List Visit). flat_map (added_by (number_of begun.pass)) l)
              (sym (no_visit_more s.courses arrival));
          each = one_more_holds (Fits answers begun pass') s.courses (under_way arrival)
              (all_later pass pass' s.courses (later_recounted pass pass' recounted) s.each)
              (record { fresh = fresh; begins = first }, record { another = another'; below = omega (arith, count) });
          apart = two_more CoursesApart s.courses (under_way arrival)
              (All-weaker (Fits answers begun pass) (λ course. CoursesApart course (under_way arrival))
              (new_apart pass arrival next another'.other) s.courses s.each) s.apart;
          threads_are = are ∙ ap (λ (l : List (Waiting E K W A)). l ++ thread_of begun accepted arrival ∷ [])
              s.threads_are
              ∙ ap (λ (n : ℕ). threads_of begun 0 s.courses
              ++ thread_of begun n arrival ∷ [])
              (s.accepted_is ∙ omega arith)
              ∙ sym (one_thread_more begun 0 s.courses arrival);
          accepted_is = ap (λ (n : ℕ). n + 1) s.accepted_is ∙ omega arith ∙ snoc_length s.courses (under_way arrival);
          shown_is = shown_newcomer ∙ ap (λ (h : Shown → Shown). option_map h begun.shown)
              (shown_more (under_way arrival));
        }
      where
        shown_more : (course : Course) → showing (suc (length s.courses))
            (map shown_course s.courses ++ shown_course course ∷ [])
            ≡ showing (length (s.courses ++ course ∷ [])) (map shown_course (s.courses ++ course ∷ []))
        shown_more course =
            ap (λ (n : ℕ). showing n (map shown_course s.courses ++ shown_course course ∷ []))
            (snoc_length s.courses course)
            ∙ ap (λ (l : List Connection). showing (length (s.courses ++ course ∷ [])) l)
            (snoc_map shown_course s.courses course)

    -- it was served with the first pass, and is back
    pub served_here : (pass' : Pass Noted) (shown' : Option Shown) (ending : Ending)
        → IsTalked answers begun.desk begun.users (arrival_of pass link) (count_of pass) ending pass'
        → drawing_of pass' ≡ drawing_of pass
        → met_by pass' ≡ met_by pass → shown' ≡ option_map (after_back accepted ending) shown
        → AcceptsSo answers begun pass' threads (accepted + 1) served.All shown'
    served_here pass' shown' ending talked drawing met shows' =
        let visit : Visit = record { arrival = arrival_of pass link; after = seen_by pass'; ending = ending } in
        record {
          courses = s.courses ++ over visit ∷ [];
          pass_is = talked.pass_is;
          number_is = talked.number_is ∙ s.number_is;
          drawing_is = drawing ∙ s.drawing_is;
          callers = λ alone n from below.
              subst (λ l. Contains l n) (snoc_map caller_in s.courses (over visit))
              (Contains-append_left (map caller_in s.courses) (caller_in (over visit) ∷ []) n
              (s.callers alone n from (omega (arith, below, talked.count_is))));
          sees = starts_through (seen_by pass') (seen_by pass) (seen_by begun.pass) talked.visit.grows s.sees;
          own = items_grown (number_of begun.pass) (seen_by begun.pass) (seen_by pass) (seen_by pass') s.sees
              talked.visit.grows
              ∙ ap (λ (l : List Noted). l ++ items_of (number_of begun.pass) (drop (length (seen_by pass))
              (seen_by pass'))) s.own
              ∙ added_more (number_of begun.pass) s.courses visit s.number_is;
          each = one_more_holds (Fits answers begun pass') s.courses (over visit)
              (all_later pass pass' s.courses
              (record {
                seen = talked.visit.grows;
                count = omega (arith, talked.count_is);
                met = λ m has. subst (λ (l : List (ℕ × ℕ)). Contains l m) (sym met) has;
              }) s.each)
              (record { fresh = fresh; begins = s.sees }, talked.visit, starts_whole (seen_by pass'), inl s.number_is);
          apart = two_more CoursesApart s.courses (over visit)
              (All-weaker (Fits answers begun pass) (λ course. CoursesApart course (over visit))
              (own_apart pass visit s.number_is refl) s.courses s.each) s.apart;
          threads_are = s.threads_are ∙ sym (no_thread_more begun 0 s.courses visit);
          accepted_is = ap (λ (n : ℕ). n + 1) s.accepted_is ∙ omega arith ∙ snoc_length s.courses (over visit);
          shown_is = shown_then begun.shown shown shown'
              (showing (suc (length s.courses))
              (map shown_course s.courses ++ newcomer link ∷ []))
              (after_back accepted ending)
              (showing (length (s.courses ++ over visit ∷ [])) (map shown_course (s.courses ++ over visit ∷ [])))
              shown_newcomer shows'
              (λ x. showing_same (suc (length s.courses)) (length (s.courses ++ over visit ∷ []))
              (came_back accepted ending
              (map shown_course s.courses ++ newcomer link ∷ []))
              (map shown_course (s.courses ++ over visit ∷ [])) x (snoc_length s.courses (over visit))
              (ap (λ (n : ℕ). came_back n ending
              (map shown_course s.courses ++ newcomer link ∷ [])) number
              ∙ last_back (map shown_course s.courses) (newcomer link) ending
              ∙ snoc_map shown_course s.courses (over visit)));
        }

  -- the doors failed
  pub fails : (threads : List (Waiting E K W A)) (accepted : ℕ) (shown shown' : Option Shown) (pass : Pass Noted)
      → shown' ≡ option_map after_refusal shown → AcceptsSo answers begun pass threads accepted served.All shown
      → AcceptsSo answers begun pass threads accepted served.DoorFault shown'
  fails threads accepted shown shown' pass shows s = record {
    courses = s.courses;
    pass_is = s.pass_is;
    number_is = s.number_is;
    drawing_is = s.drawing_is;
    callers = s.callers;
    sees = s.sees;
    own = s.own;
    each = s.each;
    apart = s.apart;
    threads_are = s.threads_are;
    accepted_is = s.accepted_is;
    shown_is = shown_then begun.shown shown shown' (showing (length s.courses) (map shown_course s.courses))
        after_refusal (showing (suc (length s.courses)) (map shown_course s.courses)) s.shown_is shows (λ x. refl);
  }

  -- ---- at the end

  module _ (pass : Pass Noted) (told : List Noted) (begins : StartsWith told (seen_by pass))
      (done : AreSilent caller_of (met_by pass) told) where
    -- what fits a connection that is over
    fits_over : (visit : Visit) → Fits answers begun pass (over visit)
        → WasServed answers begun.desk begun.users (number_of begun.pass) (seen_by begun.pass) told visit
    fits_over visit (arrived, talked, within, by) = record {
      arrived = arrived;
      talked = talked;
      within = starts_through told (seen_by pass) visit.after begins within;
      by = elim by [
        | inl own ↦ inl own
        | inr is ↦ inr (record {
          another = is.given.another;
          done = All-contains (λ (m : ℕ × ℕ). NoneOf caller_of m.0 (drop m.1 told)) (met_by pass)
              (visit.arrival.caller, length visit.after) done is.met;
        })
      ];
    }

    all_served : (visits : List Visit) → All (Fits answers begun pass) (map over visits)
        → All (WasServed answers begun.desk begun.users (number_of begun.pass) (seen_by begun.pass) told) visits
    all_served [] all =
        All-nil (WasServed answers begun.desk begun.users (number_of begun.pass) (seen_by begun.pass) told)
    all_served (visit ∷ visits) all =
        All-cons (WasServed answers begun.desk begun.users (number_of begun.pass) (seen_by begun.pass) told) visit
        visits
        (fits_over visit (All-head (Fits answers begun pass) (over visit) (map over visits) all))
        (all_served visits (All-tail (Fits answers begun pass) (over visit) (map over visits) all))

    -- where no thread is left, all have talked
    pub ends : (limit : ℕ) (end : Served) (shown : Option Shown)
        → NoneOf caller_of (number_of pass) (drop (length (seen_by pass)) told)
        → (all : HaveAllTalked answers begun pass limit end shown)
        → (talked : HaveTalked answers begun.desk begun.users (number_of begun.pass) (seen_by begun.pass) told limit end
        begun.shown shown) × (talked.visits ≡ visits_of all.stands.courses)
    ends limit end shown not_own all =
        let s = all.stands in
        let visits = visits_of s.courses in
        let over_all : s.courses ≡ map over visits = all_over begun 0 s.courses
        (sym (ap (λ (l : List (Waiting E K W A)). length l) s.threads_are)) in
        let count : length s.courses ≡ length visits =
        ap (λ (l : List Course). length l) over_all ∙ count_over visits in (
          record {
            visits = visits;
            each = all_served visits (subst (λ (l : List Course). All (Fits answers begun pass) l) over_all s.each);
            apart = apart_over visits (subst (λ (l : List Course). OfAnyTwo CoursesApart l) over_all s.apart);
            sees = starts_through told (seen_by pass) (seen_by begun.pass) begins s.sees;
            own = items_same (number_of begun.pass) (seen_by begun.pass) (seen_by pass) told s.sees begins
                (subst (λ (n : ℕ). NoneOf caller_of n (drop (length (seen_by pass)) told)) s.number_is not_own) ∙ s.own;
            accepted = subst (λ (n : ℕ). HasAccepted limit end n) (s.accepted_is ∙ count) all.counts;
            shown_is = s.shown_is ∙ ap (λ (h : Shown → Shown). option_map h begun.shown)
                (ap (λ (n : ℕ). showing (asked end n) (map shown_course s.courses)) count
                ∙ ap (λ (l : List Connection). showing (asked end (length visits)) l)
                (ap (λ (l : List Course). map shown_course l) over_all ∙ shown_over visits));
          },
          refl,
        )

    -- where nobody else drew numbers, each further item is a connection's, or from one that had a number before
    pub visitors_alone : (limit : ℕ) (end : Served) (shown : Option Shown) (start : List Noted)
        → StartsWith (seen_by begun.pass) start
        → (drawing_of pass ≡ Alone → All (λ item. caller_of item < count_of pass) (drop (length start) told))
        → (talked : HaveTalked answers begun.desk begun.users (number_of begun.pass) (seen_by begun.pass) told limit
        end begun.shown shown) → (all : HaveAllTalked answers begun pass limit end shown)
        → talked.visits ≡ visits_of all.stands.courses → drawing_of begun.pass ≡ Alone
        → All (HasVisitor (number_of begun.pass) (count_of begun.pass) talked.visits)
        (drop (length (seen_by begun.pass)) told)
    visitors_alone limit end shown start opened below talked all visits_are alone =
        let s = all.stands in
        let number = number_of begun.pass in
        let visits = talked.visits in
        let over_all : s.courses ≡ map over (visits_of s.courses) = all_over begun 0 s.courses
        (sym (ap (λ (l : List (Waiting E K W A)). length l) s.threads_are)) in
        let callers : map caller_in s.courses ≡ map visitor visits =
        ap (λ (l : List Course). map caller_in l) over_all ∙ visitors_over (visits_of s.courses)
        ∙ ap (λ (l : List Visit). map visitor l) (sym visits_are) in
        let further = drop (length (seen_by begun.pass)) told in
        let low : All (λ item. caller_of item < count_of pass) further =
        all_behind (λ item. caller_of item < count_of pass) start (seen_by begun.pass) told opened
        (below (s.drawing_is ∙ alone)) in
        each_visited number (count_of begun.pass) (count_of pass) visits further
        (subst (AreAmong (count_of begun.pass) (count_of pass)) callers (s.callers alone)) low
        (elim (visited number visits) [
          | inl there ↦ inl there
          | inr none ↦ inr (none_from number further (talked.own ∙ none))
        ])

-- ---- the same, of who accepts

-- the element at a place, and those round it
split_at : {A : Type 0} (at : ℕ) (xs : List A) (x : A) → at < length xs → x ≡ slice_index_or xs at x
    → xs ≡ take at xs ++ x ∷ drop (suc at) xs
split_at at [] x lt is = absurd (omega arith)
split_at zero (y ∷ ys) x lt is = ap (λ z. z ∷ ys) (sym is)
split_at (suc at) (y ∷ ys) x lt is = ap (λ l. y ∷ l) (split_at at ys x (omega arith) is)

-- a pass gave another, of a new number
pub record HasSplit {E K W A : Type 0} (desk : Desk E K W A) (pass pass' own : Pass Noted) : Type 0 where
  pub pass_is : IsPass desk pass'
  pub seen : seen_by pass' ≡ seen_by pass
  pub number : number_of pass' ≡ number_of pass
  pub drawing : drawing_of pass' ≡ drawing_of pass
  pub own_seen : seen_by own ≡ seen_by pass
  pub next : count_of pass ≤ number_of own
  pub exact : drawing_of pass ≡ Alone → number_of own ≡ count_of pass
  pub counted : count_of pass' ≡ number_of own + 1
  pub own_counted : count_of own ≡ number_of own + 1
  pub met : met_by pass' ≡ met_by pass
  pub other : number_of own ≢ number_of pass
  pub unused : NoneOf caller_of (number_of own) (drop (length (list_at desk)) (seen_by own))

module _ {E K W A : Type 0} (answers : AnswersAt E K W A) where
  stands_as : (acceptor : Accepting E K W A) (begun : Begun E K W A) (pass : Pass Noted)
      (threads : List (Waiting E K W A)) (accepted : ℕ) (end : Served) (shown : Option Shown)
      → acceptor.begun ≡ begun → acceptor.pass ≡ pass → acceptor.threads ≡ threads → acceptor.accepted ≡ accepted
      → acceptor.end ≡ end → AcceptsSo answers begun pass threads accepted end shown → Stands answers acceptor shown
  stands_as acceptor begun pass threads accepted end shown b p t a e s =
      subst (λ (x : Begun E K W A). AcceptsSo answers x acceptor.pass acceptor.threads acceptor.accepted acceptor.end
      shown)
      (sym b)
      (subst (λ (x : Pass Noted). AcceptsSo answers begun x acceptor.threads acceptor.accepted acceptor.end shown)
      (sym p)
      (subst (λ (x : List (Waiting E K W A)). AcceptsSo answers begun pass x acceptor.accepted acceptor.end
      shown) (sym t)
      (subst (λ (x : ℕ). AcceptsSo answers begun pass threads x acceptor.end shown) (sym a)
      (subst (λ (x : Served). AcceptsSo answers begun pass threads accepted x shown) (sym e) s))))

  module _ (acceptor : Accepting E K W A) (shown : Option Shown) (at : ℕ) (w : Waiting E K W A)
      (s : Stands answers acceptor shown) (lt : at < length acceptor.threads)
      (is : w ≡ slice_index_or acceptor.threads at w) where
    -- the thread at a place is of the desk
    pub of_desk : w.desk ≡ acceptor.begun.desk
    of_desk =
        (found acceptor.begun 0 s.courses (take at acceptor.threads) w (drop (suc at) acceptor.threads)
        (sym s.threads_are ∙ split_at at acceptor.threads w lt is)).1.desk_is

    -- and its connection is away
    pub thread_away : (n : ℕ) → n ≡ w.number → IfSome shown (λ s. IsAway n s.connections)
    thread_away n same =
        subst (λ (m : ℕ). IfSome shown (λ s. IsAway m s.connections)) (sym same)
        (is_away answers acceptor.begun acceptor.threads acceptor.accepted acceptor.end shown acceptor.pass
        (take at acceptor.threads) (drop (suc at) acceptor.threads) w (split_at at acceptor.threads w lt is) s)

    -- it is joined
    pub joined : (result : Accepting E K W A) (shown' : Option Shown) (n : ℕ) (ending : Ending) (other : Pass Noted)
        → n ≡ w.number → IsTalked answers w.desk w.users w.arrival w.count ending other → result.begun ≡ acceptor.begun
        → result.accepted ≡ acceptor.accepted → result.end ≡ acceptor.end
        → result.threads ≡ take at acceptor.threads ++ drop (at + 1) acceptor.threads
        → HasMet acceptor.begun.desk acceptor.pass other result.pass
        → shown' ≡ option_map (after_back n ending) shown → Stands answers result shown'
    joined result shown' n ending other same talked begun accepted end threads met shows =
        stands_as result acceptor.begun result.pass result.threads acceptor.accepted acceptor.end shown' begun refl refl
        accepted end
        (comes_back answers acceptor.begun acceptor.threads acceptor.accepted acceptor.end shown acceptor.pass
        result.pass other result.threads (take at acceptor.threads) (drop (suc at) acceptor.threads) w shown' ending
        (split_at at acceptor.threads w lt is)
        (threads ∙ ap (λ (n : ℕ). take at acceptor.threads ++ drop n acceptor.threads) one_more_place)
        talked met
        (shows ∙ ap (λ (m : ℕ). option_map (after_back m ending) shown) same) s)
      where
        one_more_place : at + 1 ≡ suc at
        one_more_place = omega arith

  -- it is so of whoever is the same
  pub asked_as : (acceptor same : Accepting E K W A) (link : LinkSeen) (shown : Option Shown) → same ≡ acceptor
      → HasAsked answers acceptor link shown → HasAsked answers same link shown
  asked_as acceptor same link shown is has =
      subst (λ (a : Accepting E K W A). HasAsked answers a link shown) (sym is) has

  module _ (acceptor : Accepting E K W A) (link : LinkSeen) (shown : Option Shown)
      (has : HasAsked answers acceptor link shown) where
    stands_before : AcceptsSo answers acceptor.begun acceptor.pass acceptor.threads acceptor.accepted served.All
        has.before
    stands_before =
        subst (λ (e : Served). AcceptsSo answers acceptor.begun acceptor.pass acceptor.threads acceptor.accepted e
        has.before) has.end_is has.stands

    -- the connection is away
    pub asked_away : IfSome shown (λ s. IsAway acceptor.accepted s.connections)
    asked_away =
        newcomer_away answers acceptor.begun acceptor.threads acceptor.accepted shown has.before acceptor.pass link
        has.fresh stands_before has.shown_is

    -- so it is for a pass that has seen the same
    pub asked_again : (result : Accepting E K W A) → result.begun ≡ acceptor.begun → result.accepted ≡ acceptor.accepted
        → result.end ≡ acceptor.end → result.threads ≡ acceptor.threads → IsPass acceptor.begun.desk result.pass
        → number_of result.pass ≡ number_of acceptor.pass → HasRecounted acceptor.pass result.pass
        → (drawing_of acceptor.pass ≡ Alone → count_of result.pass ≡ count_of acceptor.pass)
        → HasAsked answers result link shown
    asked_again result begun accepted end threads is number recounted none = record {
      before = has.before;
      stands = stands_as result acceptor.begun result.pass acceptor.threads acceptor.accepted acceptor.end has.before
          begun refl threads accepted end
          (recounts answers acceptor.begun acceptor.threads acceptor.accepted acceptor.end has.before acceptor.pass
          result.pass is number recounted none has.stands);
      end_is = end ∙ has.end_is;
      fresh = has.fresh;
      shown_is = has.shown_is;
    }

    -- it was served with the first pass
    pub served_own : (pass' : Pass Noted) (shown' : Option Shown) (ending : Ending)
        → IsTalked answers acceptor.begun.desk acceptor.begun.users (arrival_of acceptor.pass link)
        (count_of acceptor.pass) ending pass'
        → drawing_of pass' ≡ drawing_of acceptor.pass → met_by pass' ≡ met_by acceptor.pass
        → shown' ≡ option_map (after_back acceptor.accepted ending) shown
        → AcceptsSo answers acceptor.begun pass' acceptor.threads (acceptor.accepted + 1) acceptor.end shown'
    served_own pass' shown' ending talked drawing met shows =
        subst (λ (e : Served). AcceptsSo answers acceptor.begun pass' acceptor.threads (acceptor.accepted + 1) e shown')
        (sym has.end_is)
        (served_here answers acceptor.begun acceptor.threads acceptor.accepted shown has.before acceptor.pass link
        has.fresh stands_before has.shown_is pass' shown' ending talked drawing met shows)

    module _ (pass' own : Pass Noted) (split : HasSplit acceptor.begun.desk acceptor.pass pass' own) where
      last_given : count_of own ≡ suc (number_of own)
      last_given = split.own_counted ∙ omega arith

      -- a thread serves it
      pub started : (threads' : List (Waiting E K W A)) (w : Waiting E K W A) → threads' ≡ acceptor.threads ++ w ∷ []
          → w ≡ record {
            number = acceptor.accepted;
            arrival = arrival_of own link;
            count = count_of own;
            desk = acceptor.begun.desk;
            users = acceptor.begun.users;
          }
          → AcceptsSo answers acceptor.begun pass' threads' (acceptor.accepted + 1) acceptor.end shown
      started threads' w are is =
          subst (λ (e : Served). AcceptsSo answers acceptor.begun pass' threads' (acceptor.accepted + 1) e shown)
          (sym has.end_is)
          (starts answers acceptor.begun acceptor.threads acceptor.accepted shown has.before acceptor.pass link
          has.fresh
          stands_before has.shown_is pass' own threads' split.pass_is split.number
          (record {
            drawing = split.drawing;
            seen = split.seen;
            count = omega (arith, split.next, split.counted);
            met = split.met;
          })
          split.own_seen split.next split.exact split.counted
          (record { other = split.other; unused = split.unused })
          (are ∙ ap (λ (v : Waiting E K W A). acceptor.threads ++ v ∷ []) (is ∙ ap (λ (n : ℕ). record {
            number = acceptor.accepted;
            arrival = arrival_of own link;
            count = n;
            desk = acceptor.begun.desk;
            users = acceptor.begun.users;
          }) last_given)))

      -- no thread could be started, and it was served at once
      pub handed_back : (result : Accepting E K W A) (shown' : Option Shown) (ending : Ending) (other : Pass Noted)
          → IsTalked answers acceptor.begun.desk acceptor.begun.users (arrival_of own link) (count_of own) ending other
          → result.begun ≡ acceptor.begun → result.accepted ≡ acceptor.accepted + 1 → result.end ≡ acceptor.end
          → result.threads ≡ acceptor.threads → HasMet acceptor.begun.desk pass' other result.pass
          → shown' ≡ option_map (after_back acceptor.accepted ending) shown → Stands answers result shown'
      handed_back result shown' ending other talked begun accepted end threads met shows =
          let w : Waiting E K W A = thread_of acceptor.begun acceptor.accepted (arrival_of own link) in
          stands_as result acceptor.begun result.pass result.threads (acceptor.accepted + 1) acceptor.end shown' begun
          refl refl accepted end
          (comes_back answers acceptor.begun (acceptor.threads ++ w ∷ [])
          (acceptor.accepted + 1) acceptor.end shown pass'
          result.pass other result.threads acceptor.threads [] w shown' ending refl
          (threads ∙ sym (append-nil acceptor.threads))
          (subst (λ (n : ℕ). IsTalked answers acceptor.begun.desk acceptor.begun.users (arrival_of own link) n ending
          other) last_given talked) met shows
          (started (acceptor.threads ++ w ∷ []) w refl
          (ap (λ (n : ℕ). record {
            number = acceptor.accepted;
            arrival = arrival_of own link;
            count = n;
            desk = acceptor.begun.desk;
            users = acceptor.begun.users;
          }) (sym last_given))))

  -- the doors failed
  pub failed : (acceptor result : Accepting E K W A) (shown shown' : Option Shown) → acceptor.end ≡ served.All
      → result.begun ≡ acceptor.begun → result.pass ≡ acceptor.pass → result.threads ≡ acceptor.threads
      → result.accepted ≡ acceptor.accepted → result.end ≡ served.DoorFault
      → shown' ≡ option_map after_refusal shown → Stands answers acceptor shown → Stands answers result shown'
  failed acceptor result shown shown' all begun pass threads accepted end shows s =
      stands_as result acceptor.begun acceptor.pass acceptor.threads acceptor.accepted served.DoorFault shown' begun
      pass
      threads accepted end
      (fails answers acceptor.begun acceptor.threads acceptor.accepted shown shown' acceptor.pass shows
      (subst (λ (e : Served). AcceptsSo answers acceptor.begun acceptor.pass acceptor.threads acceptor.accepted e
      shown) all
      s))

  -- where no thread is left
  pub ended : (acceptor : Accepting E K W A) (begun : Begun E K W A) (pass : Pass Noted) (limit : ℕ) (end end' : Served)
      (accepted : ℕ) (shown : Option Shown) → acceptor.begun ≡ begun → pass ≡ acceptor.pass → end ≡ acceptor.end
      → acceptor.end ≡ end' → acceptor.accepted ≡ accepted → length acceptor.threads ≡ 0
      → HasAccepted limit end' accepted → Stands answers acceptor shown
      → HaveAllTalked answers begun pass limit end shown
  ended acceptor begun pass limit end end' accepted shown same pass_is end_is end'_is accepted_is none counts s =
      record {
        accepted = accepted;
        counts = subst (λ (e : Served). HasAccepted limit e accepted) (sym (end_is ∙ end'_is)) counts;
        stands = subst (λ (b : Begun E K W A). AcceptsSo answers b pass [] accepted end shown) same
            (subst (λ (p : Pass Noted). AcceptsSo answers acceptor.begun p [] accepted end shown) (sym pass_is)
            (subst (λ (e : Served). AcceptsSo answers acceptor.begun acceptor.pass [] accepted e shown) (sym end_is)
            (subst (λ (n : ℕ). AcceptsSo answers acceptor.begun acceptor.pass [] n acceptor.end shown) accepted_is
            (subst (λ (l : List (Waiting E K W A)). AcceptsSo answers acceptor.begun acceptor.pass l acceptor.accepted
            acceptor.end shown) (no_threads acceptor.threads none) s))));
      }
    where
      no_threads : (l : List (Waiting E K W A)) → length l ≡ 0 → l ≡ []
      no_threads [] is = refl
      no_threads (w ∷ ws) is = absurd (omega arith)

-- steady doors never fail
pub never_fails : (end : Served) (steady steady' : Bool) (failures failures' : ℕ)
    → (end ≡ served.DoorFault → Rose failures failures') → StaysSteady steady steady' failures failures'
    → (IsTrue steady → failures < last_count) → IsTrue steady → end ≡ served.All
never_fails served.All steady steady' failures failures' cause stays low is = refl
never_fails served.DoorFault steady steady' failures failures' cause stays low is =
    let same = (stays is).1 in let below = low is in
    elim (cause refl) [
      | inl more ↦ absurd (omega (arith, more, same))
      | inr last ↦ absurd (omega (arith, last, same, below))
    ]

-- a count that rose from a later one rose
pub rose_later : (a b c : ℕ) → a ≤ b → Rose b c → Rose a c
rose_later a b c le rose = elim rose [ inl more ↦ inl (omega (arith, more, le)) | inr last ↦ inr last ]

pub stays_then : (a b c : Bool) (x y z : ℕ) → StaysSteady a b x y → StaysSteady b c y z → StaysSteady a c x z
stays_then a b c x y z first second is =
    let (then, same) = first is in let (last, again) = second then in (last, again ∙ same)
