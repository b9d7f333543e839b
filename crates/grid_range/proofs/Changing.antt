-- The laws of following through inserts, deletes and moves.
use Rattle.std.proofs.Common.{◌≡◌, ℕ, zero, suc, ◌+◌, ◌-◌, ◌<◌, ◌≤◌, Bool, true, false, not, ◌&&◌, ◌||◌, List, [], ◌∷◌, ◌++◌, length, get_or, take, drop, Option, None, Some, arith, refl, sym, ap, subst, ◌∙◌, inl, inr, ◌⊎◌, append_assoc, length-append, add-zero}
use Rattle.std.specs.Prelude.{◌≢◌, slice_range, nat_le, ◌==◌, if◌then◌else◌}
use Rattle.std.specs.List.{Contains, list_all}
use Rattle.std.specs.Option.{option_map, option_and_then}
use Rattle.std.proofs.lemmas.Bool.{cases_lt, both_ways, and_from, and_parts, or_cases, le-leb, or_left, or_right}
use Rattle.std.proofs.lemmas.List.{get_or_default, take-append-drop, take_rest, drop_at}
use Rattle.std.proofs.lemmas.List.Elements.{Contains-append_cases, Contains-append_left, Contains-append_right}
use Rattle.std.proofs.lemmas.List.Folds.{list_any-append}
use Rattle.grid_range.specs.Order.{IsOrder, is_among, first_to_last, first_to_end}
use Rattle.grid_range.specs.NameBand.{NameBand, IsBandOf}
use Rattle.grid_range.specs.NameBand.NameBand.{Whole, Closed, Open}
use Rattle.grid_range.specs.Following.{survivors, settled, followed_names, follow}
use Rattle.grid_range.specs.OrderChange.{order_after}
use Rattle.grid_range.specs.OrderChange.OrderChange.{Inserting, Deleting}
use Rattle.grid_range.specs.FollowingLaws.{IsGone, BandsStay, IdleMoveKeeps, InsertLengthens, InsertBeside, LostForGood, DeleteInTurn, deleted_in_turn}
use Rattle.grid_range.proofs.Lists.{filter_same, is_among-filter}
use Rattle.grid_range.proofs.Changes.{without, skip, skip_is, length-without, get_or-without, without_order, without_without}
use Rattle.grid_range.proofs.Deletions.{ClosedUp, closed_up_exists, left_count, left_came, deleted, deleted_open, deleted_none}
use Rattle.grid_range.proofs.Orders.{part_is_slice, among_span, inside, inside_true, inside_from, inside_out}
use Rattle.grid_range.proofs.Ranges.{followed_cases, among_order, has, has_settled, reach, Covers, together, together_fills, hull}
use Rattle.grid_range.proofs.Arrivals.{Came, Arrives, Of, EndOf, covers, has_of, follow_lost}
use Rattle.grid_range.proofs.Following.{IsPart, place_of_name, names_lost, lost_where_gone, gives_bands}

nil_length : (xs : List ℕ) → xs ≢ [] → 0 < length xs
nil_length [] some = absurd (some refl)
nil_length (x ∷ xs) some = omega arith

-- each line comes from where it stands
stay : (order : List ℕ) → Came order order (λ j. j)
stay order = record { within = λ j l. l; same = λ j l. refl }

pub closed_stays : (order changed : List ℕ) (s e : ℕ) → IsOrder order → s < e → e ≤ length order
    → followed_names first_to_last order changed (slice_range order s e) ≡ Some (slice_range order s e)
closed_stays order changed s e distinct line there =
    together true order changed (slice_range order s e) s e
    (covers order order (λ j. j) (stay order) distinct true s e s e there record {
      some = line;
      there = there;
      first = (omega arith, line);
      last = (omega arith, omega arith);
      all = λ j l x y. (x, y);
    })
    (λ j x y. has_of order order (λ j. j) (stay order) distinct s e j there (omega arith) (x, y))

pub open_stays : (order changed : List ℕ) (s : ℕ) → IsOrder order → s < length order
    → followed_names first_to_end order changed (slice_range order s (length order)) ≡ Some
    (slice_range order s (length order))
open_stays order changed s distinct line =
    together false order changed (slice_range order s (length order)) s (length order)
    (covers order order (λ j. j) (stay order) distinct false s (length order) s (length order) (omega arith) record {
      some = line;
      there = omega arith;
      first = (omega arith, line);
      last = refl;
      all = λ j l x y. (x, l);
    })
    (λ j x y. has_of order order (λ j. j) (stay order) distinct s (length order) j (omega arith) y (x, y))

-- the places of a part
part_span : (closed : Bool) (order names : List ℕ) → names ≢ [] → IsPart closed order names
    → (s : ℕ) × (e : ℕ) × (s < e) × (e ≤ length order) × EndOf closed (length order) e
    × (slice_range order s e ≡ names)
part_span true order names some (before, behind, is) =
    let nested : order ≡ before ++ (names ++ behind) = is ∙ append_assoc before names behind in
    let more = nil_length names some in
    let size : length order ≡ length before + (length names + length behind) =
    ap length nested ∙ length-append before (names ++ behind)
    ∙ ap (λ n. length before + n) (length-append names behind) in (
      length before,
      length before + length names,
      omega arith,
      omega arith,
      tt,
      part_is_slice order before names behind (length before) (length before + length names) nested refl refl,
    )
part_span false order names some (before, is) =
    let more = nil_length names some in
    let size : length order ≡ length before + length names = ap length is ∙ length-append before names in (
      length before,
      length order,
      omega arith,
      omega arith,
      refl,
      take_rest order (length before) ∙ ap (drop (length before)) is ∙ drop_at before names (length before) refl,
    )

part_stays : (closed : Bool) (order changed names : List ℕ) → IsOrder order → names ≢ []
    → IsPart closed order names → followed_names (reach closed) order changed names ≡ Some names
part_stays closed order changed names distinct some part =
    let span = part_span closed order names some part in
    rw span.5 at (stays closed span.0 span.1 span.2 span.3 span.4)
  where
    stays : (closed : Bool) (s e : ℕ) → s < e → e ≤ length order → EndOf closed (length order) e
        → followed_names (reach closed) order changed (slice_range order s e) ≡ Some (slice_range order s e)
    stays true s e line there end = closed_stays order changed s e distinct line there
    stays false s e line there end = rw end (open_stays order changed s distinct (omega arith))

pub bands_stay : BandsStay
unfolding follow
bands_stay order changed Whole distinct band = refl
bands_stay order changed (Closed names) distinct (some, part) =
    ap (option_map Closed) (part_stays true order changed names distinct some part)
bands_stay order changed (Open names) distinct (some, part) =
    ap (option_map Open) (part_stays false order changed names distinct some part)

pub idle_move_keeps : IdleMoveKeeps
idle_move_keeps order band start end to distinct is_band from until =
    let idle : (nat_le start to && nat_le to end) ≡ true =
    and_from (nat_le start to) (nat_le to end) (le-leb start to from) (le-leb to end until) in
    rw idle (bands_stay order (slice_range order start end) band distinct is_band)

pub insert_beside : InsertBeside
insert_beside before fresh names more behind distinct some =
    bands_stay (before ++ fresh ++ names ++ more ++ behind) (fresh ++ more) (Closed names) distinct
    (some, (before ++ fresh, more ++ behind, append_assoc (before ++ fresh ++ names) more behind))

pub lost_for_good : LostForGood
lost_for_good order fresh changed band start end at lost_ gone =
    let rest = order_after (Deleting start end) order in
    (lost_where_gone (order_after (Inserting at fresh) rest) fresh band).1
    (both_gone rest fresh band at ((lost_where_gone rest changed band).0 lost_) gone)
  where
    names_gone : (rest fresh names : List ℕ) (at : ℕ)
        → ((name : ℕ) → Contains names name → ¬ (Contains rest name))
        → ((name : ℕ) → Contains names name → ¬ (Contains fresh name))
        → (name : ℕ) → Contains names name → ¬ (Contains (take at rest ++ fresh ++ drop at rest) name)
    names_gone rest fresh names at one two name here there =
        elim (Contains-append_cases (take at rest ++ fresh) (drop at rest) name there) [
          | inl front ↦ elim (Contains-append_cases (take at rest) fresh name front) [
            | inl kept ↦ one name here (rw (take-append-drop at rest) at
                (Contains-append_left (take at rest) (drop at rest) name kept))
            | inr new ↦ two name here new
          ]
          | inr kept ↦ one name here (rw (take-append-drop at rest) at
              (Contains-append_right (take at rest) (drop at rest) name kept))
        ]

    both_gone : (rest fresh : List ℕ) (band : NameBand) (at : ℕ) → IsGone rest band → IsGone fresh band
        → IsGone (take at rest ++ fresh ++ drop at rest) band
    both_gone rest fresh Whole at one two = one
    both_gone rest fresh (Closed names) at one two = names_gone rest fresh names at one two
    both_gone rest fresh (Open names) at one two = names_gone rest fresh names at one two

pub insert_lengthens : InsertLengthens
unfolding follow
insert_lengthens before front fresh back behind distinct some more =
    ap (option_map Closed) (hull true after fresh (front ++ back) i1 i4 names_cover settled_cover ∙ ap Some whole)
  where
    after : List ℕ
    after = before ++ front ++ fresh ++ back ++ behind

    i1 : ℕ
    i1 = length before

    i2 : ℕ
    i2 = i1 + length front

    i3 : ℕ
    i3 = i2 + length fresh

    i4 : ℕ
    i4 = i3 + length back

    front_some : 0 < length front
    front_some = nil_length front some

    back_some : 0 < length back
    back_some = nil_length back more

    size : length after ≡ i4 + length behind
    size = omega (
      arith,
      length-append (before ++ front ++ fresh ++ back) behind,
      length-append (before ++ front ++ fresh) back,
      length-append (before ++ front) fresh,
      length-append before front,
    )

    front_is : slice_range after i1 i2 ≡ front
    front_is = part_is_slice after before front (fresh ++ (back ++ behind)) i1 i2 (simp append_assoc) refl refl

    fresh_is : slice_range after i2 i3 ≡ fresh
    fresh_is = part_is_slice after (before ++ front) fresh (back ++ behind) i2 i3 (simp append_assoc)
        (length-append before front) refl

    back_is : slice_range after i3 i4 ≡ back
    back_is = part_is_slice after (before ++ front ++ fresh) back behind i3 i4 (simp append_assoc)
        (length-append (before ++ front) fresh ∙ ap (λ n. n + length fresh) (length-append before front)) refl

    whole : slice_range after i1 i4 ≡ front ++ fresh ++ back
    whole = part_is_slice after before (front ++ fresh ++ back) behind i1 i4 (simp append_assoc) refl
        (omega (arith, length-append (front ++ fresh) back, length-append front fresh))

    has_front : (j : ℕ) → j < length after → has after front j ≡ inside i1 i2 j
    has_front j l = subst (λ names. has after names j ≡ inside i1 i2 j) front_is
        (among_span after i1 i2 j distinct (omega (arith, size)) l)

    has_fresh : (j : ℕ) → j < length after → has after fresh j ≡ inside i2 i3 j
    has_fresh j l = subst (λ names. has after names j ≡ inside i2 i3 j) fresh_is
        (among_span after i2 i3 j distinct (omega (arith, size)) l)

    has_back : (j : ℕ) → j < length after → has after back j ≡ inside i3 i4 j
    has_back j l = subst (λ names. has after names j ≡ inside i3 i4 j) back_is
        (among_span after i3 i4 j distinct (omega (arith, size)) l)

    has_names : (j : ℕ) → j < length after
        → has after (front ++ back) j ≡ (inside i1 i2 j || inside i3 i4 j)
    has_names j l =
        list_any-append (λ n. n == get_or after j 0) front back
        ∙ ap (λ b. b || has after back j) (has_front j l)
        ∙ ap (λ b. inside i1 i2 j || b) (has_back j l)

    first : has after (front ++ back) i1 ≡ true
    first = has_names i1 (omega (arith, size, front_some))
        ∙ or_left (inside i1 i2 i1) (inside i3 i4 i1)
        (inside_from i1 i2 i1 (omega arith) (omega (arith, front_some)))

    last : has after (front ++ back) (i4 - 1) ≡ true
    last = has_names (i4 - 1) (omega (arith, size, back_some))
        ∙ or_right (inside i1 i2 (i4 - 1)) (inside i3 i4 (i4 - 1))
        (inside_from i3 i4 (i4 - 1) (omega (arith, back_some)) (omega (arith, back_some)))

    all : (j : ℕ) → j < length after → has after (front ++ back) j ≡ true → (i1 ≤ j) × (j < i4)
    all j l h = elim (or_cases (inside i1 i2 j) (inside i3 i4 j) (sym (has_names j l) ∙ h)) [
      | inl in_front ↦ let at = inside_true i1 i2 j in_front in (omega arith, omega arith)
      | inr in_back ↦ let at = inside_true i3 i4 j in_back in (omega arith, omega arith)
    ]

    settled_at : (j : ℕ) → j < length after → (j < i2) ⊎ (i3 ≤ j) → has after (front ++ back) j ≡ true
        → has_settled after fresh (front ++ back) j ≡ true
    settled_at j l out h = rw (h, has_fresh j l, inside_out i2 i3 j out) refl

    names_cover : Covers true after (has after (front ++ back)) i1 i4
    names_cover = record {
      some = omega (arith, front_some);
      there = omega (arith, size);
      first = first;
      last = last;
      all = all;
    }

    settled_cover : Covers true after (has_settled after fresh (front ++ back)) i1 i4
    settled_cover = record {
      some = omega (arith, front_some);
      there = omega (arith, size);
      first = settled_at i1 (omega (arith, size, front_some)) (inl (omega (arith, front_some))) first;
      last = settled_at (i4 - 1) (omega (arith, size, back_some)) (inr (omega (arith, back_some))) last;
      all = λ j l h. all j l (and_parts (has after (front ++ back) j) (not (has after fresh j)) h).0;
    }

-- what a band becomes depends on which of its lines are left alone
followed_same : (range : List ℕ → List ℕ → List ℕ) (order changed one other : List ℕ)
    → survivors order one ≡ survivors order other
    → followed_names range order changed one ≡ followed_names range order changed other
followed_same range order changed one other same =
    ap (λ left. if length left == 0 then None
    else if list_all (is_among left) (range order left) then Some left
    else Some (range order (settled changed left))) same

-- the lines of the later order are lines of the earlier one
abbrev IsAmongLines : List ℕ → List ℕ → Type 0
IsAmongLines order later = (j : ℕ) → j < length later → is_among order (get_or later j 0) ≡ true

survivors_twice : (order later names : List ℕ) → IsAmongLines order later
    → survivors later (survivors order names) ≡ survivors later names
survivors_twice order later names within =
    filter_same (is_among (survivors order names)) (is_among names) later (λ j l.
    is_among-filter (is_among names) order (get_or later j 0)
    ∙ ap (λ b. b && is_among names (get_or later j 0)) (within j l))

-- the places to which the lines of a band come that are left
deleted_arrives : (closed : Bool) (order : List ℕ) (a b s e s' e' : ℕ) → a < b → b ≤ length order
    → s < e → e ≤ length order → EndOf closed (length order) e → ClosedUp a b s s' → ClosedUp a b e e' → s' < e'
    → (end : ℕ) × Arrives closed (length (without order a b)) (skip a b) s e s' end
    × ((j : ℕ) → s' ≤ j → j < end → Of (skip a b) s e j)
deleted_arrives true order a b s e s' e' some within line there end s_up e_up left =
    let count = left_count order a b some within in (
      e',
      deleted a b (length (without order a b)) s e s' e' some (omega arith) line (omega arith) left s_up e_up,
      (λ j x y. (omega (arith, skip_is a b j), omega (arith, skip_is a b j))),
    )
deleted_arrives false order a b s e s' e' some within line there end s_up e_up left =
    let count = left_count order a b some within in
    let all : length (without order a b) + (b - a) ≡ e = omega arith in (
      length (without order a b),
      rw (← all) (deleted_open a b (length (without order a b)) s s' some (omega arith) (omega arith)
          (omega arith) s_up),
      (λ j x y. (omega (arith, skip_is a b j), omega (arith, skip_is a b j))),
    )

-- a deletion leaves of a band its other lines, side by side
deleted_span : (closed : Bool) (order : List ℕ) (a b s e : ℕ) → IsOrder order → a < b → b ≤ length order
    → s < e → e ≤ length order → EndOf closed (length order) e
    → (followed_names (reach closed) (without order a b) [] (slice_range order s e) ≡ None)
    ⊎ (followed_names (reach closed) (without order a b) [] (slice_range order s e)
    ≡ Some (survivors (without order a b) (slice_range order s e)))
deleted_span closed order a b s e distinct some within line there end =
    let start = closed_up_exists a b s in
    let past = closed_up_exists a b e in
    elim (cases_lt start.0 past.0) [
      | inl left ↦ fills (deleted_arrives closed order a b s e start.0 past.0 some within line there end start.1 past.1
          left)
      | inr gone ↦ inl (follow_lost order (without order a b) (skip a b) came distinct closed [] s e there
          (λ j l. deleted_none a b s e start.0 past.0 j some line gone start.1 past.1))
    ]
  where
    came : Came order (without order a b) (skip a b)
    came = left_came order a b some within

    fills : {s' : ℕ} → (end : ℕ) × Arrives closed (length (without order a b)) (skip a b) s e s' end
        × ((j : ℕ) → s' ≤ j → j < end → Of (skip a b) s e j)
        → (followed_names (reach closed) (without order a b) [] (slice_range order s e) ≡ None)
        ⊎ (followed_names (reach closed) (without order a b) [] (slice_range order s e)
        ≡ Some (survivors (without order a b) (slice_range order s e)))
    fills {s'} (past, arrives, full) =
        let left = survivors (without order a b) (slice_range order s e) in
        let no_gap : list_all (is_among left) (reach closed (without order a b) left) ≡ true =
        together_fills closed (without order a b) (slice_range order s e) s' past
        (covers order (without order a b) (skip a b) came distinct closed s e s' past there arrives)
        (λ j x y. has_of order (without order a b) (skip a b) came distinct s e j there
        (let t = arrives.there in omega arith) (full j x y)) in
        elim (followed_cases closed (without order a b) [] (slice_range order s e)) [
          | inl (_, gone) ↦ inl gone
          | inr rest ↦ elim rest [
            | inl (_, _, _, kept) ↦ inr kept
            | inr (_, gap, _) ↦
                absurd (both_ways (list_all (is_among left) (reach closed (without order a b) left)) gap no_gap)
          ]
        ]

deleted_names : (closed : Bool) (order names : List ℕ) (a b : ℕ) → IsOrder order → a < b → b ≤ length order
    → names ≢ [] → IsPart closed order names
    → (followed_names (reach closed) (without order a b) [] names ≡ None)
    ⊎ (followed_names (reach closed) (without order a b) [] names ≡ Some (survivors (without order a b) names))
deleted_names closed order names a b distinct some within any part =
    let span = part_span closed order names any part in
    rw span.5 at (deleted_span closed order a b span.0 span.1 distinct some within span.2 span.3 span.4)

left_among : (order : List ℕ) (a b : ℕ) → a ≤ b → b ≤ length order → IsAmongLines order (without order a b)
left_among order a b ab long j l =
    let size = length-without order a b ab long in
    rw (get_or-without order a b j ab long)
    (among_order order (skip a b j) (omega (arith, skip_is a b j)))

-- a band after a deletion, and then at an order of lines that were left
names_again : (closed : Bool) (make : List ℕ → NameBand) (order later names : List ℕ) (a b : ℕ) → IsOrder order
    → a < b → b ≤ length order → names ≢ [] → IsPart closed order names
    → IsAmongLines (without order a b) later
    → option_and_then (λ again. option_map make (followed_names (reach closed) later [] again))
    (followed_names (reach closed) (without order a b) [] names)
    ≡ option_map make (followed_names (reach closed) later [] names)
names_again closed make order later names a b distinct some within any part lines =
    elim (deleted_names closed order names a b distinct some within any part) [
      | inl gone ↦
          let before = (names_lost closed (without order a b) [] names).0 gone in
          let after : followed_names (reach closed) later [] names ≡ None =
          (names_lost closed later [] names).1 (λ name here there. before name here (still name there)) in
          rw (gone, after) refl
      | inr kept ↦
          rw kept (ap (option_map make)
          (followed_same (reach closed) later [] (survivors (without order a b) names) names
          (survivors_twice (without order a b) later names lines)))
    ]
  where
    still : (name : ℕ) → Contains later name → Contains (without order a b) name
    still name (k, l, at) =
        subst (Contains (without order a b)) (get_or_default later k 0 name l ∙ at)
        (place_of_name (without order a b) (get_or later k 0) (lines k l))

map_then : (make : List ℕ → NameBand) (next : NameBand → Option NameBand) (found : Option (List ℕ))
    → option_and_then next (option_map make found) ≡ option_and_then (λ names. next (make names)) found
map_then make next None = refl
map_then make next (Some names) = refl

follow_again : (order later : List ℕ) (band : NameBand) (a b : ℕ) → IsOrder order → IsBandOf order band
    → a < b → b ≤ length order → IsAmongLines (without order a b) later
    → option_and_then (follow later []) (follow (without order a b) [] band) ≡ follow later [] band
unfolding follow
follow_again order later Whole a b distinct is_band some within lines = refl
follow_again order later (Closed names) a b distinct is_band some within lines =
    map_then Closed (follow later []) (followed_names first_to_last (without order a b) [] names)
    ∙ names_again true Closed order later names a b distinct some within is_band.0 is_band.1 lines
follow_again order later (Open names) a b distinct is_band some within lines =
    map_then Open (follow later []) (followed_names first_to_end (without order a b) [] names)
    ∙ names_again false Open order later names a b distinct some within is_band.0 is_band.1 lines

then_same : (f g : NameBand → Option NameBand) (found : Option NameBand)
    → ((band : NameBand) → found ≡ Some band → f band ≡ g band)
    → option_and_then f found ≡ option_and_then g found
then_same f g None same = refl
then_same f g (Some band) same = same band refl

pub delete_in_turn : DeleteInTurn
delete_in_turn order band start zero distinct is_band within =
    rw (add-zero start, take-append-drop start order) (sym (bands_stay order [] band distinct is_band))
delete_in_turn order band start (suc count) distinct is_band within =
    let line : ℕ = start + count in
    let rest : List ℕ = without order line (line + 1) in
    let size = length-without order line (line + 1) (omega arith) (omega arith) in
    let rest_order = without_order order line (line + 1) (omega arith) (omega arith) distinct in
    let later : List ℕ = without rest start line in
    let turn : option_and_then (deleted_in_turn start count rest) (follow rest [] band)
    ≡ option_and_then (follow later []) (follow rest [] band) =
    then_same (deleted_in_turn start count rest) (follow later []) (follow rest [] band)
    (λ found is. delete_in_turn rest found start count rest_order
    (gives_bands rest [] band found is) (omega arith)) in
    let again = follow_again order later band line (line + 1) distinct is_band (omega arith) (omega arith)
    (left_among rest start line (omega arith) (omega arith)) in
    let last : line + 1 ≡ start + suc count = omega arith in
    turn ∙ again
    ∙ ap (λ order_. follow order_ [] band)
    (without_without order start line (line + 1) (omega arith) (omega arith)
    ∙ ap (without order start) last)
