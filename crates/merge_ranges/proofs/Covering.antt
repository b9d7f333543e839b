-- Which cells of an area merges cover, for one of its lines after another.
use Rattle.std.proofs.Common.{◌≡◌, ℕ, ◌+◌, ◌-◌, ◌<◌, ◌≤◌, inl, inr, arith, refl, sym, ap, subst, ◌∙◌, Bool, true, false, List, [], ◌++◌, length, get_or, drop}
use Rattle.std.specs.Prelude.{◌&&◌, Contains, IfSome, Option, Some, None, filter, nat_le, nat_lt, slice_range}
use Rattle.std.specs.List.{All, list_any}
use Rattle.std.specs.List.Sorted.{IsNonDecreasingBy, IsPermutation}
use Rattle.std.proofs.Math.Path.{fun_ext}
use Rattle.std.proofs.lemmas.Bool.{and_from, and_parts, cases_lt, lt-ltb, ltb-true}
use Rattle.std.proofs.lemmas.Bool.Decides.{nat_tests}
use Rattle.std.proofs.lemmas.List.{get_or-drop, get_or-take, length-take-le, length-drop}
use Rattle.std.proofs.lemmas.List.Elements.{All-append, All-nil, All-contains, All-contains_itself, All-drop, All-filter, All-take, All-weaker, Contains-append_left, Contains-append_right, Contains-get_or}
use Rattle.std.proofs.lemmas.List.Folds.{Any-from_list_any, list_any-from_Any}
use Rattle.std.proofs.lemmas.List.Sorted.{Contains-permutation, IsPermutation-sym}
use Rattle.std.proofs.lemmas.Option.{slice_get-get_or}
use Rattle.cell_value.specs.Elements.{Contains-filter, Contains-filter_from}
use Rattle.grid_range.specs.Area.{band_on}
use Rattle.grid_range.specs.Band.{HasLine, first_line}
use Rattle.grid_range.specs.declared.area.Area.{Area}
use Rattle.grid_range.specs.declared.axis.Axis.{Axis}
use Rattle.grid_range.specs.declared.axis.Axis.TheVariants.{Rows, Columns}
use Rattle.grid_range.specs.declared.band.Band.{Band}
use Rattle.grid_range.specs.declared.band.Band.TheVariants.{Whole, From, Span}
use Rattle.merge_ranges.specs.EndsLaws.{ends_on}
use Rattle.merge_ranges.specs.Lines.{AreCurrent, BeginsLater, IsRising, Tells, band_across, covered_places, covers_on, places_in, reaches}
use Rattle.merge_ranges.specs.Merges.{HasEnds, IsMerge, IsRectangle, Overlap}
use Rattle.merge_ranges.specs.Tests.{has_cell_of, has_line, line_count, past_line}
use Rattle.merge_ranges.proofs.Rectangles.{from_touching, line_there}

-- ---- tests of lists

same_test : (one other : Bool) → (one ≡ true → other ≡ true) → (other ≡ true → one ≡ true) → one ≡ other
same_test true other there back = sym (there refl)
same_test false true there back = back refl
same_test false false there back = refl

-- some element of one list passes the test just where some of the other one does
module _ {X : Type 0} (test : X → Bool) where
  passes_too : (xs ys : List X) → ((x : X) → Contains xs x → test x ≡ true → Contains ys x)
      → list_any test xs ≡ true → list_any test ys ≡ true
  passes_too xs ys also some =
      let (k, x, l, at, passes) = Any-from_list_any test xs some in
      let (j, m, here) = also x (k, l, at) passes in
      list_any-from_Any test ys (j, x, m, here, passes)

  same_some : (xs ys : List X) → ((x : X) → Contains xs x → test x ≡ true → Contains ys x)
      → ((x : X) → Contains ys x → test x ≡ true → Contains xs x) → list_any test xs ≡ list_any test ys
  same_some xs ys there back =
      same_test (list_any test xs) (list_any test ys) (passes_too xs ys there) (passes_too ys xs back)

and_same : (b one other : Bool) → (b ≡ true → one ≡ other) → (b && one) ≡ (b && other)
and_same true one other same = same refl
and_same false one other same = refl

-- ---- the lines of a merge

line_held : (band : Band) (line : ℕ) → has_line band line ≡ true → HasLine band line
line_held Whole line has = tt
line_held (From start) line has = grind (arith, nat_tests)
line_held (Span start end) line has = (grind (arith, nat_tests), grind (arith, nat_tests))

held_line : (band : Band) (line : ℕ) → HasLine band line → has_line band line ≡ true
held_line Whole line has = refl
held_line (From start) line has = grind (arith, nat_tests)
held_line (Span start end) line has =
    let low : start ≤ line = has.0 in
    let high : line < end = has.1 in
    and_from (nat_le start line) (nat_lt line end) (grind (arith, nat_tests)) (grind (arith, nat_tests))

place_held : (band : Band) (place : ℕ) → place < line_count band → HasLine band (first_line band + place)
place_held Whole place few = tt
place_held (From start) place few = omega arith
place_held (Span start end) place few = (omega arith, omega (arith, few))

-- the line on the axis, and the one across, of a cell that it covers are its own
covered_held : (axis : Axis) (merge : Area) (line across : ℕ) → covers_on axis merge line across ≡ true
    → HasLine (band_on axis merge) line × HasLine (band_across axis merge) across
covered_held Rows merge line across covers =
    let held = and_parts (has_line merge.rows line) (has_line merge.cols across)
    (and_parts (has_line merge.rows line && has_line merge.cols across) _ covers).0 in
    (line_held merge.rows line held.0, line_held merge.cols across held.1)
covered_held Columns merge line across covers =
    let held = and_parts (has_line merge.rows across) (has_line merge.cols line)
    (and_parts (has_line merge.rows across && has_line merge.cols line) _ covers).0 in
    (line_held merge.cols line held.1, line_held merge.rows across held.0)

covered_between : (axis : Axis) (merge : Area) (line across : ℕ) → IsMerge merge
    → covers_on axis merge line across ≡ true
    → (first_line (band_on axis merge) ≤ line) × (line < past_line (band_on axis merge))
covered_between axis merge line across is covers =
    line_there (band_on axis merge) line (ends_on axis merge is.0) (covered_held axis merge line across covers).0

-- ---- merges that have a cell of an area

pub ends_across : (axis : Axis) (area : Area) → IsRectangle area → HasEnds (band_across axis area)
ends_across Rows area is = is.1
ends_across Columns area is = is.0

both_hold : (axis : Axis) (area merge : Area) (line across : ℕ) → HasLine (band_on axis area) line
    → HasLine (band_across axis area) across → HasLine (band_on axis merge) line
    → HasLine (band_across axis merge) across → Overlap area merge
both_hold Rows area merge line across along places along' places' =
    record { row = line; col = across; one_holds = (along, places); other_holds = (along', places') }
both_hold Columns area merge line across along places along' places' =
    record { row = across; col = line; one_holds = (places, along); other_holds = (places', along') }

module _ (axis : Axis) (area : Area) where
  abbrev at : ℕ → ℕ
  at place = first_line (band_across axis area) + place

  abbrev asked : ℕ → ℕ → Bool
  asked line place = has_line (band_on axis area) line && nat_lt place (places_in axis area)

  cell_had : (merge : Area) (line place : ℕ) → IsMerge merge → asked line place ≡ true
      → covers_on axis merge line (at place) ≡ true → has_cell_of area merge ≡ true
  cell_had merge line place is there covers =
      let both = and_parts (has_line (band_on axis area) line) (nat_lt place (places_in axis area)) there in
      let held = covered_held axis merge line (at place) covers in
      from_touching area merge is.0
      (both_hold axis area merge line (at place) (line_held (band_on axis area) line both.0)
      (place_held (band_across axis area) place (ltb-true place (places_in axis area) both.1)) held.0 held.1)

  -- those that have none don't matter
  pub same_cells : (merges left : List Area) → All IsMerge merges
      → IsPermutation (filter (has_cell_of area) merges) left
      → covered_places axis area left ≡ covered_places axis area merges
  same_cells merges left are moved = fun_ext (λ line. fun_ext (λ place.
      and_same (asked line place) (list_any (λ merge. covers_on axis merge line (at place)) left)
      (list_any (λ merge. covers_on axis merge line (at place)) merges)
      (λ there. same_some (λ merge. covers_on axis merge line (at place)) left merges
      (λ merge held covers. (Contains-filter_from (has_cell_of area) merges merge
      (Contains-permutation left (filter (has_cell_of area) merges) merge
      (IsPermutation-sym (filter (has_cell_of area) merges) left moved) held)).0)
      (λ merge held covers. Contains-permutation (filter (has_cell_of area) merges) left merge moved
      (Contains-filter (has_cell_of area) merges merge held
      (cell_had merge line place (All-contains IsMerge merges merge are held) there covers))))))

-- ---- from one line to a later one

module _ (axis : Axis) (merges : List Area) (are : All IsMerge merges) (taken begun line : ℕ)
    (current : List Area) where
  abbrev next : List Area
  next = filter (reaches axis line) (current ++ slice_range merges taken begun)

  still_listed : All (Contains merges) current → All (Contains merges) next
  still_listed listed =
      All-filter (reaches axis line) (Contains merges) (current ++ slice_range merges taken begun)
      (All-append (Contains merges) current (slice_range merges taken begun) listed
      (All-take (Contains merges) (begun - taken) (drop taken merges)
      (All-drop (Contains merges) taken merges (All-contains_itself merges))))

  pub next_merges : All (Contains merges) current → (now : List Area) → now ≡ next → All IsMerge now
  next_merges listed now same =
      subst (All IsMerge) (sym same)
      (All-weaker (Contains merges) IsMerge (λ merge held. All-contains IsMerge merges merge are held) next
      (still_listed listed))

  module _ (asked : Option ℕ) (were : AreCurrent axis merges taken asked current) (rising : IsRising asked line)
      (more : taken ≤ begun) (within : begun ≤ length merges) where
    later : (last : Option ℕ) (behind : ℕ) → IsRising last line → line ≤ behind → IsRising last behind
    later None behind before less = tt
    later (Some last) behind before less = omega (arith, before, less)

    -- a merge that is taken up now
    taken_up : (index : ℕ) (d : Area) → taken ≤ index → index < begun
        → Contains (slice_range merges taken begun) (get_or merges index d)
    taken_up index d low high =
        let all : List Area = slice_range merges taken begun in
        let long : length all ≡ begun - taken =
        length-take-le (begun - taken) (drop taken merges) (omega (arith, length-drop taken merges)) in
        let here : get_or all (index - taken) d ≡ get_or merges (taken + (index - taken)) d =
        get_or-take (begun - taken) (drop taken merges) (index - taken) d (omega arith)
        ∙ get_or-drop taken merges (index - taken) d in
        let place : taken + (index - taken) ≡ index = omega arith in
        subst (Contains all) (here ∙ ap (λ k. get_or merges k d) place)
        (Contains-get_or all (index - taken) d (omega (arith, long)))

    still : (index : ℕ) (d : Area) → index < begun → (behind across : ℕ) → line ≤ behind
        → covers_on axis (get_or merges index d) behind across ≡ true
        → Contains (current ++ slice_range merges taken begun) (get_or merges index d)
    still index d there behind across less covers = elim (cases_lt index taken) [
      | inl before ↦ Contains-append_left current (slice_range merges taken begun) (get_or merges index d)
          (were.all index behind across d before (later asked behind rising less) covers)
      | inr now ↦ Contains-append_right current (slice_range merges taken begun) (get_or merges index d)
          (taken_up index d now there)
    ]

    are_current : AreCurrent axis merges begun (Some line) next
    are_current = record {
      listed = still_listed were.listed;
      all = λ index behind across d there less covers.
          let merge : Area = get_or merges index d in
          let between = covered_between axis merge behind across (are index d (omega arith)) covers in
          Contains-filter (reaches axis line)
          (current ++ slice_range merges taken begun) merge (still index d there behind across less covers)
          (lt-ltb line (past_line (band_on axis merge)) (omega (arith, less, between.1)));
    }

    pub next_current : (now : List Area) → now ≡ next → AreCurrent axis merges begun (Some line) now
    next_current now same = subst (AreCurrent axis merges begun (Some line)) (sym same) are_current

    -- those that begin later cover no cell of the line
    module _ (in_order : IsNonDecreasingBy (λ merge. first_line (band_on axis merge)) merges)
        (rest : BeginsLater axis merges begun line) where
      too_late : (index across : ℕ) (d : Area) → begun ≤ index → index < length merges
          → ¬ (covers_on axis (get_or merges index d) line across ≡ true)
      too_late index across d high there covers =
          let behind : line < first_line (band_on axis (get_or merges begun d)) =
          subst (λ found. IfSome found (λ merge. line < first_line (band_on axis merge)))
          (slice_get-get_or merges begun d (omega arith)) rest in
          let order = in_order begun index d high there in
          let between = covered_between axis (get_or merges index d) line across (are index d there) covers in
          omega (arith, behind, order, between.0)

      still_current : (merge : Area) (across : ℕ) → Contains merges merge → covers_on axis merge line across ≡ true
          → Contains next merge
      still_current merge across (index, there, at) covers = elim (cases_lt index begun) [
        | inl before ↦ subst (Contains next) at
            (are_current.all index line across merge before (omega arith)
            (subst (λ one. covers_on axis one line across ≡ true) (sym at) covers))
        | inr late ↦ absurd (too_late index across merge late there
            (subst (λ one. covers_on axis one line across ≡ true) (sym at) covers))
      ]

      pub told_all : (now : List Area) → now ≡ next → (area : Area) → HasLine (band_on axis area) line
          → (count : ℕ) → count ≡ places_in axis area → (told : List Bool)
          → Tells (λ place. list_any (λ merge. covers_on axis merge line (at axis area place)) now) count told
          → Tells (covered_places axis area merges line) count told
      told_all now same area has count many told tells = record {
        long = tells.long;
        each = λ place there.
            let test : Area → Bool = λ merge. covers_on axis merge line (at axis area place) in
            let few : place < places_in axis area = omega (arith, there, many) in
            tells.each place there ∙ ap (list_any test) same
            ∙ same_some test next merges
            (λ merge held covers. All-contains (Contains merges) next merge are_current.listed held)
            (λ merge held covers. still_current merge (at axis area place) held covers)
            ∙ ap (λ b. b && list_any test merges)
            (sym (and_from (has_line (band_on axis area) line) (nat_lt place (places_in axis area))
            (held_line (band_on axis area) line has) (lt-ltb place (places_in axis area) few)));
      }

-- at first there are none
pub none_current : (axis : Axis) (merges : List Area) (asked : Option ℕ) (current : List Area) → current ≡ []
    → AreCurrent axis merges 0 asked current
none_current axis merges asked current none = record {
  listed = subst (All (Contains merges)) (sym none) (All-nil (Contains merges));
  all = λ index line across d there. absurd (omega (arith, there));
}
