-- What the calls leave is a list of merges, and just the ones that are meant.
use Rattle.std.proofs.Common.{◌≡◌, ℕ, ◌+◌, ◌-◌, ◌<◌, ◌≤◌, inl, inr, arith, refl, sym, ap, subst, ◌∙◌, Bool, true, false, ◌&&◌, List, [], ◌∷◌, ◌++◌, get_or, length, map, not}
use Rattle.std.specs.Prelude.{◌↔◌, Contains, nat_lt, Any}
use Rattle.std.specs.List.Sorted.{IsStrictlySortedBy}
use Rattle.std.specs.List.{IsDistinct, All, list_any, range_with_len}
use Rattle.std.specs.List.Sorted.{IsSortedByKey, IsPermutation}
use Rattle.std.specs.Ordering.{nat_cmp, is_lt, ordering_reverse}
use Rattle.std.specs.declared.cmp.Ordering.TheVariants.{Less, Equal, Greater}
use Rattle.std.proofs.lemmas.Bool.{false≢true, cases_Bool, cases_order, le-ltb}
use Rattle.std.proofs.lemmas.List.{get_or_default}
use Rattle.std.proofs.lemmas.List.Elements.{All-append, All-nil, All-contains, All-filter, All-push, Contains-append_cases, Contains-append_left, Contains-append_right, Contains-get_or}
use Rattle.std.proofs.lemmas.List.FromFn.{get_or-map-range_with_len, get_or-range_with_len, length-map-range_with_len, length-range_with_len}
use Rattle.std.proofs.lemmas.List.Folds.{Any-from_list_any, list_any-from_Any}
use Rattle.std.proofs.lemmas.List.Kept.{IsStrictlySortedBy-filter}
use Rattle.std.proofs.lemmas.List.MinMax.{ranks_by}
use Rattle.std.proofs.lemmas.List.Sorted.{sorted_far, All-permutation, Contains-permutation, IsPermutation-sym}
use Rattle.std.proofs.lemmas.Map.Keys.{IsDistinct-from_apart, IsDistinct-IsPermutation, apart_from_distinct, sorted_from_all_adjacent}
use Rattle.std.proofs.lemmas.Map.Lookups.{exact_pairs, exact_unsigned}
use Rattle.grid_range.specs.declared.area.Area.{Area}
use Rattle.grid_range.specs.declared.axis.Axis.{Axis}
use Rattle.grid_range.specs.declared.axis.Axis.TheVariants.{Rows, Columns}
use Rattle.grid_range.specs.declared.band.Band.{Band}
use Rattle.grid_range.specs.Area.{band_on}
use Rattle.grid_range.specs.ByRows.{by_rows_total}
use Rattle.grid_range.specs.Band.{HasLine, first_line}
use Rattle.merge_ranges.specs.Merges.{HasEnds, HasManyCells, IsRectangle, IsMerge, AreMerges, Overlap, HoldsAll, by_first_cell}
use Rattle.merge_ranges.specs.Calls.{AreParts, Cuts, ListsJust, IsLeft, IsLeftOrPart}
use Rattle.merge_ranges.specs.Tests.{holds_all, cuts, has_many_cells, left_by, line_of, lines_of, past_line}
use Rattle.grid_range.specs.Area.{first_cell, by_rows}
use Rattle.merge_ranges.specs.EndsLaws.{are_cells, cells_are, ends_on, line_between, rises}
use Rattle.merge_ranges.specs.FirstCells.{by_first_total}
use Rattle.merge_ranges.specs.LineParts.{line_among, line_part}
use Rattle.merge_ranges.proofs.Ordered.{sorted_same}
use Rattle.merge_ranges.proofs.Rectangles.{line_there, holds_all_cells, all_cells_hold, cuts_cells, from_cuts, meets, meets_turned, meeting, apart, not_overlapping, same_first_meets}
use Rattle.cell_value.specs.Elements.{Contains-filter, Contains-filter_from, Contains-map, Contains-map_from, IsDistinct-append, IsDistinct-filter}

nothing_sorted : IsStrictlySortedBy by_first_cell []
unfolding IsStrictlySortedBy
nothing_sorted = tt

pub no_merges : (merges : List Area) → merges ≡ [] → AreMerges merges
no_merges merges none = subst AreMerges (sym none) record {
  each = All-nil IsMerge;
  apart = λ i j d l m. absurd (omega arith);
  in_order = nothing_sorted;
}

-- no two have a cell in common, by the test
pub distinct_merges : (merges : List Area) → AreMerges merges → IsDistinct meets merges
distinct_merges merges are = IsDistinct-from_apart meets merges (λ i j d l m.
    apart (get_or merges i d) (get_or merges j d) (are.each i d (omega arith)).0 (are.each j d m).0
    (are.apart i j d l m))

-- two of them that have a cell in common are one
pub one_merge : (merges : List Area) → AreMerges merges → (one other : Area) → Contains merges one
    → Contains merges other → meets one other ≡ true → one ≡ other
one_merge merges are one other (i, l, at) (j, m, at') met =
    let there : get_or merges j one ≡ other = get_or_default merges j one other m ∙ at' in
    let both : meets (get_or merges i one) (get_or merges j one) ≡ true =
    ap (λ a. meets a (get_or merges j one)) at ∙ ap (meets one) there ∙ met in
    let far : (i j : ℕ) → i < j → j < length merges → meets (get_or merges i one) (get_or merges j one) ≡ false =
    λ i j less within. apart_from_distinct meets merges i j one (distinct_merges merges are) less within in
    elim (cases_order i j) [
      | inl same ↦ sym at ∙ ap (λ k. get_or merges k one) same ∙ there
      | inr (inl less) ↦ absurd (false≢true (sym (far i j less m) ∙ both))
      | inr (inr more) ↦ absurd (false≢true (sym (far j i more l)
          ∙ meets_turned (get_or merges j one) (get_or merges i one) ∙ both))
    ]

pub merges_are : (merges : List Area) → All IsMerge merges → IsDistinct meets merges
    → IsStrictlySortedBy by_first_cell merges → AreMerges merges
merges_are merges each distinct sorted = record {
  each = each;
  apart = λ i j d l m. not_overlapping (get_or merges i d) (get_or merges j d) (each i d (omega arith)).0 (each j d m).0
      (apart_from_distinct meets merges i j d distinct l m);
  in_order = sorted;
}

-- two that have no cell in common, the first of which doesn't come later, rise
rising : (one other : Area) → IsRectangle one → IsRectangle other → is_lt (by_first_cell other one) ≡ false
    → meets one other ≡ false
    → by_first_cell one other ≡ Less
rising one other is also low far = elim (by_first_cell one other) as (λ o. by_first_cell one other ≡ o
    → by_first_cell one other ≡ Less) [
      | Less ↦ λ h. h
      | Equal ↦ λ h. absurd (false≢true (sym far
          ∙ same_first_meets one other is also
          (exact_pairs nat_cmp nat_cmp exact_unsigned exact_unsigned (first_cell one) (first_cell other) h)))
      | Greater ↦ λ h.
          absurd (false≢true (sym low ∙ ap is_lt (by_first_total.antisymm other one ∙ ap ordering_reverse h)))
    ] refl

pub sorted_merges : (merges : List Area) → All IsMerge merges → IsDistinct meets merges
    → IsSortedByKey first_cell by_rows merges
    → IsStrictlySortedBy by_first_cell merges
sorted_merges [] each distinct sorted = nothing_sorted
sorted_merges (m ∷ ms) each distinct sorted =
    let all : List Area = m ∷ ms in
    sorted_from_all_adjacent by_first_total all m (λ k l.
    rising (get_or all k m) (get_or all (k + 1) m) (each k m (omega arith)).0 (each (k + 1) m l).0
    (sorted_far (λ x y. is_lt (by_first_cell x y)) (ranks_by by_rows_total first_cell) all sorted k (k + 1) m
    (omega arith) l)
    (apart_from_distinct meets all k (k + 1) m distinct (omega arith) l))

-- areas in order with the merges of a list
pub permuted_merges : (areas merges : List Area) → All IsMerge areas → IsDistinct meets areas
    → IsPermutation areas merges
    → IsSortedByKey first_cell by_rows merges → AreMerges merges
permuted_merges areas merges each distinct moved sorted =
    let all = All-permutation IsMerge areas merges moved each in
    let far = IsDistinct-IsPermutation meets meets_turned areas merges moved distinct in
    merges_are merges all far (sorted_merges merges all far sorted)

-- some are cut
pub cut_some : (area : Area) (merges : List Area) → All IsMerge merges → list_any (cuts area) merges ≡ true
    → Any (Cuts area) merges
cut_some area merges each h =
    let (k, merge, l, at, cut) = Any-from_list_any (cuts area) merges h in
    (k, merge, l, at, cuts_cells area merge (All-contains IsMerge merges merge each (k, l, at)).0 cut)

pub from_cut_some : (area : Area) (merges : List Area) → All IsMerge merges → Any (Cuts area) merges
    → list_any (cuts area) merges ≡ true
from_cut_some area merges each (k, merge, l, at, cut) =
    list_any-from_Any (cuts area) merges
    (k, merge, l, at, from_cuts area merge (All-contains IsMerge merges merge each (k, l, at)).0 cut)

module _ (area : Area) (merges : List Area) (are : AreMerges merges) where
  abbrev left : List Area
  left = left_by area merges

  left_out : (merge : Area) → IsRectangle merge → not (holds_all area merge) ≡ true → ¬ (HoldsAll area merge)
  left_out merge is h all = false≢true (sym (ap not (all_cells_hold area merge is all)) ∙ h)

  out_left : (merge : Area) → IsRectangle merge → ¬ (HoldsAll area merge) → not (holds_all area merge) ≡ true
  out_left merge is out = elim (cases_Bool (holds_all area merge)) [
    | inl all ↦ absurd (out (holds_all_cells area merge is all))
    | inr some ↦ ap not some
  ]

  is_left : (merge : Area) → Contains left merge → IsLeft area merges merge
  is_left merge c =
      let both = Contains-filter_from (λ m. not (holds_all area m)) merges merge c in
      (both.0, left_out merge (All-contains IsMerge merges merge are.each both.0).0 both.1)

  in_left : (merge : Area) → IsLeft area merges merge → Contains left merge
  in_left merge (c, out) = Contains-filter (λ m. not (holds_all area m)) merges merge c
      (out_left merge (All-contains IsMerge merges merge are.each c).0 out)

  pub lists_left : ListsJust (IsLeft area merges) left
  lists_left = record {
    in_order = IsStrictlySortedBy-filter by_first_cell (λ m. not (holds_all area m)) merges are.in_order;
    exactly = λ merge. (is_left merge, in_left merge);
  }

  -- there is no other list of them
  pub left_is : (list : List Area) → ListsJust (IsLeft area merges) list → left ≡ list
  left_is list lists = sorted_same by_first_total left list lists_left.in_order lists.in_order
      (λ merge has. (lists.exactly merge).1 ((lists_left.exactly merge).0 has))
      (λ merge has. (lists_left.exactly merge).1 ((lists.exactly merge).0 has))

  pub left_are_merges : AreMerges left
  left_are_merges = merges_are left (All-filter (λ m. not (holds_all area m)) IsMerge merges are.each)
      (IsDistinct-filter (λ m. not (holds_all area m)) meets merges (distinct_merges merges are)) lists_left.in_order

  -- parts of the area in the place of those that it holds
  module _ (whole : ¬ (Any (Cuts area) merges)) (parts : List Area) (are_parts : AreParts area parts)
      (after : List Area) (moved : IsPermutation (left ++ parts) after)
      (sorted : IsSortedByKey first_cell by_rows after)
    where
      far : (merge part : Area) → Contains left merge → Contains parts part → meets merge part ≡ false
      far merge part c d = elim (cases_Bool (meets merge part)) [
        | inl h ↦
            let it = is_left merge c in
            let rect = (All-contains IsMerge merges merge are.each it.0).0 in
            let of = (All-contains IsMerge parts part are_parts.each d).0 in
            let both = meeting merge part rect of h in
            let overlap : Overlap area merge = record {
              row = both.row;
              col = both.col;
              one_holds = All-contains (HoldsAll area) parts part are_parts.inside d both.row both.col both.other_holds;
              other_holds = both.one_holds;
            } in
            absurd (whole (any_of (Cuts area) merges merge it.0 (overlap, it.1)))
        | inr h ↦ h
      ]
        where
          any_of : (P : Area → Type 0) (ms : List Area) (m : Area) → Contains ms m → P m → Any P ms
          any_of P ms m (k, l, at) p = (k, m, l, at, p)

      parts_apart : IsDistinct meets parts
      parts_apart = IsDistinct-from_apart meets parts (λ i j d l m.
          apart (get_or parts i d) (get_or parts j d) (are_parts.each i d (omega (arith, l, m))).0
          (are_parts.each j d m).0
          (are_parts.apart i j d l m))

      joined : IsDistinct meets (left ++ parts)
      joined = IsDistinct-append meets left parts (distinct_merges left left_are_merges) parts_apart far

      pub put_are_merges : AreMerges after
      put_are_merges = permuted_merges (left ++ parts) after
          (All-append IsMerge left parts left_are_merges.each are_parts.each) joined moved sorted

      pub lists_put : ListsJust (IsLeftOrPart area merges parts) after
      lists_put = record {
        in_order = put_are_merges.in_order;
        exactly = λ merge. (
          (λ c. elim (Contains-append_cases left parts merge
              (Contains-permutation after (left ++ parts) merge (IsPermutation-sym (left ++ parts) after moved) c)) [
                | inl old ↦ inl (is_left merge old)
                | inr new ↦ inr new
              ]),
          (λ some. Contains-permutation (left ++ parts) after merge moved (elim some [
            | inl old ↦ Contains-append_left left parts merge (in_left merge old)
            | inr new ↦ Contains-append_right left parts merge new
          ])),
        );
      }

-- ---- an area is a part of itself

pub area_is_part : (area : Area) → IsMerge area → AreParts area (area ∷ [])
area_is_part area is = record {
  each = All-push IsMerge [] area (All-nil IsMerge) is;
  apart = λ i j d l m. absurd (omega (arith, l, m));
  inside = All-push (HoldsAll area) [] area (All-nil (HoldsAll area)) (λ row col holds. holds);
}

-- ---- the lines of an area

among_line : (first count line : ℕ) → first ≤ line → line < first + count → Contains (range_with_len first count) line
among_line first count line low high =
    let few : line - first < count = omega (arith, low, high) in
    let is = get_or-range_with_len first count (line - first) line few in
    (line - first, subst (λ n. line - first < n) (sym (length-range_with_len first count)) few, omega (arith, is, low))

and_false : (b : Bool) → (b && false) ≡ false
and_false true = refl
and_false false = refl

two_apart : (axis : Axis) (area : Area) (line other : ℕ) → line < other
    → meets (line_of axis area line) (line_of axis area other) ≡ false
two_apart Rows area line other less =
    ap (λ b. (nat_lt line (other + 1) && b) && (nat_lt (first_line area.cols) (past_line area.cols)
    && nat_lt (first_line area.cols) (past_line area.cols)))
    (le-ltb other (line + 1) (omega (arith, less)))
    ∙ ap (λ b. b && (nat_lt (first_line area.cols) (past_line area.cols)
    && nat_lt (first_line area.cols) (past_line area.cols)))
    (and_false (nat_lt line (other + 1)))
two_apart Columns area line other less =
    let rows = nat_lt (first_line area.rows) (past_line area.rows)
    && nat_lt (first_line area.rows) (past_line area.rows) in
    ap (λ b. rows && (nat_lt line (other + 1) && b)) (le-ltb other (line + 1) (omega (arith, less)))
    ∙ ap (λ b. rows && b) (and_false (nat_lt line (other + 1)))
    ∙ and_false rows

-- one of them
abbrev IsLineOf : Axis → Area → Area → Type 0
IsLineOf axis area part = (line : ℕ) × HasLine (band_on axis area) line × (part ≡ line_of axis area line)

module _ (axis : Axis) (area : Area) (is : IsRectangle area) where
  abbrev band : Band
  band = band_on axis area

  abbrev lines : ℕ
  lines = past_line band - first_line band

  abbrev all_lines : List Area
  all_lines = map (line_of axis area) (range_with_len (first_line band) lines)

  band_ends : HasEnds band
  band_ends = ends_on axis area is

  line_at : (k : ℕ) (d : Area) → k < length all_lines
      → (k < lines) × (get_or all_lines k d ≡ line_of axis area (first_line band + k))
  line_at k d there =
      let few : k < lines = subst (λ n. k < n) (length-map-range_with_len (line_of axis area) (first_line band) lines)
      there in
      (few, get_or-map-range_with_len (line_of axis area) (first_line band) lines k (first_line band + k) d few refl)

  lines_apart : IsDistinct meets (lines_of axis area)
  lines_apart = IsDistinct-filter has_many_cells meets all_lines
      (IsDistinct-from_apart meets all_lines (λ i j d l m.
      let one = line_at i d (omega (arith, l, m)) in
      let other = line_at j d m in
      ap (λ a. meets a (get_or all_lines j d)) one.1
      ∙ ap (meets (line_of axis area (first_line band + i))) other.1
      ∙ two_apart axis area (first_line band + i) (first_line band + j) (omega (arith, l))))

  is_line : (part : Area) → Contains all_lines part → IsLineOf axis area part
  is_line part has =
      let (line, among, is_part) = Contains-map_from (line_of axis area) (range_with_len (first_line band) lines) part
      has in
      let both = line_among (first_line band) lines line among in
      (line, line_between band line band_ends both.0 (omega (arith, both.1, rises band band_ends)), sym is_part)

  among_lines : (part : Area) → IsLineOf axis area part → Contains all_lines part
  among_lines part (line, has, is_part) =
      let there = line_there band line band_ends has in
      subst (Contains all_lines) (sym is_part)
      (Contains-map (line_of axis area) (range_with_len (first_line band) lines) line
      (among_line (first_line band) lines line there.0 (omega (arith, there.1))))

  lines_listed : (part : Area) → Contains (lines_of axis area) part ↔ (IsLineOf axis area part × HasManyCells part)
  lines_listed part = (
    (λ has.
        let both = Contains-filter_from has_many_cells all_lines part has in
        (is_line part both.0, cells_are part both.1)),
    (λ both. Contains-filter has_many_cells all_lines part (among_lines part both.0) (are_cells part both.1)),
  )

  part_of : (part : Area) → IsLineOf axis area part → IsRectangle part × HoldsAll area part
  part_of part (line, has, is_part) =
      subst (λ p. IsRectangle p × HoldsAll area p) (sym is_part) (line_part axis area line is has)

  pub lines_are_parts : AreParts area (lines_of axis area)
  lines_are_parts = record {
    each = λ k d there.
        let both =
        (lines_listed (get_or (lines_of axis area) k d)).0 (Contains-get_or (lines_of axis area) k d there) in
        ((part_of (get_or (lines_of axis area) k d) both.0).0, both.1);
    apart = λ i j d l m.
        let one = (lines_listed (get_or (lines_of axis area) i d)).0
        (Contains-get_or (lines_of axis area) i d (omega (arith, l, m))) in
        let other = (lines_listed (get_or (lines_of axis area) j d)).0 (Contains-get_or (lines_of axis area) j d m) in
        not_overlapping (get_or (lines_of axis area) i d) (get_or (lines_of axis area) j d)
        (part_of (get_or (lines_of axis area) i d) one.0).0 (part_of (get_or (lines_of axis area) j d) other.0).0
        (apart_from_distinct meets (lines_of axis area) i j d lines_apart l m);
    inside = λ k d there.
        let both =
        (lines_listed (get_or (lines_of axis area) k d)).0 (Contains-get_or (lines_of axis area) k d there) in
        (part_of (get_or (lines_of axis area) k d) both.0).1;
  }
