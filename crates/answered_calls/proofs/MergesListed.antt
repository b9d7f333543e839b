-- Merges that a sheet can have: those that an area doesn't hold whole, and those that parts of an area become.
use Rattle.std.proofs.Common.{◌≡◌, ℕ, ◌-◌, inl, inr, arith, sym, ap, subst, ◌∙◌, true, List, [], ◌∷◌, ◌++◌, get_or, map}
use Rattle.std.specs.Prelude.{Contains, filter}
use Rattle.std.specs.List.{range_with_len}
use Rattle.std.specs.List.Sorted.{IsStrictlySortedBy}
use Rattle.std.specs.declared.cmp.Ordering.TheVariants.{Less, Equal}
use Rattle.std.proofs.lemmas.Bool.{cases_order}
use Rattle.std.proofs.lemmas.List.{get_or_default}
use Rattle.std.proofs.lemmas.List.Elements.{All-contains, Contains-append_cases, Contains-get_or}
use Rattle.std.proofs.lemmas.Map.Keys.{Less-from_sorted}
use Rattle.cell_value.specs.Elements.{Contains-cons_cases, Contains-filter_from, Contains-map_from, nothing_in}
use Rattle.grid_range.specs.Area.{AreaWithin, band_on, first_cell}
use Rattle.grid_range.specs.Band.{HasLine, first_line}
use Rattle.grid_range.specs.ByRows.{by_rows_exact}
use Rattle.grid_range.specs.declared.area.Area.{Area}
use Rattle.grid_range.specs.declared.axis.Axis.{Axis}
use Rattle.grid_range.specs.declared.axis.Axis.TheVariants.{Rows, Columns}
use Rattle.merge_ranges.specs.EndsLaws.{cells_are, ends_on, line_between, rises}
use Rattle.merge_ranges.specs.FirstCells.{first_met, not_before_itself}
use Rattle.merge_ranges.specs.LineParts.{line_among, line_part}
use Rattle.merge_ranges.specs.Merges.{HoldsAll, IsMerge, IsRectangle, Overlap, by_first_cell}
use Rattle.merge_ranges.specs.Tests.{has_many_cells, line_of, lines_of, past_line}
use Rattle.world_model.specs.Sheet.{PlaceSheet}
use Rattle.world_model.specs.Sound.{AreMergesOf}
use Rattle.dimension_ops.specs.MergeLaws.{line_is_of}
use Rattle.dimension_ops.specs.MergeRequests.{IsOfSheet}

-- ---- the order of merges

-- two rectangles that stand at one place of the order have their first cell in common
pub one_place : (one other : Area) → IsRectangle one → IsRectangle other → by_first_cell one other ≡ Equal
    → Overlap one other
one_place one other is is' equal = first_met one other is is' (by_rows_exact (first_cell one) (first_cell other) equal)

turned : (one other : Area) → Overlap one other → Overlap other one
turned one other both =
    record { row = both.row; col = both.col; one_holds = both.other_holds; other_holds = both.one_holds }

-- ---- areas that a sheet can have as merges, in some order

pub record AreApart (sheet : PlaceSheet) (areas : List Area) : Type 0 where
  pub each : (one : Area) → Contains areas one → IsMerge one
  pub once : (one other : Area) → Contains areas one → Contains areas other → Overlap one other → one ≡ other
  pub own : (one : Area) → Contains areas one
      → (one.sheet ≡ sheet.id) × AreaWithin one sheet.table.rows sheet.table.cols

module _ (sheet : PlaceSheet) where
  pub have_apart : (merges : List Area) → AreMergesOf sheet merges → AreApart sheet merges
  have_apart merges (are, own) = record {
    each = λ one has. All-contains IsMerge merges one are.each has;
    once = one_merge;
    own = λ one has.
        All-contains (λ (merge : Area). (merge.sheet ≡ sheet.id) × AreaWithin merge sheet.table.rows sheet.table.cols)
        merges one own has;
  }
    where
      one_merge : (one other : Area) → Contains merges one → Contains merges other → Overlap one other → one ≡ other
      one_merge one other (i, l, at) (j, m, at') both =
          let there : get_or merges j one ≡ other = get_or_default merges j one other m ∙ at' in
          let here : Overlap (get_or merges i one) (get_or merges j one) =
          subst (λ a. Overlap a (get_or merges j one)) (sym at) (subst (Overlap one) (sym there) both) in
          elim (cases_order i j) [
            | inl same ↦ sym at ∙ ap (λ k. get_or merges k one) same ∙ there
            | inr (inl less) ↦ absurd (are.apart i j one less m here)
            | inr (inr more) ↦
                absurd (are.apart j i one more l (turned (get_or merges i one) (get_or merges j one) here))
          ]

  -- in the order of merges they are merges
  pub apart_listed : (areas listed : List Area) → AreApart sheet areas → IsStrictlySortedBy by_first_cell listed
      → ((one : Area) → Contains listed one → Contains areas one) → AreMergesOf sheet listed
  apart_listed areas listed are sorted among = (
    record {
      each = λ k d there. are.each (get_or listed k d) (among (get_or listed k d) (Contains-get_or listed k d there));
      apart = λ i j d less there both.
          let one = get_or listed i d in
          let other = get_or listed j d in
          let same = are.once one other (among one (Contains-get_or listed i d (omega (arith, less, there))))
          (among other (Contains-get_or listed j d there)) both in
          not_before_itself other (subst (λ a. by_first_cell a other ≡ Less) same
          (Less-from_sorted by_first_cell listed i j d sorted less there));
      in_order = sorted;
    },
    λ k d there. are.own (get_or listed k d) (among (get_or listed k d) (Contains-get_or listed k d there)),
  )

  -- some of them
  pub fewer_apart : (areas some : List Area) → AreApart sheet areas
      → ((one : Area) → Contains some one → Contains areas one) → AreApart sheet some
  fewer_apart areas some are among = record {
    each = λ one has. are.each one (among one has);
    once = λ one other has has'. are.once one other (among one has) (among other has');
    own = λ one has. are.own one (among one has);
  }

  -- those and others with which they have no cell in common
  pub both_apart : (ones others : List Area) → AreApart sheet ones → AreApart sheet others
      → ((one other : Area) → Contains ones one → Contains others other → ¬ (Overlap one other))
      → AreApart sheet (ones ++ others)
  both_apart ones others are are' far = record {
    each = λ one has. elim (Contains-append_cases ones others one has) [
      | inl here ↦ are.each one here
      | inr there ↦ are'.each one there
    ];
    once = λ one other has has' both. elim (Contains-append_cases ones others one has) [
      | inl here ↦ elim (Contains-append_cases ones others other has') [
        | inl here' ↦ are.once one other here here' both
        | inr there' ↦ absurd (far one other here there' both)
      ]
      | inr there ↦ elim (Contains-append_cases ones others other has') [
        | inl here' ↦ absurd (far other one here' there (turned one other both))
        | inr there' ↦ are'.once one other there there' both
      ]
    ];
    own = λ one has. elim (Contains-append_cases ones others one has) [
      | inl here ↦ are.own one here
      | inr there ↦ are'.own one there
    ];
  }

-- ---- parts of a rectangle

one_line : (axis : Axis) (area : Area) (line other : ℕ) → Overlap (line_of axis area line) (line_of axis area other)
    → line ≡ other
one_line Rows area line other both =
    let (low, high) = both.one_holds.0 in
    let (low', high') = both.other_holds.0 in omega (arith, low, high, low', high')
one_line Columns area line other both =
    let (low, high) = both.one_holds.1 in
    let (low', high') = both.other_holds.1 in omega (arith, low, high, low', high')

-- parts that become merges, each of which the area holds
pub record AreParts (sheet : PlaceSheet) (area : Area) (parts : List Area) : Type 0 where
  pub apart : AreApart sheet parts
  pub held : (part : Area) → Contains parts part → HoldsAll area part

module _ (sheet : PlaceSheet) (area : Area) (is : IsRectangle area)
    (own : (area.sheet ≡ sheet.id) × AreaWithin area sheet.table.rows sheet.table.cols) where
  -- all of it
  itself : (one : Area) → Contains (filter has_many_cells (area ∷ [])) one
      → (area ≡ one) × (has_many_cells one ≡ true)
  itself one has =
      let (among, many) = Contains-filter_from has_many_cells (area ∷ []) one has in (
        elim (Contains-cons_cases area one [] among) [
          | inl same ↦ same
          | inr behind ↦ absurd (nothing_in one behind)
        ],
        many,
      )

  pub whole_part : AreParts sheet area (filter has_many_cells (area ∷ []))
  whole_part = record {
    apart = record {
      each = λ one has. let (same, many) = itself one has in (subst IsRectangle same is, cells_are one many);
      once = λ one other has has' both. sym (itself one has).0 ∙ (itself other has').0;
      own = λ one has.
          subst (λ (a : Area). (a.sheet ≡ sheet.id) × AreaWithin a sheet.table.rows sheet.table.cols)
          (itself one has).0 own;
    };
    held = λ one has. subst (HoldsAll area) (itself one has).0 (λ row col holds. holds);
  }

  -- each of its lines
  is_line : (axis : Axis) (one : Area) → Contains (lines_of axis area) one
      → (line : ℕ) × HasLine (band_on axis area) line × (line_of axis area line ≡ one) × (has_many_cells one ≡ true)
  is_line axis one has =
      let band = band_on axis area in
      let ends = ends_on axis area is in
      let lines = past_line band - first_line band in
      let (among, many) = Contains-filter_from has_many_cells
      (map (line_of axis area) (range_with_len (first_line band) lines)) one has in
      let (line, listed, same) =
      Contains-map_from (line_of axis area) (range_with_len (first_line band) lines) one among in
      let (low, high) = line_among (first_line band) lines line listed in
      (line, line_between band line ends low (omega (arith, high, rises band ends)), same, many)

  pub line_parts : (axis : Axis) → AreParts sheet area (lines_of axis area)
  line_parts axis = record {
    apart = record {
      each = λ one has. let (line, on, same, many) = is_line axis one has in
          (subst IsRectangle same (line_part axis area line is on).0, cells_are one many);
      once = λ one other has has' both. let (line, on, same, many) = is_line axis one has in
          let (line', on', same', many') = is_line axis other has' in
          let both' : Overlap (line_of axis area line) (line_of axis area line') =
          subst (λ a. Overlap a (line_of axis area line')) (sym same) (subst (Overlap one) (sym same') both) in
          sym same ∙ ap (line_of axis area) (one_line axis area line line' both') ∙ same';
      own = λ one has. let (line, on, same, many) = is_line axis one has in
          subst (IsOfSheet sheet) same (line_is_of axis area sheet line is on own);
    };
    held = λ one has. let (line, on, same, many) = is_line axis one has in
        subst (HoldsAll area) same (line_part axis area line is on).1;
  }
