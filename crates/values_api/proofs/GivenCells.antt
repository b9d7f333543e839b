-- The cells that values are given for, and the places of those values.
use Rattle.std.proofs.Common.{◌≡◌, ℕ, ◌+◌, ◌-◌, ◌<◌, ◌≤◌, List, [], ◌∷◌, ◌++◌, length, get_or, min, cond, Bool, true, false, refl, sym, subst, ap, ◌∙◌, arith, inl, inr}
use Rattle.std.specs.Prelude.{Option, None, Some, Contains, ◌≢◌, ◌⊎◌, ◌&&◌, not, nat_le, nat_lt}
use Rattle.std.specs.List.{AllPairs}
use Rattle.std.specs.Option.{IsSome, is_some}
use Rattle.std.proofs.lemmas.Bool.{and_parts, cases_order, false≢true, leb-true, ltb-true, le-leb, lt-ltb}
use Rattle.std.proofs.lemmas.List.Elements.{Contains-append_left, Contains-get_or, Contains-push, Contains-push_cases}
use Rattle.std.proofs.lemmas.List.Quantifiers.{all_pairs_push}
use Rattle.std.proofs.lemmas.List.{get_or_past}
use Rattle.cell_value.specs.declared.entered.Input.{Input}
use Rattle.cell_value.specs.declared.entered.Input.TheVariants.{Skip}
use Rattle.grid_range.specs.declared.area.Area.{Area}
use Rattle.values_api.specs.declared.given.Given.{Given}
use Rattle.merge_ranges.specs.Merges.{is_covered}
use Rattle.values_api.specs.Blocks.{AreCells, given_value, input_at, lies_in}
use Rattle.values_api.specs.Given.{first_row, first_col, value_by, value_uncovered, turned, room, cell_for, line_given}
use Rattle.values_api.specs.Given.{AreGivenBefore, IsBefore, is_written}
use Rattle.values_api.specs.Shown.{cell_along}
use Rattle.values_api.proofs.Listed.{both_true}

-- ---- lines and places

abbrev pub pair : ℕ → ℕ → ℕ × ℕ
pair one other = (one, other)

-- what stands at a row and a column stands at their line and place
along_is : {A : Type 0} (columns : Bool) (f : ℕ → ℕ → A) (row col : ℕ)
    → cell_along columns f row col ≡ f (cell_along columns pair row col).0 (cell_along columns pair row col).1
along_is true f row col = refl
along_is false f row col = refl

along_twice : (columns : Bool) (one other row col : ℕ) → cell_along columns pair row col ≡ (one, other)
    → cell_along columns pair one other ≡ (row, col)
along_twice true one other row col is = ap (λ (p : ℕ × ℕ). pair p.1 p.0) (sym is)
along_twice false one other row col is = sym is

-- both below both, either way round
along_below : (columns : Bool) (row col rows cols : ℕ) → row < rows → col < cols
    → ((cell_along columns pair row col).0 < (cell_along columns pair rows cols).0)
    × ((cell_along columns pair row col).1 < (cell_along columns pair rows cols).1)
along_below true row col rows cols few short = (short, few)
along_below false row col rows cols few short = (few, short)

along_above : (columns : Bool) (line place rows cols : ℕ) → line < (cell_along columns pair rows cols).0
    → place < (cell_along columns pair rows cols).1
    → ((cell_along columns pair line place).0 < rows) × ((cell_along columns pair line place).1 < cols)
along_above true line place rows cols few short = (short, few)
along_above false line place rows cols few short = (few, short)

-- ---- what is made of a cell

pub some_where : {A : Type 0} (b : Bool) (x : Option A) → IsSome (cond b x None) → (b ≡ true) × IsSome x
some_where true x some = (refl, some)
some_where false x some = absurd (false≢true some)

-- what merges cover is made nothing
some_uncovered : {A : Type 0} (covered : Bool) (x : Option A) → IsSome (cond covered None x) → IsSome x
some_uncovered true x some = absurd (false≢true some)
some_uncovered false x some = some

is_uncovered : {A : Type 0} (covered : Bool) (x : Option A) → is_some (cond covered None x) ≡ (is_some x && not covered)
is_uncovered true None = refl
is_uncovered true (Some x) = refl
is_uncovered false None = refl
is_uncovered false (Some x) = refl

not_left_out : (value : Input) → value ≡ Skip → IsSome (given_value value) → ⊥
not_left_out value is some = false≢true (subst (λ one. IsSome (given_value one)) is some)

module _ (given : Given) where
  -- a cell that is made something stands between the corner and the ends
  pub record IsInside (row col : ℕ) : Type 0 where
    pub row_from : first_row given ≤ row
    pub row_to : row < given.end_row
    pub col_from : first_col given ≤ col
    pub col_to : col < given.end_col

  abbrev at : ℕ → ℕ → ℕ × ℕ
  at row col = turned given (row - first_row given) (col - first_col given)

  abbrev value_at : ℕ × ℕ → Input
  value_at place = get_or (line_given given place.0) place.1 Skip

  pub made_inside : (row col : ℕ) → IsSome (value_by given row col) → IsInside row col
  made_inside row col some =
      let (lies, _) =
      some_where (lies_in (first_row given) given.end_row row && lies_in (first_col given) given.end_col col)
      (given_value (input_at given.block.now (row - first_row given) (col - first_col given))) some in
      let (rows, cols) = and_parts (lies_in (first_row given) given.end_row row)
      (lies_in (first_col given) given.end_col col) lies in
      let row_parts = and_parts (nat_le (first_row given) row) (nat_lt row given.end_row) rows in
      let col_parts = and_parts (nat_le (first_col given) col) (nat_lt col given.end_col) cols in
      record {
        row_from = leb-true (first_row given) row row_parts.0;
        row_to = ltb-true row given.end_row row_parts.1;
        col_from = leb-true (first_col given) col col_parts.0;
        col_to = ltb-true col given.end_col col_parts.1;
      }

  -- there it is made what the value makes of it
  pub made_there : (row col : ℕ) → IsInside row col
      → value_by given row col ≡ given_value (input_at given.block.now (row - first_row given) (col - first_col given))
  made_there row col inside =
      ap (λ b. cond b (given_value (input_at given.block.now (row - first_row given) (col - first_col given))) None)
      (both_true (lies_in (first_row given) given.end_row row) (lies_in (first_col given) given.end_col col)
      (both_true (nat_le (first_row given) row) (nat_lt row given.end_row)
      (le-leb (first_row given) row inside.row_from) (lt-ltb row given.end_row inside.row_to))
      (both_true (nat_le (first_col given) col) (nat_lt col given.end_col)
      (le-leb (first_col given) col inside.col_from) (lt-ltb col given.end_col inside.col_to)))

  pub made_at : (row col : ℕ) → IsInside row col → value_by given row col ≡ given_value (value_at (at row col))
  made_at row col inside =
      made_there row col inside
      ∙ ap given_value (along_is given.block.now.columns_first
      (λ line place. get_or (line_given given line) place Skip) (row - first_row given) (col - first_col given))

  -- the value of a cell that is made something stands in the block, and as far as the ends
  pub made_from : (row col : ℕ) → IsSome (value_by given row col)
      → ((at row col).0 < length given.block.now.values) × ((at row col).1 < length (line_given given (at row col).0))
      × ((at row col).0 < (room given).0) × ((at row col).1 < (room given).1)
  made_from row col some =
      let inside = made_inside row col some in
      let is_some : IsSome (given_value (value_at (at row col))) = subst IsSome (made_at row col inside) some in
      let low = inside.row_from in
      let left = inside.col_from in
      let high = inside.row_to in
      let right = inside.col_to in
      let below = along_below given.block.now.columns_first (row - first_row given) (col - first_col given)
      (given.end_row - first_row given) (given.end_col - first_col given) (omega arith) (omega arith) in (
        in_block (at row col).0 (at row col).1 is_some,
        in_line (at row col).0 (at row col).1 is_some,
        below.0,
        below.1,
      )
    where
      in_line : (line place : ℕ) → IsSome (given_value (value_at (line, place))) → place
          < length (line_given given line)
      in_line line place some = elim (cases_order place (length (line_given given line))) [
        | inl same ↦ absurd (not_left_out (value_at (line, place))
            (get_or_past (line_given given line) place Skip (omega arith)) some)
        | inr apart ↦ elim apart [
          | inl below ↦ below
          | inr above ↦ absurd (not_left_out (value_at (line, place))
              (get_or_past (line_given given line) place Skip (omega arith)) some)
        ]
      ]

      none_there : (line : ℕ) → length given.block.now.values ≤ line → length (line_given given line) ≡ 0
      none_there line past = ap length (get_or_past given.block.now.values line [] past)

      in_block : (line place : ℕ) → IsSome (given_value (value_at (line, place))) → line < length given.block.now.values
      in_block line place some =
          let there = in_line line place some in
          elim (cases_order line (length given.block.now.values)) [
            | inl same ↦ let none = none_there line (omega arith) in absurd (omega arith)
            | inr apart ↦ elim apart [
              | inl below ↦ below
              | inr above ↦ let none = none_there line (omega arith) in absurd (omega arith)
            ]
          ]

  -- ---- the cell of a value

  pub cell_inside : (line place : ℕ) → line < (room given).0 → place < (room given).1
      → IsInside (cell_for given line place).0 (cell_for given line place).1
  cell_inside line place few short =
      let above = along_above given.block.now.columns_first line place (given.end_row - first_row given)
      (given.end_col - first_col given) few short in
      let row = above.0 in
      let col = above.1 in
      record {
        row_from = omega arith;
        row_to = omega arith;
        col_from = omega arith;
        col_to = omega arith;
      }

  cell_at : (line place : ℕ) → at (cell_for given line place).0 (cell_for given line place).1 ≡ (line, place)
  cell_at line place =
      ap (λ n. turned given n ((cell_for given line place).1 - first_col given))
      (less (first_row given) (turned given line place).0)
      ∙ ap (λ n. turned given (turned given line place).0 n) (less (first_col given) (turned given line place).1)
      ∙ along_twice given.block.now.columns_first (turned given line place).0 (turned given line place).1
      line place refl
    where
      less : (first more : ℕ) → first + more - first ≡ more
      less first more = omega arith

  -- it is made what the value makes of it
  pub made_of : (line place : ℕ) → line < (room given).0 → place < (room given).1
      → value_by given (cell_for given line place).0 (cell_for given line place).1
      ≡ given_value (value_at (line, place))
  made_of line place few short =
      made_at (cell_for given line place).0 (cell_for given line place).1 (cell_inside line place few short)
      ∙ ap (λ (p : ℕ × ℕ). given_value (value_at p)) (cell_at line place)

  pub is_cell : (row col line place : ℕ) → IsInside row col → at row col ≡ (line, place)
      → cell_for given line place ≡ (row, col)
  is_cell row col line place inside is =
      let back : turned given line place ≡ (row - first_row given, col - first_col given) =
      along_twice given.block.now.columns_first line place (row - first_row given) (col - first_col given) is in
      ap (λ (p : ℕ × ℕ). (first_row given + p.0, first_col given + p.1)) back
      ∙ ap (λ n. (n, first_col given + (col - first_col given))) (more (first_row given) row inside.row_from)
      ∙ ap (λ n. (row, n)) (more (first_col given) col inside.col_from)
    where
      more : (first line : ℕ) → first ≤ line → first + (line - first) ≡ line
      more first line from = omega arith

  -- ---- the cells of the values before a place

  module _ (merges : List Area) where
    abbrev IsOf : ℕ → ℕ → ℕ → ℕ → Type 0
    IsOf line place row col = IsSome (value_uncovered merges given row col) × IsBefore line place (at row col)

    abbrev AreOf : ℕ → ℕ → List (ℕ × ℕ) → Type 0
    AreOf line place cells = AreGivenBefore merges given line place cells

    pub has_value : (row col : ℕ) → IsSome (value_uncovered merges given row col) → IsSome (value_by given row col)
    has_value row col = some_uncovered (is_covered merges row col) (value_by given row col)

    later : (line place : ℕ) (other : ℕ × ℕ) → IsBefore line place other → IsBefore line (place + 1) other
    later line place other (inl above) = inl above
    later line place other (inr (same, before)) = inr (same, omega (arith, before))

    pair_is : (p : ℕ × ℕ) (line place : ℕ) → p.0 ≡ line → p.1 ≡ place → p ≡ (line, place)
    pair_is p line place is is' = ap (λ n. (n, p.1)) is ∙ ap (λ n. (line, n)) is'

    module _ (line place : ℕ) (few : line < (room given).0) (short : place < (room given).1) where
      abbrev here : ℕ × ℕ
      here = cell_for given line place

      -- a value is written to its cell, unless it is left out or the cell is covered
      pub written_here : (value : Input) (covered : Bool) → value ≡ value_at (line, place)
          → covered ≡ is_covered merges here.0 here.1
          → is_some (value_uncovered merges given here.0 here.1) ≡ is_written value covered
      written_here value covered value_is covered_is =
          is_uncovered (is_covered merges here.0 here.1) (value_by given here.0 here.1)
          ∙ ap (λ found. is_some found && not (is_covered merges here.0 here.1))
          (made_of line place few short ∙ ap given_value (sym value_is))
          ∙ ap (λ b. is_written value b) (sym covered_is)

      -- a cell of the values before the next place is one before this, or is the one of the value here
      earlier : (row col : ℕ) → IsOf line (place + 1) row col → IsOf line place row col ⊎ (here ≡ (row, col))
      earlier row col (some, inl above) = inl (some, inl above)
      earlier row col (some, inr (same, before)) = elim (cases_order (at row col).1 place) [
        | inl at_place ↦ inr (is_cell row col line place (made_inside row col (has_value row col some))
            (pair_is (at row col) line place same at_place))
        | inr apart ↦ elim apart [
          | inl below ↦ inl (some, inr (same, below))
          | inr behind ↦ absurd (omega (arith, before, behind))
        ]
      ]

      not_before : (other : ℕ × ℕ) → other ≡ (line, place) → IsBefore line place other → ⊥
      not_before other is (inl above) = let same = ap (λ (p : ℕ × ℕ). p.0) is in omega (arith, above, same)
      not_before other is (inr (same, before)) =
          let same_place = ap (λ (p : ℕ × ℕ). p.1) is in omega (arith, before, same_place)

      -- the cells before aren't the one here
      new_here : (cells : List (ℕ × ℕ)) → AreOf line place cells → (k : ℕ) (d : ℕ × ℕ) → k < length cells
          → get_or cells k d ≢ here
      new_here cells so_far k d there is =
          let cell = get_or cells k d in
          let of = (so_far.exactly cell.0 cell.1).0 (Contains-get_or cells k d there) in
          not_before (at cell.0 cell.1) (ap (λ (p : ℕ × ℕ). at p.0 p.1) is ∙ cell_at line place) of.1

      -- a value that is written adds its cell
      pub added : (cells cells' : List (ℕ × ℕ)) → is_some (value_uncovered merges given here.0 here.1) ≡ true
          → cells' ≡ cells ++ here ∷ [] → AreOf line place cells → AreOf line (place + 1) cells'
      added cells cells' is_given pushed so_far = record {
        exactly = λ row col. (
          (λ has. elim (Contains-push_cases cells here (row, col)
              (subst (λ list. Contains list (row, col)) pushed has)) [
                | inl old ↦ let of = (so_far.exactly row col).0 old in (of.0, later line place (at row col) of.1)
                | inr it ↦ subst (λ (p : ℕ × ℕ). IsOf line (place + 1) p.0 p.1) it its_own
              ]),
          (λ of. subst (λ list. Contains list (row, col)) (sym pushed) (elim (earlier row col of) [
            | inl before ↦ Contains-append_left cells (here ∷ []) (row, col) ((so_far.exactly row col).1 before)
            | inr it ↦ subst (Contains (cells ++ here ∷ [])) it (Contains-push cells here)
          ])),
        );
        once = subst (AllPairs (λ one other. one ≢ other)) (sym pushed)
            (all_pairs_push (λ one other. one ≢ other) cells here so_far.once (new_here cells so_far));
      }
        where
          its_own : IsOf line (place + 1) here.0 here.1
          its_own = (is_given, subst (IsBefore line (place + 1)) (sym (cell_at line place)) (inr (refl, omega arith)))

      -- one that isn't adds none
      pub left_out : (cells : List (ℕ × ℕ)) → is_some (value_uncovered merges given here.0 here.1) ≡ false
          → AreOf line place cells → AreOf line (place + 1) cells
      left_out cells not_given so_far = record {
        exactly = λ row col. (
          (λ has. let of = (so_far.exactly row col).0 has in (of.0, later line place (at row col) of.1)),
          (λ of. elim (earlier row col of) [
            | inl before ↦ (so_far.exactly row col).1 before
            | inr it ↦ absurd (false≢true (sym not_given
                ∙ subst (λ (p : ℕ × ℕ). IsSome (value_uncovered merges given p.0 p.1)) (sym it) of.0))
          ]),
        );
        once = so_far.once;
      }

    -- behind the last place of a line the next line begins
    pub line_ended : (line place : ℕ) (cells : List (ℕ × ℕ))
        → ((other : ℕ) → other < length (line_given given line) → other < (room given).1 → other < place)
        → AreOf line place cells → AreOf (line + 1) 0 cells
    line_ended line place cells ended so_far = record {
      exactly = λ row col. (
        (λ has. let of = (so_far.exactly row col).0 has in (of.0, onwards (at row col) of.1)),
        (λ of.
            (so_far.exactly row col).1
            (of.0, back row col (at row col) refl (made_from row col (has_value row col of.0)) of.1)),
      );
      once = so_far.once;
    }
      where
        onwards : (other : ℕ × ℕ) → IsBefore line place other → IsBefore (line + 1) 0 other
        onwards other (inl above) = inl (omega (arith, above))
        onwards other (inr (same, before)) = inl (omega (arith, same))

        back : (row col : ℕ) (other : ℕ × ℕ) → at row col ≡ other
            → ((at row col).0 < length given.block.now.values)
            × ((at row col).1 < length (line_given given (at row col).0))
            × ((at row col).0 < (room given).0) × ((at row col).1 < (room given).1)
            → IsBefore (line + 1) 0 other → IsBefore line place other
        back row col other is from (inr (same, before)) = absurd (omega (arith, before))
        back row col other is from (inl above) = elim (cases_order other.0 line) [
          | inl same ↦
              let at_line : (at row col).0 ≡ line = ap (λ (p : ℕ × ℕ). p.0) is ∙ same in
              let at_place : (at row col).1 ≡ other.1 = ap (λ (p : ℕ × ℕ). p.1) is in
              let short : (at row col).1 < length (line_given given line) =
              subst (λ n. (at row col).1 < length (line_given given n)) at_line from.1 in
              let before : (at row col).1 < place = ended (at row col).1 short from.3 in
              inr (same, omega (arith, before, at_place))
          | inr apart ↦ elim apart [
            | inl below ↦ inl below
            | inr behind ↦ absurd (omega (arith, above, behind))
          ]
        ]

    -- behind the last line these are all
    pub all_ended : (line : ℕ) (cells : List (ℕ × ℕ)) → line ≡ min (length given.block.now.values) (room given).0
        → AreOf line 0 cells → AreCells (value_uncovered merges given) cells
    all_ended line cells ended so_far = record {
      exactly = λ row col. (
        (λ has. ((so_far.exactly row col).0 has).0),
        (λ some.
            let from = made_from row col (has_value row col some) in
            let there : (at row col).0 < length given.block.now.values = from.0 in
            let within : (at row col).0 < (room given).0 = from.2 in
            (so_far.exactly row col).1 (some, inl (omega (arith, there, within, ended)))),
      );
      once = so_far.once;
    }

    -- before the first place there are none
    pub none_before : AreOf 0 0 []
    none_before = record {
      exactly = λ row col. ((λ has. absurd (omega (arith, has.1))), (λ of. absurd (none (at row col) of.1)));
      once = λ i j d less there. absurd (omega (arith, there));
    }
      where
        none : (other : ℕ × ℕ) → IsBefore 0 0 other → ⊥
        none other (inl above) = omega (arith, above)
        none other (inr (same, before)) = omega (arith, before)
