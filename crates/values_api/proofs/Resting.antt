-- Areas of the places that values don't reach: said by lines and places, for rows and columns at once.
use Rattle.std.proofs.Common.{◌≡◌, ℕ, ◌+◌, ◌-◌, ◌<◌, ◌≤◌, ◌++◌, ◌∷◌, [], List, length, get_or, min, cond, Bool, true, false, refl, sym, subst, ap, ◌∙◌, ⊎_elim, inl, inr, arith}
use Rattle.std.specs.Prelude.{◌⊎◌, ◌↔◌, All, Any, nat_lt}
use Rattle.std.proofs.lemmas.Bool.{cases_lt, le-ltb, ltb-false}
use Rattle.std.proofs.lemmas.List.{get_or_past}
use Rattle.std.proofs.lemmas.List.Elements.{All-nil, All-push}
use Rattle.std.proofs.lemmas.List.Quantifiers.{Any-push}
use Rattle.cell_value.specs.declared.cell.Block.{Block}
use Rattle.grid_range.specs.Area.{AreaWithin, Holds}
use Rattle.grid_range.specs.Band.{HasLine, Within, first_line, end_line}
use Rattle.grid_range.specs.declared.area.Area.{Area}
use Rattle.grid_range.specs.declared.band.Band.{Band}
use Rattle.grid_range.specs.declared.band.Band.TheVariants.{Whole, From, Span}
use Rattle.world_model.specs.Sheet.{PlaceSheet}
use Rattle.values_api.specs.Denials.{AreRestOf}
use Rattle.values_api.specs.Rest.{area_along}
use Rattle.values_api.specs.Shown.{cell_along}
use Rattle.values_api.proofs.Ends.{from_first}
use Rattle.values_api.proofs.Pushed.{pushed, kept}

-- ---- lines and places

-- the area has that place of the line, which is a row, or a column
abbrev pub HasAlong : Bool → ℕ → ℕ → Area → Type 0
HasAlong true line place area = Holds area place line
HasAlong false line place area = Holds area line place

to_along : (columns : Bool) (sheet : ℕ) (lines places : Band) (line place : ℕ) → HasLine lines line
    → HasLine places place → HasAlong columns line place (area_along columns sheet lines places)
to_along true sheet lines places line place has has' = (has', has)
to_along false sheet lines places line place has has' = (has, has')

from_along : (columns : Bool) (sheet : ℕ) (lines places : Band) (line place : ℕ)
    → HasAlong columns line place (area_along columns sheet lines places) → HasLine lines line × HasLine places place
from_along true sheet lines places line place has = (has.1, has.0)
from_along false sheet lines places line place has = has

sheet_along : (columns : Bool) (sheet : ℕ) (lines places : Band) → (area_along columns sheet lines places).sheet ≡ sheet
sheet_along true sheet lines places = refl
sheet_along false sheet lines places = refl

-- ---- line by line

module _ {A : Type 0} (columns : Bool) (sheet : ℕ) (values : List (List A)) (lines places : ℕ × ℕ) where
  -- how many values the line has
  abbrev long : ℕ → ℕ
  long line = length (get_or values (line - lines.0) [])

  -- the place is behind the values of a line, which is one of the first
  pub record IsBehind (count line place : ℕ) : Type 0 where
    pub line_from : lines.0 ≤ line
    pub line_to : line < lines.0 + count
    pub place_from : places.0 + long line ≤ place
    pub place_to : place < places.1

  -- the place is one of the area's that its line's values don't reach
  pub record IsUnreached (line place : ℕ) : Type 0 where
    pub line_from : lines.0 ≤ line
    pub line_to : line < lines.1
    pub place_from : places.0 ≤ place
    pub place_to : place < places.1
    pub unreached : nat_lt (place - places.0) (long line) ≡ false

  -- the areas have just those places
  pub record HaveJust (IsOne : ℕ → ℕ → Type 0) (areas : List Area) : Type 0 where
    pub own : All (λ one. one.sheet ≡ sheet) areas
    pub exactly : (line place : ℕ) → Any (HasAlong columns line place) areas ↔ IsOne line place

  -- so far those behind the values of the first lines
  abbrev pub AreBehind : ℕ → List Area → Type 0
  AreBehind count areas = HaveJust (IsBehind count) areas

  pub none_behind : AreBehind 0 []
  none_behind = record {
    own = All-nil (λ one. one.sheet ≡ sheet);
    exactly = λ line place. (
      (λ has. absurd (omega (arith, has.2))),
      (λ is. let from = is.line_from in let to = is.line_to in absurd (omega (arith, from, to))),
    );
  }

  module _ (count : ℕ) (areas : List Area) (so_far : AreBehind count areas) where
    -- one area more, which has some lines' places
    abbrev with_area : ℕ × ℕ → ℕ × ℕ → List Area
    with_area some behind = areas ++ area_along columns sheet (Span some.0 some.1) (Span behind.0 behind.1) ∷ []

    one_more : (IsOne : ℕ → ℕ → Type 0) (some behind : ℕ × ℕ)
        → ((line place : ℕ) → IsBehind count line place → IsOne line place)
        → ((line place : ℕ) → some.0 ≤ line → line < some.1 → behind.0 ≤ place → place < behind.1 → IsOne line place)
        → ((line place : ℕ) → IsOne line place → IsBehind count line place
        ⊎ ((some.0 ≤ line) × (line < some.1) × (behind.0 ≤ place) × (place < behind.1)))
        → HaveJust IsOne (with_area some behind)
    one_more IsOne some behind before here either =
        let last = area_along columns sheet (Span some.0 some.1) (Span behind.0 behind.1) in
        record {
          own = All-push (λ one. one.sheet ≡ sheet) areas last so_far.own
              (sheet_along columns sheet (Span some.0 some.1) (Span behind.0 behind.1));
          exactly = λ line place. (
            (λ has. ⊎_elim
                (λ (old : Any (HasAlong columns line place) areas). before line place
                ((so_far.exactly line place).0 old))
                (λ (it : HasAlong columns line place last).
                let bands = from_along columns sheet (Span some.0 some.1) (Span behind.0 behind.1) line place it in
                here line place bands.0.0 bands.0.1 bands.1.0 bands.1.1)
                (pushed (HasAlong columns line place) areas last has)),
            (λ is. ⊎_elim
                (λ (old : IsBehind count line place).
                kept (HasAlong columns line place) areas last ((so_far.exactly line place).1 old))
                (λ (it : (some.0 ≤ line) × (line < some.1) × (behind.0 ≤ place) × (place < behind.1)).
                Any-push (HasAlong columns line place) areas last
                (to_along columns sheet (Span some.0 some.1) (Span behind.0 behind.1) line place (it.0, it.1)
                (it.2, it.3)))
                (either line place is)),
          );
        }

    -- ---- the next line

    later : (line place : ℕ) → IsBehind count line place → IsBehind (count + 1) line place
    later line place is = record {
      line_from = is.line_from;
      line_to = let below = is.line_to in omega (arith, below);
      place_from = is.place_from;
      place_to = is.place_to;
    }

    -- that line has as many values
    long_is : (line : ℕ) → lines.0 + count ≤ line → line < lines.0 + count + 1
        → length (get_or values count []) ≡ long line
    long_is line from to = ap (λ n. length (get_or values n [])) (omega (arith, from, to))

    -- the places behind its values are an area more
    pub line_added : (many : ℕ) (after : List Area) → many ≡ length (get_or values count [])
        → after ≡ with_area (lines.0 + count, lines.0 + count + 1) (places.0 + many, places.1)
        → AreBehind (count + 1) after
    line_added many after many_is after_is = subst (AreBehind (count + 1)) (sym after_is)
        (one_more (IsBehind (count + 1)) (lines.0 + count, lines.0 + count + 1) (places.0 + many, places.1) later
        (λ line place from to behind before.
        let same = long_is line from to in
        record {
          line_from = omega (arith, from);
          line_to = omega (arith, to);
          place_from = omega (arith, behind, same, many_is);
          place_to = before;
        })
        (λ line place is. ⊎_elim
        (λ (first : line < lines.0 + count).
        inl (record { line_from = is.line_from; line_to = first; place_from = is.place_from; place_to = is.place_to }))
        (λ (next : lines.0 + count ≤ line).
        let to = is.line_to in
        let behind = is.place_from in
        let same = long_is line next (omega (arith, to)) in
        inr (next, omega (arith, to), omega (arith, behind, same, many_is), is.place_to))
        (cases_lt line (lines.0 + count))))

    -- a line whose values go to the end has none
    pub line_full : (after : List Area) → after ≡ areas → places.1 - places.0 ≤ length (get_or values count [])
        → AreBehind (count + 1) after
    line_full after after_is full = subst (AreBehind (count + 1)) (sym after_is) (record {
      own = so_far.own;
      exactly = λ line place. (
        (λ has. later line place ((so_far.exactly line place).0 has)),
        (λ is. (so_far.exactly line place).1 (
            let to = is.line_to in
            let behind = is.place_from in
            let before = is.place_to in
            record {
              line_from = is.line_from;
              line_to = ⊎_elim (λ (first : line < lines.0 + count). first)
                  (λ (next : lines.0 + count ≤ line).
                  let same = long_is line next (omega (arith, to)) in
                  absurd (omega (arith, behind, before, same, full)))
                  (cases_lt line (lines.0 + count));
              place_from = behind;
              place_to = before;
            })),
      );
    })

    -- ---- the lines behind all

    pub all_behind : (end : ℕ) (after : List Area) → end ≡ count → count ≡ min (length values) (lines.1 - lines.0)
        → after ≡ with_area (lines.0 + end, lines.1) places → HaveJust IsUnreached after
    all_behind end after end_is count_is after_is = subst (HaveJust IsUnreached)
        (sym (after_is ∙ ap (λ n. with_area (lines.0 + n, lines.1) places) end_is))
        (one_more IsUnreached (lines.0 + count, lines.1) places
        (λ line place is.
        let from = is.line_from in
        let to = is.line_to in
        let behind = is.place_from in
        record {
          line_from = from;
          line_to = omega (arith, from, to, count_is);
          place_from = omega (arith, behind);
          place_to = is.place_to;
          unreached = le-ltb (place - places.0) (long line) (omega (arith, behind));
        })
        (λ line place from to behind before.
        let none : length (get_or values (line - lines.0) []) ≡ 0 =
        ap length (get_or_past values (line - lines.0) [] (omega (arith, from, to, count_is))) in
        record {
          line_from = omega (arith, from);
          line_to = to;
          place_from = behind;
          place_to = before;
          unreached = le-ltb (place - places.0) (long line) (omega (arith, none));
        })
        (λ line place is.
        let from = is.line_from in
        let behind = is.place_from in
        let past = ltb-false (place - places.0) (long line) is.unreached in ⊎_elim
        (λ (first : line < lines.0 + count). inl (record {
          line_from = from;
          line_to = first;
          place_from = omega (arith, behind, past);
          place_to = is.place_to;
        }))
        (λ (next : lines.0 + count ≤ line). inr (next, is.line_to, behind, is.place_to))
        (cases_lt line (lines.0 + count))))

-- ---- rows and columns

has_to : (band : Band) (line count : ℕ) → HasLine band line → line < count → line < end_line band count
has_to Whole line count has there = there
has_to (From start) line count has there = there
has_to (Span start end) line count has there = has.1

pub has_between : (band : Band) (line count : ℕ) → first_line band ≤ line → line < end_line band count
    → HasLine band line
has_between Whole line count from to = tt
has_between (From start) line count from to = from
has_between (Span start end) line count from to = (from, to)

-- the first line of the band, and the one behind its last
abbrev pub ends : Band → ℕ → ℕ × ℕ
ends band count = (first_line band, end_line band count)

-- those of the lines that values list, rows or columns, and of the places in them
abbrev pub line_ends : Bool → Area → ℕ → ℕ → ℕ × ℕ
line_ends columns area rows cols = cond columns (ends area.cols cols) (ends area.rows rows)

abbrev pub place_ends : Bool → Area → ℕ → ℕ → ℕ × ℕ
place_ends columns area rows cols = cond columns (ends area.rows rows) (ends area.cols cols)

in_order : (band : Band) (count : ℕ) → Within band count → first_line band ≤ end_line band count
in_order Whole count within = omega arith
in_order (From start) count within = omega (arith, within)
in_order (Span start end) count within = omega (arith, within.0)

pub ends_in_order : (columns : Bool) (area : Area) (rows cols : ℕ) → AreaWithin area rows cols
    → ((line_ends columns area rows cols).0 ≤ (line_ends columns area rows cols).1)
    × ((place_ends columns area rows cols).0 ≤ (place_ends columns area rows cols).1)
ends_in_order true area rows cols within = (in_order area.cols cols within.1, in_order area.rows rows within.0)
ends_in_order false area rows cols within = (in_order area.rows rows within.0, in_order area.cols cols within.1)

-- the area has the cell, and a sheet of that size its row and its column
abbrev HasCell : Area → ℕ → ℕ → ℕ → ℕ → Type 0
HasCell area rows cols row col = Holds area row col × (row < rows) × (col < cols)

-- the values don't reach the cell from the area's first one on
abbrev IsRest : {A : Type 0} → Bool → List (List A) → Area → ℕ → ℕ → ℕ → ℕ → Type 0
IsRest columns values area rows cols row col = HasCell area rows cols row col
    × (cell_along columns (λ line place. nat_lt place (length (get_or values line [])))
    (row - first_line area.rows) (col - first_line area.cols) ≡ false)

-- said by lines and places it is said by rows and columns
pub by_cells : {A : Type 0} (columns : Bool) (values : List (List A)) (area : Area) (rows cols : ℕ) (areas : List Area)
    → HaveJust columns area.sheet values (line_ends columns area rows cols) (place_ends columns area rows cols)
    (IsUnreached columns area.sheet values (line_ends columns area rows cols) (place_ends columns area rows cols)) areas
    → (row col : ℕ) → Any (λ one. HasCell one rows cols row col) areas ↔ IsRest columns values area rows cols row col
by_cells true values area rows cols areas are row col = (
  (λ (k, one, below, at, has).
      let is = (are.exactly col row).0 (k, one, below, at, has.0) in (
        (
          (
            has_between area.rows row rows is.place_from is.place_to,
            has_between area.cols col cols is.line_from is.line_to,
          ),
          has.1,
          has.2,
        ),
        is.unreached,
      )),
  (λ (has, unreached).
      let (k, one, below, at, held) = (are.exactly col row).1 (record {
        line_from = from_first area.cols col has.0.1;
        line_to = has_to area.cols col cols has.0.1 has.2;
        place_from = from_first area.rows row has.0.0;
        place_to = has_to area.rows row rows has.0.0 has.1;
        unreached = unreached;
      }) in (k, one, below, at, (held, has.1, has.2))),
)
by_cells false values area rows cols areas are row col = (
  (λ (k, one, below, at, has).
      let is = (are.exactly row col).0 (k, one, below, at, has.0) in (
        (
          (
            has_between area.rows row rows is.line_from is.line_to,
            has_between area.cols col cols is.place_from is.place_to,
          ),
          has.1,
          has.2,
        ),
        is.unreached,
      )),
  (λ (has, unreached).
      let (k, one, below, at, held) = (are.exactly row col).1 (record {
        line_from = from_first area.rows row has.0.0;
        line_to = has_to area.rows row rows has.0.0 has.1;
        place_from = from_first area.cols col has.0.1;
        place_to = has_to area.cols col cols has.0.1 has.2;
        unreached = unreached;
      }) in (k, one, below, at, (held, has.1, has.2))),
)

-- and so the areas are the rest of the area
pub are_rest : (sheet : PlaceSheet) (area : Area) (block : Block) (lines places : ℕ × ℕ) (areas : List Area)
    → lines ≡ line_ends block.columns_first area sheet.table.rows sheet.table.cols
    → places ≡ place_ends block.columns_first area sheet.table.rows sheet.table.cols
    → HaveJust block.columns_first area.sheet block.values lines places
    (IsUnreached block.columns_first area.sheet block.values lines places) areas
    → AreRestOf sheet area block areas
are_rest sheet area block lines places areas lines_are places_are have =
    let at_lines = subst (λ l. HaveJust block.columns_first area.sheet block.values l places
    (IsUnreached block.columns_first area.sheet block.values l places) areas) lines_are have in
    let at_ends = subst (λ p. HaveJust block.columns_first area.sheet block.values
    (line_ends block.columns_first area sheet.table.rows sheet.table.cols) p
    (IsUnreached block.columns_first area.sheet block.values
    (line_ends block.columns_first area sheet.table.rows sheet.table.cols) p) areas) places_are at_lines in (
      at_ends.own,
      by_cells block.columns_first block.values area sheet.table.rows sheet.table.cols areas at_ends,
    )
