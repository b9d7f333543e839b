-- The formulas of a table: those that follow a change, and how many there are.
use Rattle.std.proofs.Common.{◌≡◌, ℕ, ◌+◌, refl, sym, ap, subst, ◌∙◌, List, [], ◌∷◌, cond, Bool, true, false, ◌||◌, arith}
use Rattle.std.specs.Prelude.{Option, None, Some, IfSome, is_some, map}
use Rattle.std.specs.List.{AllByRecursion, count_by, fold, list_any}
use Rattle.std.specs.List.Sorted.{IsStrictlySortedBy}
use Rattle.std.specs.Option.{option_map_or}
use Rattle.std.specs.Ordering.{is_eq}
use Rattle.std.specs.declared.cmp.Ordering.TheVariants.{Less}
use Rattle.std.specs.Cmp.{eq_by_cmp_equiv}
use Rattle.std.specs.FinMap as finite
use Rattle.std.proofs.lemmas.Bool.{false≢true}
use Rattle.std.proofs.lemmas.List.Sums.{sum_by-cons}
use Rattle.std.proofs.lemmas.Map.Keys.{sorted_head, sorted_tail}
use Rattle.std.proofs.lemmas.Map.Views.{list_any-from_Contains}
use Rattle.grid_range.specs.Area.{by_rows}
use Rattle.grid_range.specs.ByRows.{by_rows_total}
use Rattle.grid_range.specs.declared.axis.Axis.{Axis}
use Rattle.grid_range.specs.declared.band.Band.TheVariants.{Whole}
use Rattle.grid_range.specs.declared.change.Change.{Change}
use Rattle.cell_store.specs.Laws.{TablesByItems}
use Rattle.cell_store.specs.Moved.{GoesWithLines}
use Rattle.cell_store.specs.Places.{AreFilledPlaces}
use Rattle.cell_store.specs.Table.{Table, item_at, empty_table, without_item}
use Rattle.ref_rewrite.specs.Following.{piece_followed}
use Rattle.ref_rewrite.specs.declared.cell_content.Content.{Content}
use Rattle.ref_rewrite.specs.declared.cell_content.Content.TheVariants as content
use Rattle.ref_rewrite.specs.declared.pieces.Piece.{Piece}
use Rattle.ref_rewrite.specs.declared.pieces.Piece.TheVariants as piece
use Rattle.world_model.specs.Counts.{is_formula, formulas_at, formulas_in}
use Rattle.world_model.specs.Laws.{FormulasCounted}
use Rattle.world_model.specs.PlaceChange.{FollowsInPlace, content_followed}
use Rattle.dimension_ops.specs.References.{AreMarked, AreReferring, AreWithinOn, IsContentWithinOn, followed_at, is_formula_at, is_reference_to, refers_to}
use Rattle.dimension_ops.proofs.Becoming.{cols_stay, items_become, rows_stay}
use Rattle.dimension_ops.proofs.Places.{among, same}

-- ---- what has no reference to the sheet stays

either_false : (a b : Bool) → (a || b) ≡ false → (a ≡ false) × (b ≡ false)
either_false true b is = absurd (false≢true (sym is))
either_false false b is = (refl, is)

module _ (sheet : ℕ) (axis : Axis) (count : ℕ) (change : Change) where
  abbrev after : Content → Content
  after = content_followed sheet axis count change

  piece_stays : (one : Piece) → is_reference_to sheet one ≡ false → piece_followed sheet axis count change one ≡ one
  piece_stays (piece.Text text) is = refl
  piece_stays (piece.Word word) is = refl
  piece_stays (piece.Ref reference) is = rw is refl
  piece_stays piece.Lost is = refl

  pieces_stay : (pieces : List Piece) → list_any (is_reference_to sheet) pieces ≡ false
      → map (piece_followed sheet axis count change) pieces ≡ pieces
  pieces_stay [] is = refl
  pieces_stay (one ∷ pieces) is =
      let both = either_false (is_reference_to sheet one) (list_any (is_reference_to sheet) pieces) is in
      ap (λ first. first ∷ map (piece_followed sheet axis count change) pieces) (piece_stays one both.0)
      ∙ ap (λ rest. one ∷ rest) (pieces_stay pieces both.1)

  content_stays : (item : Content) → refers_to sheet item ≡ false → after item ≡ item
  content_stays (content.Number number) is = refl
  content_stays (content.Text text) is = refl
  content_stays (content.Truth truth) is = refl
  content_stays (content.Formula formula) is =
      ap (λ pieces. content.Formula (record formula { pieces = pieces })) (pieces_stay formula.pieces is)

  -- all formulas with a reference to it follow
  pub sheet_follows : (table : Table Content) (places : List (ℕ × ℕ)) → AreReferring sheet table places
      → FollowsInPlace sheet axis count change table (fold (followed_at sheet axis count change) table places)
  sheet_follows table places are = record {
    rows = rows_stay after (refers_to sheet) content_stays table places are;
    cols = cols_stay after (refers_to sheet) content_stays table places are;
    items = items_become after (refers_to sheet) content_stays table places are;
  }

  -- where there is none, nothing follows
  pub unreferred : (table : Table Content) → AreReferring sheet table []
      → FollowsInPlace sheet axis count change table table
  unreferred table none = sheet_follows table [] none

  -- what went with its line has the references that it had
  pub moved_within : (before moved : Table Content) → GoesWithLines axis change before moved
      → AreWithinOn sheet axis count before → AreWithinOn sheet axis count moved
  moved_within before moved goes within row col = came (item_at moved row col) refl
    where
      came : (held : Option Content) → item_at moved row col ≡ held → IfSome held (IsContentWithinOn sheet axis count)
      came None is = tt
      came (Some item) is =
          let from = (goes.items row col item).0 is in
          subst (λ held. IfSome held (IsContentWithinOn sheet axis count)) from.held (within from.old_row from.old_col)

  pub formula_stays : (item : Content) → is_formula (after item) ≡ is_formula item
  formula_stays (content.Number number) = refl
  formula_stays (content.Text text) = refl
  formula_stays (content.Truth truth) = refl
  formula_stays (content.Formula formula) = refl

-- what has a reference is a formula
pub formula_then : (sheet : ℕ) (item : Content) → refers_to sheet item ≡ true → is_formula item ≡ true
formula_then sheet (content.Formula formula) refers = refl
formula_then sheet (content.Number number) refers = refers
formula_then sheet (content.Text text) refers = refers
formula_then sheet (content.Truth truth) refers = refers

-- ---- how many formulas there are

module _ (counted : FormulasCounted) (tables : TablesByItems Content) where
  -- what is listed is all
  abbrev AreAll : List (ℕ × ℕ) → Table Content → Type 0
  AreAll places table = (row col : ℕ) → is_some (item_at table row col) ≡ true → among places (row, col) ≡ true

  none_there : (held : Option Content) → (is_some held ≡ true → false ≡ true) → held ≡ None
  none_there None none = refl
  none_there (Some item) none = absurd (false≢true (none refl))

  nothing : (table : Table Content) → AreAll [] table → formulas_in table ≡ 0
  nothing table all =
      ap formulas_in (tables.same table (empty_table table.rows table.cols) refl refl
      (λ row col. none_there (item_at table row col) (all row col) ∙ sym (finite.get-empty by_rows (row, col))))
      ∙ counted.none table.rows table.cols

  without_first : (place : ℕ × ℕ) (places : List (ℕ × ℕ)) (table : Table Content) → AreAll (place ∷ places) table
      → AreAll places (without_item table place.0 place.1)
  without_first place places table all row col some =
      behind (same (row, col) place) (item_at table row col) (among places (row, col))
      (ap is_some (sym (finite.get-remove by_rows_total table.cells place (row, col))) ∙ some) (all row col)
    where
      behind : (b : Bool) (held : Option Content) (rest : Bool) → is_some (cond b None held) ≡ true
          → (is_some held ≡ true → (b || rest) ≡ true) → rest ≡ true
      behind true held rest some listed = absurd (false≢true some)
      behind false held rest some listed = listed some

  taken : (place : ℕ × ℕ) (table : Table Content)
      → formulas_in (without_item table place.0 place.1) + formulas_at (item_at table place.0 place.1)
      ≡ formulas_in table
  taken place table = omega (arith, counted.written table place.0 place.1 None)

  -- without a formula at any place there is none
  no_formulas : (places : List (ℕ × ℕ)) (table : Table Content) → AreAll places table
      → ((row col : ℕ) → formulas_at (item_at table row col) ≡ 0) → formulas_in table ≡ 0
  no_formulas [] table all none = nothing table all
  no_formulas (place ∷ places) table all none =
      let rest = no_formulas places (without_item table place.0 place.1) (without_first place places table all)
      (λ row col. still (same (row, col) place) (item_at table row col)
      (item_at (without_item table place.0 place.1) row col)
      (finite.get-remove by_rows_total table.cells place (row, col)) (none row col)) in
      omega (arith, taken place table, rest, none place.0 place.1)
    where
      still : (b : Bool) (held held' : Option Content) → held' ≡ cond b None held → formulas_at held ≡ 0
          → formulas_at held' ≡ 0
      still true held held' is none = ap formulas_at is
      still false held held' is none = ap formulas_at is ∙ none

  all_keys : (table : Table Content) → AreAll (finite.keys table.cells) table
  all_keys table row col some = sym (finite.contains_key-keys table.cells (row, col)) ∙ some

  one_at : (held : Option Content) → cond (option_map_or is_formula held false) 1 0 ≡ formulas_at held
  one_at None = refl
  one_at (Some item) = refl

  -- the same formulas stand at other places
  elsewhere : (place : ℕ × ℕ) (table : Table Content) (others : List (ℕ × ℕ))
      → AllByRecursion (λ other. by_rows place other ≡ Less) others
      → count_by (is_formula_at table) others ≡ count_by (is_formula_at (without_item table place.0 place.1)) others
  elsewhere place table [] less = refl
  elsewhere place table (other ∷ others) less =
      let without = without_item table place.0 place.1 in
      let apart : same other place ≡ false =
      (eq_by_cmp_equiv by_rows_total).symm other place ∙ ap is_eq less.0 in
      let stays : item_at without other.0 other.1 ≡ item_at table other.0 other.1 =
      finite.get-remove by_rows_total table.cells place other
      ∙ ap (λ b. cond b None (item_at table other.0 other.1)) apart in
      sum_by-cons (λ p. cond (is_formula_at table p) 1 0) other others
      ∙ ap (λ held. cond (option_map_or is_formula held false) 1 0 + count_by (is_formula_at table) others) (sym stays)
      ∙ ap (λ n. cond (is_formula_at without other) 1 0 + n) (elsewhere place table others less.1)
      ∙ sym (sum_by-cons (λ p. cond (is_formula_at without p) 1 0) other others)

  -- each formula is listed
  abbrev AreListed : List (ℕ × ℕ) → Table Content → Type 0
  AreListed places table = (row col : ℕ) → is_formula_at table (row, col) ≡ true → among places (row, col) ≡ true

  none_at : (held : Option Content) → (option_map_or is_formula held false ≡ true → false ≡ true) → formulas_at held ≡ 0
  none_at None none = refl
  none_at (Some (content.Formula formula)) none = absurd (false≢true (none refl))
  none_at (Some (content.Number number)) none = refl
  none_at (Some (content.Text text)) none = refl
  none_at (Some (content.Truth truth)) none = refl

  listed_without : (place : ℕ × ℕ) (places : List (ℕ × ℕ)) (table : Table Content) → AreListed (place ∷ places) table
      → AreListed places (without_item table place.0 place.1)
  listed_without place places table all row col is =
      behind (same (row, col) place) (item_at table row col) (among places (row, col))
      (ap (λ held. option_map_or is_formula held false)
      (sym (finite.get-remove by_rows_total table.cells place (row, col))) ∙ is) (all row col)
    where
      behind : (b : Bool) (held : Option Content) (rest : Bool)
          → option_map_or is_formula (cond b None held) false ≡ true
          → (option_map_or is_formula held false ≡ true → (b || rest) ≡ true) → rest ≡ true
      behind true held rest is listed = absurd (false≢true is)
      behind false held rest is listed = listed is

  all_counted : (places : List (ℕ × ℕ)) (table : Table Content) → IsStrictlySortedBy by_rows places
      → AreListed places table → count_by (is_formula_at table) places ≡ formulas_in table
  all_counted [] table sorted all = sym (no_formulas (finite.keys table.cells) table (all_keys table)
      (λ row col. none_at (item_at table row col) (all row col)))
  all_counted (place ∷ places) table sorted all =
      let without = without_item table place.0 place.1 in
      let first = sum_by-cons (λ p. cond (is_formula_at table p) 1 0) place places in
      let one = one_at (item_at table place.0 place.1) in
      let others = elsewhere place table places (sorted_head by_rows place places sorted) in
      let rest = all_counted places without (sorted_tail by_rows place places sorted)
      (listed_without place places table all) in
      first ∙ ap (λ n. n + count_by (is_formula_at table) places) one
      ∙ ap (λ n. formulas_at (item_at table place.0 place.1) + n) (others ∙ rest)
      ∙ omega (arith, taken place table)

  pub marked_counted : {M : Type 0} (table : Table Content) (marks : Table M) (places : List (ℕ × ℕ))
      → AreMarked table marks
      → AreFilledPlaces (record { sheet = 0; rows = Whole; cols = Whole }) marks places
      → count_by (is_formula_at table) places ≡ formulas_in table
  marked_counted table marks places marked are = all_counted places table are.in_order (λ row col is.
      list_any-from_Contains (eq_by_cmp_equiv by_rows_total) (row, col) places
      ((are.exactly row col).1 ((tt, tt), marked.each row col is)))
