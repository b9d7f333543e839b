-- Which rows a filter hides is told row by row.
use Rattle.std.proofs.Common.{◌≡◌, ◌≢◌, ℕ, ◌+◌, ◌-◌, ◌<◌, ◌≤◌, zero, suc, List, [], ◌∷◌, ◌++◌, length, get_or, take, Bool, true, false, cond, refl, sym, ap, subst, ◌∙◌, arith}
use Rattle.std.specs.Prelude.{◌==◌, nat_lt, Option, None, Some}
use Rattle.std.specs.List.{All, AllZip}
use Rattle.std.proofs.lemmas.Bool.{eqb-true, eq-eqb, false_from_ne_true, false≢true}
use Rattle.std.proofs.lemmas.Bool.Decides.{nat_tests}
use Rattle.std.proofs.lemmas.List.{get_or_push, take_more}
use Rattle.basic_filter.specs.Hiding.{hides}
use Rattle.basic_filter.specs.declared.types.Criterion.{Criterion}
use Rattle.basic_filter.specs.declared.types.Filter.{Filter}
use Rattle.cell_value.specs.declared.cell.Value.{Value}
use Rattle.grid_range.specs.Band.{Within, end_line, first_line}
use Rattle.grid_range.specs.declared.band.Band.{Band}
use Rattle.grid_range.specs.declared.band.Band.TheVariants.{Whole, From, Span}
use Rattle.world_model.specs.declared.limits.TheConstants.{MOST_ROWS}
use Rattle.world_model.specs.Book.{PlaceBook}
use Rattle.world_model.specs.Sheet.{PlaceSheet}
use Rattle.world_model.specs.Sound.{IsFilterOf, IsSheetSound, IsSound}
use Rattle.sheets_json.specs.declared.spreadsheet.DimensionProperties.{DimensionProperties}
use Rattle.values_api.specs.Values.{CellsHaveOneValue}
use Rattle.batch_engine.specs.HiddenRows.{AreRowsTold, AreRowsToldBefore, IsAskedValue, IsHidden, IsHiddenBy, IsHiddenIf, can_hide, is_told_hidden, row_told}

-- ---- values that are asked for

-- one value more
zip_more : {A B : Type 0} (R : A → B → Type 0) (ones : List A) (others : List B) (one : A) (other : B)
    → AllZip R ones others → R one other → AllZip R (ones ++ one ∷ []) (others ++ other ∷ [])
zip_more R [] [] one other all more = (more, tt)
zip_more R [] (y ∷ ys) one other all more = absurd all
zip_more R (x ∷ xs) [] one other all more = absurd all
zip_more R (x ∷ xs) (y ∷ ys) one other all more = (all.0, zip_more R xs ys one other all.1 more)

pub zip_next : {A B : Type 0} (R : A → B → Type 0) (all : List A) (at : ℕ) (d : A) (made : List B) (one : B)
    → at < length all → AllZip R (take at all) made → R (get_or all at d) one
    → AllZip R (take (at + 1) all) (made ++ one ∷ [])
zip_next R all at d made one there so_far more =
    subst (λ some. AllZip R some (made ++ one ∷ [])) (sym (take_more all at d there))
    (zip_more R (take at all) made (get_or all at d) one so_far more)

-- there are as many values as are asked for
pub zip_long : {A B : Type 0} (R : A → B → Type 0) (ones : List A) (others : List B) → AllZip R ones others
    → length others ≡ length ones
zip_long R [] [] all = refl
zip_long R [] (y ∷ ys) all = absurd all
zip_long R (x ∷ xs) [] all = absurd all
zip_long R (x ∷ xs) (y ∷ ys) all = ap suc (zip_long R xs ys all.1)

-- ---- rows that can't be hidden

is_late : (sheet : PlaceSheet) (filter : Filter) (row : ℕ) → can_hide sheet filter row ≡ true
    → first_line filter.area.rows < row
is_late sheet filter row is = grind (arith, nat_tests)

is_early : (sheet : PlaceSheet) (filter : Filter) (row : ℕ) → can_hide sheet filter row ≡ true
    → row < end_line filter.area.rows sheet.table.rows
is_early sheet filter row is = grind (arith, nat_tests)

outside : (sheet : PlaceSheet) (filter : Filter) (row : ℕ)
    → (¬ ((first_line filter.area.rows < row) × (row < end_line filter.area.rows sheet.table.rows)))
    → can_hide sheet filter row ≡ false
outside sheet filter row out = false_from_ne_true (can_hide sheet filter row) (λ is.
    out (is_late sheet filter row is, is_early sheet filter row is))

not_hidden : (book : PlaceBook) (sheet : PlaceSheet) (filter : Filter) (row : ℕ) (b : Bool)
    → can_hide sheet filter row ≡ b → b ≡ false → (hidden : Bool) → hidden ≡ false
    → IsHiddenIf b book sheet.id row filter.criteria hidden
not_hidden book sheet filter row true is none hidden shown = absurd (false≢true (sym none))
not_hidden book sheet filter row false is none hidden shown = shown

pub never_hidden : (book : PlaceBook) (sheet : PlaceSheet) (filter : Filter) (row : ℕ) (hidden : Bool)
    → (¬ ((first_line filter.area.rows < row) × (row < end_line filter.area.rows sheet.table.rows))) → hidden ≡ false
    → IsHidden book sheet (Some filter) row hidden
never_hidden book sheet filter row hidden out shown =
    not_hidden book sheet filter row (can_hide sheet filter row) refl (outside sheet filter row out) hidden shown

-- ---- rows that can

inside : (sheet : PlaceSheet) (filter : Filter) (row : ℕ) → first_line filter.area.rows < row
    → row < end_line filter.area.rows sheet.table.rows → can_hide sheet filter row ≡ true
inside sheet filter row late early = grind (arith, nat_tests)

asked_if : (book : PlaceBook) (sheet row : ℕ) (criteria : List Criterion) (b hidden : Bool) → b ≡ true
    → IsHiddenBy book sheet row criteria hidden → IsHiddenIf b book sheet row criteria hidden
asked_if book sheet row criteria true hidden is by = by
asked_if book sheet row criteria false hidden is by = absurd (false≢true is)

pub maybe_hidden : (book : PlaceBook) (sheet : PlaceSheet) (filter : Filter) (row : ℕ) (hidden : Bool)
    → first_line filter.area.rows < row → row < end_line filter.area.rows sheet.table.rows
    → IsHiddenBy book sheet.id row filter.criteria hidden → IsHidden book sheet (Some filter) row hidden
maybe_hidden book sheet filter row hidden late early by =
    asked_if book sheet.id row filter.criteria (can_hide sheet filter row) hidden (inside sheet filter row late early)
    by

-- ---- row by row

-- one more of which that is told which is told of those that aren't there
pub same_more : (rows : List DimensionProperties) (other : ℕ)
    → get_or (rows ++ row_told false ∷ []) other (row_told false) ≡ get_or rows other (row_told false)
same_more [] zero = refl
same_more [] (suc other) = refl
same_more (first ∷ rows) zero = refl
same_more (first ∷ rows) (suc other) = same_more rows other

others_same : (rows : List DimensionProperties) (last : DimensionProperties) (other : ℕ) → length rows ≢ other
    → get_or (rows ++ last ∷ []) other (row_told false) ≡ get_or rows other (row_told false)
others_same [] last zero apart = absurd (apart refl)
others_same [] last (suc other) apart = refl
others_same (first ∷ rows) last zero apart = refl
others_same (first ∷ rows) last (suc other) apart = others_same rows last other (λ same. apart (omega (arith, same)))

-- one more that is hidden
pub hidden_more : (rows : List DimensionProperties) (row other : ℕ) → length rows ≡ row
    → get_or (rows ++ row_told true ∷ []) other (row_told false)
    ≡ cond (other == row) (row_told true) (get_or rows other (row_told false))
hidden_more rows row other long = by_place (other == row) refl
  where
    by_place : (b : Bool) → (other == row) ≡ b → get_or (rows ++ row_told true ∷ []) other (row_told false)
        ≡ cond b (row_told true) (get_or rows other (row_told false))
    by_place true is = get_or_push rows (row_told true) (row_told false) other (long ∙ sym (eqb-true other row is))
    by_place false is = others_same rows (row_told true) other
        (λ same. false≢true (sym is ∙ eq-eqb other row (sym same ∙ long)))

-- nothing is told of a row behind the last
pub behind_last : (rows : List DimensionProperties) (row : ℕ) → length rows ≤ row → is_told_hidden rows row ≡ false
behind_last [] row past = refl
behind_last (first ∷ rows) zero past = absurd (let no : ⊥ = omega (arith, past) in no)
behind_last (first ∷ rows) (suc row) past = behind_last rows row (omega (arith, past))

-- the lines of a band that a sheet has
first_there : (band : Band) (count : ℕ) → Within band count → 0 < count → first_line band < count
first_there Whole count within some = some
first_there (From start) count within some = within
first_there (Span start end) count within some = omega (arith, within.0, within.1)

end_there : (band : Band) (count : ℕ) → Within band count → end_line band count ≤ count
end_there Whole count within = omega arith
end_there (From start) count within = omega arith
end_there (Span start end) count within = within.1

-- so far that is told of the rows before this one, and of none behind the range
abbrev pub AreRowsToldWithin : PlaceBook → PlaceSheet → Filter → ℕ → List DimensionProperties → Type 0
AreRowsToldWithin book sheet filter row rows =
    AreRowsToldBefore book sheet filter row rows × (length rows ≤ end_line filter.area.rows sheet.table.rows)

module _ (book : PlaceBook) (sheet : PlaceSheet) (filter : Filter) where
  -- rows up to the first one of the filter's range
  pub told_first : AreRowsToldBefore book sheet filter (first_line filter.area.rows + 1) []
  told_first = record {
    few = omega arith;
    each = λ other there. never_hidden book sheet filter other false
        (λ both. let no : ⊥ = omega (arith, there, both.0) in no) refl;
    last_hidden = λ some. absurd (let no : ⊥ = omega (arith, some) in no);
  }

  module _ (row : ℕ) (rows : List DimensionProperties) (before : AreRowsToldBefore book sheet filter row rows)
      (late : first_line filter.area.rows < row) (early : row < end_line filter.area.rows sheet.table.rows) where
    -- one that isn't hidden
    pub told_shown : IsHiddenBy book sheet.id row filter.criteria false
        → AreRowsToldBefore book sheet filter (row + 1) rows
    told_shown by = record {
      few = let few = before.few in omega (arith, few);
      each = λ other there. by_place (other == row) other refl there;
      last_hidden = before.last_hidden;
    }
      where
        by_place : (b : Bool) (other : ℕ) → (other == row) ≡ b → other < row + 1
            → IsHidden book sheet (Some filter) other (is_told_hidden rows other)
        by_place true other is there =
            subst (λ n. IsHidden book sheet (Some filter) n (is_told_hidden rows n)) (sym (eqb-true other row is))
            (subst (IsHidden book sheet (Some filter) row) (sym (behind_last rows row before.few))
            (maybe_hidden book sheet filter row false late early by))
        by_place false other is there =
            before.each other (let apart : other ≢ row = λ same. false≢true (sym is ∙ eq-eqb other row same) in
            omega (arith, apart, there))

    -- and one that is
    module _ (after : List DimensionProperties)
        (told : (other : ℕ) → get_or after other (row_told false)
        ≡ cond (other == row) (row_told true) (get_or rows other (row_told false)))
        (long : length after ≡ row + 1) where
      told_now : (other : ℕ) → is_told_hidden after other ≡ cond (other == row) true (is_told_hidden rows other)
      told_now other = ap (λ (one : DimensionProperties). one.hidden_by_filter) (told other) ∙ either (other == row)
        where
          either : (b : Bool) → (cond b (row_told true) (get_or rows other (row_told false))).hidden_by_filter
              ≡ cond b true (is_told_hidden rows other)
          either true = refl
          either false = refl

      pub told_hidden : IsHiddenBy book sheet.id row filter.criteria true
          → AreRowsToldBefore book sheet filter (row + 1) after
      told_hidden by = record {
        few = omega (arith, long);
        each = λ other there. by_place (other == row) other refl there;
        last_hidden = λ some.
            subst (λ n. is_told_hidden after n ≡ true) (sym last)
            (told_now row ∙ ap (λ b. cond b true (is_told_hidden rows row)) (eq-eqb row row refl));
      }
        where
          last : length after - 1 ≡ row
          last = omega (arith, long)

          by_place : (b : Bool) (other : ℕ) → (other == row) ≡ b → other < row + 1
              → IsHidden book sheet (Some filter) other (is_told_hidden after other)
          by_place true other is there =
              subst (IsHidden book sheet (Some filter) other)
              (sym (told_now other ∙ ap (λ b. cond b true (is_told_hidden rows other)) is))
              (subst (λ n. IsHidden book sheet (Some filter) n true) (sym (eqb-true other row is))
              (maybe_hidden book sheet filter row true late early by))
          by_place false other is there =
              subst (IsHidden book sheet (Some filter) other)
              (sym (told_now other ∙ ap (λ b. cond b true (is_told_hidden rows other)) is))
              (before.each other (let apart : other ≢ row = λ same. false≢true (sym is ∙ eq-eqb other row same) in
              omega (arith, apart, there)))

  -- once the range was gone through, that is told of all rows
  pub told_all : (row : ℕ) (rows : List DimensionProperties) → IsFilterOf sheet filter
      → AreRowsToldBefore book sheet filter row rows → end_line filter.area.rows sheet.table.rows ≤ row
      → length rows ≤ end_line filter.area.rows sheet.table.rows → AreRowsTold book sheet (Some filter) rows
  told_all row rows of before past short = record {
    few = let ends = end_there filter.area.rows sheet.table.rows of.within.0 in omega (arith, ends, short);
    each = λ other there. by_place (nat_lt other row) other refl;
    last_hidden = before.last_hidden;
  }
    where
      by_place : (b : Bool) (other : ℕ) → nat_lt other row ≡ b
          → IsHidden book sheet (Some filter) other (is_told_hidden rows other)
      by_place true other is = before.each other (grind (arith, nat_tests))
      by_place false other is =
          let far : row ≤ other = grind (arith, nat_tests) in
          let few = before.few in
          never_hidden book sheet filter other (is_told_hidden rows other)
          (λ both. let no : ⊥ = omega (arith, far, past, both.1) in no)
          (behind_last rows other (omega (arith, far, few)))

-- nothing is told of the rows of a sheet without a filter
pub none_told : (book : PlaceBook) (sheet : PlaceSheet) → AreRowsTold book sheet None []
none_told book sheet = record {
  few = omega arith;
  each = λ row there. refl;
  last_hidden = λ some. absurd (let no : ⊥ = omega (arith, some) in no);
}

-- the rows of the range are few, and so are the columns of the criteria
pub first_few : (sheets : List PlaceSheet) (sheet : PlaceSheet) (filter : Filter) → IsSheetSound sheets sheet
    → IsFilterOf sheet filter → first_line filter.area.rows < MOST_ROWS
first_few sheets sheet filter sound of =
    let there = first_there filter.area.rows sheet.table.rows of.within.0 sound.rows.0 in
    omega (arith, there, sound.rows.1)

pub end_few : (sheets : List PlaceSheet) (sheet : PlaceSheet) (filter : Filter) → IsSheetSound sheets sheet
    → IsFilterOf sheet filter → end_line filter.area.rows sheet.table.rows ≤ MOST_ROWS
end_few sheets sheet filter sound of =
    let there = end_there filter.area.rows sheet.table.rows of.within.0 in
    omega (arith, there, sound.rows.1)

pub few_columns : (sheets : List PlaceSheet) (sheet : PlaceSheet) (filter : Filter) → IsSheetSound sheets sheet
    → IsFilterOf sheet filter → All (λ criterion. criterion.column < 4294967295) filter.criteria
few_columns sheets sheet filter sound of k d there =
    let one = of.columns k d there in
    let few = sound.cols.1 in
    omega (arith, one, few)

-- ---- that is told in one way

module _ (law : CellsHaveOneValue) (book : PlaceBook) (sound : IsSound book) where
  values_once : (sheet row : ℕ) (criteria : List Criterion) (one other : List Value)
      → AllZip (IsAskedValue book sheet row) criteria one → AllZip (IsAskedValue book sheet row) criteria other
      → one ≡ other
  values_once sheet row [] [] [] is is' = refl
  values_once sheet row [] [] (v ∷ vs) is is' = absurd is'
  values_once sheet row [] (v ∷ vs) other is is' = absurd is
  values_once sheet row (c ∷ cs) [] other is is' = absurd is
  values_once sheet row (c ∷ cs) (v ∷ vs) [] is is' = absurd is'
  values_once sheet row (c ∷ cs) (v ∷ vs) (w ∷ ws) is is' =
      ap (λ value. value ∷ vs)
      (law.once book (record { sheet = sheet; row = row; column = c.column }) v w sound is.0 is'.0)
      ∙ ap (λ rest. w ∷ rest) (values_once sheet row cs vs ws is.1 is'.1)

  hidden_if_once : (b : Bool) (sheet row : ℕ) (criteria : List Criterion) (one other : Bool)
      → IsHiddenIf b book sheet row criteria one → IsHiddenIf b book sheet row criteria other → one ≡ other
  hidden_if_once true sheet row criteria one other is is' =
      is.hidden_is
      ∙ ap (hides criteria) (values_once sheet row criteria is.values is'.values is.asked is'.asked) ∙ sym is'.hidden_is
  hidden_if_once false sheet row criteria one other is is' = is ∙ sym is'

  hidden_once : (sheet : PlaceSheet) (filter : Option Filter) (row : ℕ) (one other : Bool)
      → IsHidden book sheet filter row one → IsHidden book sheet filter row other → one ≡ other
  hidden_once sheet None row one other is is' = is ∙ sym is'
  hidden_once sheet (Some filter) row one other is is' =
      hidden_if_once (can_hide sheet filter row) sheet.id row filter.criteria one other is is'

  -- rows of which the same is told
  row_of_same : (one other : DimensionProperties) → one.hidden_by_filter ≡ other.hidden_by_filter → one ≡ other
  row_of_same one other same = ap row_told same

  rows_alike : (one other : List DimensionProperties) → length one ≡ length other
      → ((row : ℕ) → row < length one → is_told_hidden one row ≡ is_told_hidden other row) → one ≡ other
  rows_alike [] [] long same = refl
  rows_alike [] (o ∷ os) long same = absurd (let no : ⊥ = omega (arith, long) in no)
  rows_alike (r ∷ rs) [] long same = absurd (let no : ⊥ = omega (arith, long) in no)
  rows_alike (r ∷ rs) (o ∷ os) long same =
      ap (λ row. row ∷ rs) (row_of_same r o (same 0 (omega arith)))
      ∙ ap (λ rows. o ∷ rows)
      (rows_alike rs os (omega (arith, long)) (λ row there. same (suc row) (omega (arith, there))))

  module _ (sheet : PlaceSheet) (filter : Option Filter) where
    same_told : (one other : List DimensionProperties) → AreRowsTold book sheet filter one
        → AreRowsTold book sheet filter other → (row : ℕ) → row < sheet.table.rows
        → is_told_hidden one row ≡ is_told_hidden other row
    same_told one other is is' row there =
        hidden_once sheet filter row (is_told_hidden one row) (is_told_hidden other row) (is.each row there)
        (is'.each row there)

    -- none is longer: of its last row that would be told, and not be told
    not_longer : (one other : List DimensionProperties) → AreRowsTold book sheet filter one
        → AreRowsTold book sheet filter other → ¬ (length one < length other)
    not_longer one other is is' longer =
        let few = is'.few in
        let last = length other - 1 in
        let hidden : is_told_hidden other last ≡ true = is'.last_hidden (omega (arith, longer)) in
        let shown : is_told_hidden one last ≡ false = behind_last one last (omega (arith, longer)) in
        false≢true (sym shown ∙ same_told one other is is' last (omega (arith, few, longer)) ∙ hidden)

    pub rows_once : (one other : List DimensionProperties) → AreRowsTold book sheet filter one
        → AreRowsTold book sheet filter other → one ≡ other
    rows_once one other is is' =
        let up = not_longer one other is is' in
        let down = not_longer other one is' is in
        rows_alike one other (omega (arith, up, down))
        (λ row there. let few = is.few in same_told one other is is' row (omega (arith, few, there)))
