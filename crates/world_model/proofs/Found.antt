-- A sheet that is found by its id, among those that a program keeps and among those that these stand for.
use Rattle.std.proofs.Common.{◌≡◌, ◌≢◌, ℕ, ◌<◌, zero, suc, refl, sym, ap, subst, ◌∙◌, List, [], ◌∷◌, cond, Bool, true, false, length, get_or, arith}
use Rattle.std.specs.Prelude.{Option, None, Some, IfSome, IsSomeAnd, ◌==◌}
use Rattle.std.specs.List.{All, AllPairs, AllZip, find}
use Rattle.std.proofs.lemmas.Bool.{eqb-true, eq-eqb, false≢true, false_from_ne_true}
use Rattle.basic_filter.specs.declared.types.Filter.{Filter}
use Rattle.dev_metadata.specs.declared.types.Spot.TheVariants as spot
use Rattle.grid_range.specs.Area.{AreaWithin}
use Rattle.grid_range.specs.Order.{IsOrder}
use Rattle.grid_range.specs.declared.axis.Axis.{Axis}
use Rattle.grid_range.specs.declared.axis.Axis.TheVariants.{Rows, Columns}
use Rattle.cell_store.specs.Moved.{lines_on}
use Rattle.world_model.specs.Book.{sheet_with, orders_of}
use Rattle.world_model.specs.Sheet.{NameSheet, PlaceSheet, lines_of}
use Rattle.world_model.specs.Sound.{IsFilterOf, IsOnSheet, IsSheetSound, IsSpotWithin, place_sheet_with}
use Rattle.world_model.specs.StandsFor.{SheetStandsFor}
use Rattle.world_model.proofs.Lines.{lines_there}

-- the sheet is the one that is found by its id
abbrev pub IsOwn : List NameSheet → NameSheet → Type 0
IsOwn sheets sheet = sheet_with sheet.id sheets ≡ Some sheet

-- among things with numbers of which no two are one, each is found by its own
module _ {A : Type 0} (number : A → ℕ) where
  found_here : (b : Bool) (thing : A) (rest : Option A) → b ≡ true → cond b (Some thing) rest ≡ Some thing
  found_here true thing rest is = refl
  found_here false thing rest is = absurd (false≢true is)

  found_behind : (b : Bool) (first thing : A) (rest : Option A) → b ≡ false → rest ≡ Some thing
      → cond b (Some first) rest ≡ Some thing
  found_behind true first thing rest is found = absurd (false≢true (sym is))
  found_behind false first thing rest is found = found

  pub each_found : (things : List A) → AllPairs (λ one other. number one ≢ number other) things
      → All (λ thing. find (λ other. number other == number thing) things ≡ Some thing) things
  each_found [] distinct k d there = absurd (omega arith)
  each_found (t ∷ ts) distinct zero d there =
      found_here (number t == number t) t (find (λ other. number other == number t) ts)
      (eq-eqb (number t) (number t) refl)
  each_found (t ∷ ts) distinct (suc k) d there =
      let thing = get_or ts k d in
      found_behind (number t == number thing) t thing (find (λ other. number other == number thing) ts)
      (false_from_ne_true (number t == number thing) (λ is.
      distinct 0 (suc k) d (omega arith) there (eqb-true (number t) (number thing) is)))
      (each_found ts (λ i j e below inside. distinct (suc i) (suc j) e (omega arith) (omega arith)) k d (omega arith))

-- a merge of a sheet is on a sheet that is there
pub merges_on : (placed sheets : List PlaceSheet) → AllPairs (λ one other. one.id ≢ other.id) sheets
    → All (IsSheetSound placed) sheets → All (λ sheet. All (IsOnSheet sheets) sheet.merges) sheets
merges_on placed sheets distinct sound k d there i e below =
    let sheet = get_or sheets k d in
    let merge = get_or sheet.merges i e in
    let here = (sound k d there).merges.1 i e below in
    subst (λ found. IsSomeAnd found (λ one. AreaWithin merge one.table.rows one.table.cols))
    (sym (ap (λ n. place_sheet_with n sheets) here.0
    ∙ each_found (λ (one : PlaceSheet). one.id) sheets distinct k d there)) here.1

-- a filter is on a sheet that is there, and of its columns
pub record IsFilterOn (sheets : List PlaceSheet) (filter : Filter) : Type 0 where
  pub area : IsOnSheet sheets filter.area
  pub columns : All (λ criterion. IsSpotWithin sheets (spot.Line filter.area.sheet Columns criterion.column))
      filter.criteria

filter_on : (sheets : List PlaceSheet) (sheet : PlaceSheet) → place_sheet_with sheet.id sheets ≡ Some sheet
    → (found : Option Filter) → IfSome found (IsFilterOf sheet) → IfSome found (IsFilterOn sheets)
filter_on sheets sheet there None is = tt
filter_on sheets sheet there (Some filter) is =
    let found : place_sheet_with filter.area.sheet sheets ≡ Some sheet =
    ap (λ n. place_sheet_with n sheets) is.own ∙ there in
    record {
      area = subst (λ held. IsSomeAnd held (λ one. AreaWithin filter.area one.table.rows one.table.cols)) (sym found)
          is.within;
      columns = λ k d inside.
          subst (λ held. IsSomeAnd held (λ one. (get_or filter.criteria k d).column < one.table.cols)) (sym found)
          (is.columns k d inside);
    }

-- and so is each filter of the sheets
pub filters_on : (placed sheets : List PlaceSheet) → AllPairs (λ one other. one.id ≢ other.id) sheets
    → All (IsSheetSound placed) sheets → All (λ sheet. IfSome sheet.filter (IsFilterOn sheets)) sheets
filters_on placed sheets distinct sound k d there =
    let sheet = get_or sheets k d in
    filter_on sheets sheet (each_found (λ (one : PlaceSheet). one.id) sheets distinct k d there) sheet.filter
    (sound k d there).filter

-- where no two have one id, each is found
pub each_own : (sheets : List NameSheet) → AllPairs (λ one other. one.id ≢ other.id) sheets
    → All (IsOwn sheets) sheets
each_own sheets distinct = each_found (λ (sheet : NameSheet). sheet.id) sheets distinct

-- a sheet that is found by places, and the one that it stands for
pub record FoundByName (sheets : List NameSheet) (P : PlaceSheet → Type 0) (found : Option NameSheet) : Type 0 where
  pub sheet : PlaceSheet
  pub names : NameSheet
  pub is : found ≡ Some names
  pub stands : SheetStandsFor sheets sheet names
  pub holds : P sheet

module _ (sheets : List NameSheet) where
  abbrev StandFor : List PlaceSheet → List NameSheet → Type 0
  StandFor = AllZip (SheetStandsFor sheets)

  pub same_count : (some : List PlaceSheet) (names : List NameSheet) → StandFor some names → length some ≡ length names
  same_count [] [] all = refl
  same_count [] (n ∷ ns) all = absurd all
  same_count (s ∷ ss) [] all = absurd all
  same_count (s ∷ ss) (n ∷ ns) all = ap suc (same_count ss ns all.1)

  same_id : (some : List PlaceSheet) (names : List NameSheet) → StandFor some names → (k : ℕ) (d : PlaceSheet)
      (e : NameSheet) → k < length names → (get_or some k d).id ≡ (get_or names k e).id
  same_id [] [] all k d e there = absurd (omega arith)
  same_id [] (n ∷ ns) all k d e there = absurd all
  same_id (s ∷ ss) [] all k d e there = absurd all
  same_id (s ∷ ss) (n ∷ ns) all zero d e there = all.0.id
  same_id (s ∷ ss) (n ∷ ns) all (suc k) d e there = same_id ss ns all.1 k d e (omega arith)

  -- what sheets with distinct ids stand for has distinct ids
  names_distinct : (some : List PlaceSheet) (names : List NameSheet) → StandFor some names
      → AllPairs (λ one other. one.id ≢ other.id) some → AllPairs (λ one other. one.id ≢ other.id) names
  names_distinct [] [] all distinct i j e less there = absurd (omega arith)
  names_distinct [] (n ∷ ns) all distinct i j e less there = absurd all
  names_distinct (s ∷ ss) [] all distinct i j e less there = absurd all
  names_distinct (s ∷ ss) (n ∷ ns) all distinct i j e less there =
      let long = same_count (s ∷ ss) (n ∷ ns) all in
      λ same. distinct i j s less (omega (arith, long))
      (same_id (s ∷ ss) (n ∷ ns) all i s e (omega arith) ∙ same ∙ sym (same_id (s ∷ ss) (n ∷ ns) all j s e there))

  module _ (P : PlaceSheet → Type 0) where
    found_first : (b b' : Bool) (sheet : PlaceSheet) (names : NameSheet) (rest : Option PlaceSheet)
        (rest' : Option NameSheet) → b' ≡ b → SheetStandsFor sheets sheet names
        → (IsSomeAnd rest P → FoundByName sheets P rest')
        → IsSomeAnd (cond b (Some sheet) rest) P → FoundByName sheets P (cond b' (Some names) rest')
    found_first true true sheet names rest rest' same stands behind holds = record {
      sheet = sheet;
      names = names;
      is = refl;
      stands = stands;
      holds = holds;
    }
    found_first true false sheet names rest rest' same stands behind holds = absurd (false≢true same)
    found_first false true sheet names rest rest' same stands behind holds = absurd (false≢true (sym same))
    found_first false false sheet names rest rest' same stands behind holds = behind holds

    pub found_by_name : (id : ℕ) (some : List PlaceSheet) (names : List NameSheet) → StandFor some names
        → IsSomeAnd (place_sheet_with id some) P → FoundByName sheets P (sheet_with id names)
    found_by_name id [] [] all holds = absurd holds
    found_by_name id [] (n ∷ ns) all holds = absurd all
    found_by_name id (s ∷ ss) [] all holds = absurd all
    found_by_name id (s ∷ ss) (n ∷ ns) all holds =
        found_first (s.id == id) (n.id == id) s n (place_sheet_with id ss) (sheet_with id ns)
        (ap (λ m. m == id) (sym all.0.id)) all.0 (found_by_name id ss ns all.1) holds

  -- what holds of each that stands for the one that is found by names holds of the one that is found by places
  holds_first : (P : PlaceSheet → Type 0) (b b' : Bool) (sheet : PlaceSheet) (names : NameSheet)
      (rest : Option PlaceSheet) (rest' : Option NameSheet) → b' ≡ b → SheetStandsFor sheets sheet names
      → (((one : PlaceSheet) (other : NameSheet) → rest' ≡ Some other → SheetStandsFor sheets one other → P one)
      → IfSome rest P)
      → ((one : PlaceSheet) (other : NameSheet) → cond b' (Some names) rest' ≡ Some other
      → SheetStandsFor sheets one other → P one)
      → IfSome (cond b (Some sheet) rest) P
  holds_first P true true sheet names rest rest' same stands behind each = each sheet names refl stands
  holds_first P true false sheet names rest rest' same stands behind each = absurd (false≢true same)
  holds_first P false true sheet names rest rest' same stands behind each = absurd (false≢true (sym same))
  holds_first P false false sheet names rest rest' same stands behind each = behind each

  pub holds_if_found : (P : PlaceSheet → Type 0) (id : ℕ) (some : List PlaceSheet) (names : List NameSheet)
      → StandFor some names
      → ((one : PlaceSheet) (other : NameSheet) → sheet_with id names ≡ Some other → SheetStandsFor sheets one other
      → P one)
      → IfSome (place_sheet_with id some) P
  holds_if_found P id [] [] all each = tt
  holds_if_found P id [] (n ∷ ns) all each = absurd all
  holds_if_found P id (s ∷ ss) [] all each = absurd all
  holds_if_found P id (s ∷ ss) (n ∷ ns) all each =
      holds_first P (s.id == id) (n.id == id) s n (place_sheet_with id ss) (sheet_with id ns)
      (ap (λ m. m == id) (sym all.0.id)) all.0 (holds_if_found P id ss ns all.1) each

  -- a sheet that stands for another has as many lines
  pub as_long : (sheet : PlaceSheet) (names : NameSheet) (axis : Axis) → SheetStandsFor sheets sheet names
      → lines_on axis sheet.table.rows sheet.table.cols ≡ length (lines_of names axis)
  as_long sheet names Rows stands = stands.rows
  as_long sheet names Columns stands = stands.cols

  pub distinct_on : (sheet : PlaceSheet) (names : NameSheet) (axis : Axis) → SheetStandsFor sheets sheet names
      → IsOrder (lines_of names axis)
  distinct_on sheet names Rows stands = stands.distinct_rows
  distinct_on sheet names Columns stands = stands.distinct_cols

-- each that the sheets stand for is found by its id
pub own_sheets : (some : List PlaceSheet) (names : List NameSheet) → AllZip (SheetStandsFor names) some names
    → AllPairs (λ one other. one.id ≢ other.id) some → All (IsOwn names) names
own_sheets some names all distinct = each_own names (names_distinct names some names all distinct)

-- the lines of the sheet with the id are as many as the one that is found by places has
pub lines_if_found : (some : List PlaceSheet) (names : List NameSheet) (id : ℕ) (axis : Axis)
    → AllZip (SheetStandsFor names) some names
    → IfSome (place_sheet_with id some)
    (λ sheet. lines_on axis sheet.table.rows sheet.table.cols ≡ length (orders_of names id axis))
lines_if_found some names id axis all =
    holds_if_found names
    (λ sheet. lines_on axis sheet.table.rows sheet.table.cols ≡ length (orders_of names id axis)) id some names all
    (λ one other found stands.
    as_long names one other axis stands ∙ ap length (sym (lines_there names id axis other found)))
