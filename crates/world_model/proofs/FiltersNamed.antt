-- Basic filters by the places of their lines and by their names.
use Rattle.std.proofs.Common.{◌≡◌, ℕ, refl, sym, ap, subst, ◌∙◌, List, [], ◌∷◌, get_or, Bool, true, false, cond, not}
use Rattle.std.specs.Prelude.{Contains, IfSome, MatchOption, None, Option, Some, map, option_and_then, ◌==◌, ◌&&◌}
use Rattle.std.specs.List.{All, AllZip, filter_map}
use Rattle.std.specs.Option.{option_map}
use Rattle.std.proofs.lemmas.Bool.{eq-eqb, false_from_ne_true}
use Rattle.std.proofs.lemmas.Option.{none-some, same_Some, slice_get-get_or}
use Rattle.basic_filter.specs.Following.{criteria_followed, criterion_followed, filter_followed}
use Rattle.basic_filter.specs.declared.types.Criterion.{Criterion}
use Rattle.basic_filter.specs.declared.types.Filter.{Filter}
use Rattle.dev_metadata.specs.Following.{is_changed}
use Rattle.dev_metadata.specs.Spot.{is_same_axis}
use Rattle.dev_metadata.specs.declared.types.Spot.TheVariants as spot
use Rattle.grid_range.specs.Area.{band_on, with_band}
use Rattle.grid_range.specs.Order.{is_among}
use Rattle.grid_range.specs.Tracking.{area_followed, place_of, track_of}
use Rattle.grid_range.specs.declared.area.Area.{Area}
use Rattle.grid_range.specs.declared.axis.Axis.{Axis}
use Rattle.grid_range.specs.declared.axis.Axis.TheVariants.{Rows, Columns}
use Rattle.grid_range.specs.declared.band.Band.{Band}
use Rattle.grid_range.specs.declared.change.Change.{Change}
use Rattle.world_model.specs.Area.{NameArea, Orders, area_named}
use Rattle.world_model.specs.Book.{orders_of}
use Rattle.world_model.specs.Filters.{NameCriterion, NameFilter, criterion_named, filter_named}
use Rattle.world_model.specs.LineChange.{LineChange, name_area_followed, name_criterion_followed, name_filter_followed}
use Rattle.world_model.specs.Sheet.{NameSheet, PlaceSheet}
use Rattle.world_model.specs.Sound.{IsOnSheet, IsSpotWithin}
use Rattle.world_model.specs.StandsFor.{SheetStandsFor}
use Rattle.world_model.proofs.ContentsApart.{in_orders, map_apart, same_area}
use Rattle.world_model.proofs.Found.{IsFilterOn}
use Rattle.world_model.proofs.Lines.{line_has_one_place}
use Rattle.world_model.proofs.MetadataNamed.{LinesFollow, has_place}
use Rattle.world_model.proofs.MovedCells.{among_if_listed, listed_if_among}
use Rattle.world_model.proofs.RangesNamed.{filter_map-named}

-- ---- by places

abbrev made : List Criterion → Area → Filter
made criteria area = record { area = area; criteria = criteria }

-- what a criterion of the sheet becomes: it goes with its column where this sheet's columns change, and else it stays
abbrev criterion_moved : ℕ → Axis → Change → ℕ → Criterion → Option Criterion
criterion_moved id axis change sheet criterion =
    cond (is_changed id axis sheet Columns) (criterion_followed change criterion) (Some criterion)

-- and a filter, of that sheet or of another one
abbrev pub filter_moved : ℕ → Axis → ℕ → Change → Filter → Option Filter
filter_moved id axis count change filter =
    option_map (made (filter_map (criterion_moved id axis change filter.area.sheet) filter.criteria))
    (area_followed id axis count change filter.area)

all_stay : {A : Type 0} (xs : List A) → filter_map (λ x. Some x) xs ≡ xs
all_stay [] = refl
all_stay (x ∷ xs) = ap (λ rest. x ∷ rest) (all_stay xs)

module _ (id : ℕ) (axis : Axis) (count : ℕ) (change : Change) where
  -- the criteria of the sheet or of another one
  abbrev criteria_if : Bool → List Criterion → List Criterion
  criteria_if b criteria =
      filter_map
      (λ criterion. cond (b && is_same_axis Columns axis) (criterion_followed change criterion) (Some criterion))
      criteria

  on_axis : (its : Axis) (criteria : List Criterion)
      → filter_map (λ criterion. cond (is_same_axis Columns its) (criterion_followed change criterion) (Some criterion))
      criteria
      ≡ criteria_followed its change criteria
  on_axis Rows criteria = all_stay criteria
  on_axis Columns criteria = refl

  filter_here : (filter : Filter) → filter.area.sheet ≡ id
      → filter_moved id axis count change filter ≡ filter_followed axis count change filter
  filter_here filter own =
      ap (λ criteria. option_map (made criteria) (area_followed id axis count change filter.area))
      (ap (λ b. criteria_if b filter.criteria) (eq-eqb filter.area.sheet id own) ∙ on_axis axis filter.criteria)
      ∙ ap (λ n. option_map (made (criteria_followed axis change filter.criteria))
      (area_followed n axis count change filter.area)) (sym own)

  filter_elsewhere : (filter : Filter) → (filter.area.sheet == id) ≡ false
      → filter_moved id axis count change filter ≡ Some filter
  filter_elsewhere filter other =
      ap (λ criteria. option_map (made criteria) (area_followed id axis count change filter.area))
      (ap (λ b. criteria_if b filter.criteria) other ∙ all_stay filter.criteria)
      ∙ ap (λ b. option_map (made filter.criteria) (cond b
      (option_map (with_band axis filter.area) (track_of (band_on axis filter.area) count change)) (Some filter.area)))
      other

  -- the filter of the sheet that is changed follows
  pub moved_here : (found : Option Filter) → IfSome found (λ filter. filter.area.sheet ≡ id)
      → option_and_then (filter_moved id axis count change) found
      ≡ option_and_then (filter_followed axis count change) found
  moved_here None own = refl
  moved_here (Some filter) own = filter_here filter own

  -- and another one stays
  pub moved_elsewhere : (found : Option Filter) → IfSome found (λ filter. (filter.area.sheet == id) ≡ false)
      → option_and_then (filter_moved id axis count change) found ≡ found
  moved_elsewhere None other = refl
  moved_elsewhere (Some filter) other = filter_elsewhere filter other

-- ---- by names

abbrev name_made : List NameCriterion → NameArea → NameFilter
name_made criteria area = record { area = area; criteria = criteria }

-- the criterion of that column
abbrev of_column : Criterion → ℕ → NameCriterion
of_column criterion line = record { column = line; hidden = criterion.hidden; condition = criterion.condition }

-- an area that follows stays on its sheet
with_band_sheet : (axis : Axis) (area : Area) (band : Band) → (with_band axis area band).sheet ≡ area.sheet
with_band_sheet Rows area band = refl
with_band_sheet Columns area band = refl

sheet_kept : (b : Bool) (axis : Axis) (area : Area) (band : Option Band)
    → IfSome (cond b (option_map (with_band axis area) band) (Some area)) (λ found. found.sheet ≡ area.sheet)
sheet_kept true axis area None = tt
sheet_kept true axis area (Some band) = with_band_sheet axis area band
sheet_kept false axis area band = refl

module _ (to : LineChange) (count : ℕ) (change : Change) (before after : Orders) (sheets : List PlaceSheet)
    (follow : LinesFollow to change before after sheets) where
  -- a criterion follows with its column
  column_goes : (sheet : ℕ) (criterion : Criterion) (line : ℕ) (found : Option ℕ)
      → MatchOption found (¬ (Contains to.order line))
      (λ place. Contains to.order line × (get_or (after sheet Columns) place 0 ≡ line))
      → cond (not (is_among to.order line)) None (Some (of_column criterion line))
      ≡ option_map (criterion_named (after sheet Columns))
      (option_map (λ column. record criterion { column = column }) found)
  column_goes sheet criterion line None gone =
      ap (λ b. cond (not b) None (Some (of_column criterion line)))
      (false_from_ne_true (is_among to.order line) (λ among. gone (listed_if_among to.order line among)))
  column_goes sheet criterion line (Some place) (there, same) =
      ap (λ b. cond (not b) None (Some (of_column criterion line))) (among_if_listed to.order line there)
      ∙ ap (λ n. Some (of_column criterion n)) (sym same)

  criterion_follows : (sheet : ℕ) (criterion : Criterion) (b : Bool) → is_changed to.sheet to.axis sheet Columns ≡ b
      → IsSpotWithin sheets (spot.Line sheet Columns criterion.column)
      → cond (b && not (is_among to.order (get_or (before sheet Columns) criterion.column 0))) None
      (Some (criterion_named (before sheet Columns) criterion))
      ≡ option_map (criterion_named (after sheet Columns))
      (cond b (criterion_followed change criterion) (Some criterion))
  criterion_follows sheet criterion true is within =
      column_goes sheet criterion (get_or (before sheet Columns) criterion.column 0) (place_of change criterion.column)
      (follow.here sheet Columns criterion.column within is)
  criterion_follows sheet criterion false is within =
      ap (λ cols. Some (criterion_named cols criterion)) (sym (follow.elsewhere sheet Columns is))

  criteria_follow : (sheet : ℕ) (criteria : List Criterion)
      → All (λ criterion. IsSpotWithin sheets (spot.Line sheet Columns criterion.column)) criteria
      → filter_map (name_criterion_followed to sheet) (map (criterion_named (before sheet Columns)) criteria)
      ≡ map (criterion_named (after sheet Columns))
      (filter_map (criterion_moved to.sheet to.axis change sheet) criteria)
  criteria_follow sheet criteria within =
      filter_map-named (name_criterion_followed to sheet) (criterion_moved to.sheet to.axis change sheet)
      (criterion_named (before sheet Columns)) (criterion_named (after sheet Columns)) criteria
      (λ k d there. criterion_follows sheet (get_or criteria k d) (is_changed to.sheet to.axis sheet Columns) refl
      (within k d there))

  abbrev Follows : Area → Type 0
  Follows area = name_area_followed to (area_named before area)
      ≡ option_map (area_named after) (area_followed to.sheet to.axis count change area)

  -- a filter follows with its area and its criteria
  module _ (filter : Filter) (on : IsFilterOn sheets filter) where
    abbrev names_left : List NameCriterion
    names_left = filter_map (name_criterion_followed to filter.area.sheet)
        (map (criterion_named (before filter.area.sheet Columns)) filter.criteria)

    abbrev left : List Criterion
    left = filter_map (criterion_moved to.sheet to.axis change filter.area.sheet) filter.criteria

    with_area : (found : Option Area) → IfSome found (λ area. area.sheet ≡ filter.area.sheet)
        → option_map (name_made names_left) (option_map (area_named after) found)
        ≡ option_map (filter_named after) (option_map (made left) found)
    with_area None same = refl
    with_area (Some area) same =
        ap (λ criteria. Some (name_made criteria (area_named after area)))
        (criteria_follow filter.area.sheet filter.criteria on.columns
        ∙ ap (λ n. map (criterion_named (after n Columns)) left) (sym same))

    filter_follows : Follows filter.area → name_filter_followed to (filter_named before filter)
        ≡ option_map (filter_named after) (filter_moved to.sheet to.axis count change filter)
    filter_follows area =
        ap (option_map (name_made names_left)) area
        ∙ with_area (area_followed to.sheet to.axis count change filter.area)
        (sheet_kept (filter.area.sheet == to.sheet) to.axis filter.area
        (track_of (band_on to.axis filter.area) count change))

  pub filters_follow : ((area : Area) → IsOnSheet sheets area → Follows area) → (found : Option Filter)
      → IfSome found (IsFilterOn sheets)
      → option_and_then (name_filter_followed to) (option_map (filter_named before) found)
      ≡ option_map (filter_named after) (option_and_then (filter_moved to.sheet to.axis count change) found)
  filters_follow areas None on = refl
  filters_follow areas (Some filter) on = filter_follows filter on (areas filter.area on.area)

-- ---- filters on sheets are known by their names

criterion_of_same : (one other : Criterion) → one.column ≡ other.column → one.hidden ≡ other.hidden
    → one.condition ≡ other.condition → one ≡ other
criterion_of_same one other column hidden condition =
    ap (λ n. record one { column = n }) column
    ∙ ap (λ texts. record one { column = other.column; hidden = texts }) hidden
    ∙ ap (λ asked. record other { condition = asked }) condition

filter_of_same : (one other : Filter) → one.area ≡ other.area → one.criteria ≡ other.criteria → one ≡ other
filter_of_same one other area criteria =
    ap (made one.criteria) area ∙ ap (λ all. made all other.area) criteria

module _ (sheets : List NameSheet) (ones others : List PlaceSheet) (stand : AllZip (SheetStandsFor sheets) ones sheets)
    (stand' : AllZip (SheetStandsFor sheets) others sheets) where
  abbrev orders : Orders
  orders = orders_of sheets

  one_criterion : (sheet : ℕ) (one other : Criterion) → IsSpotWithin ones (spot.Line sheet Columns one.column)
      → IsSpotWithin others (spot.Line sheet Columns other.column)
      → criterion_named (orders sheet Columns) one ≡ criterion_named (orders sheet Columns) other → one ≡ other
  one_criterion sheet one other within within' same =
      let cols = orders sheet Columns in
      let has = has_place sheets ones stand sheet Columns one.column within in
      let has' = has_place sheets others stand' sheet Columns other.column within' in
      criterion_of_same one other
      (line_has_one_place cols one.column other.column (get_or cols other.column 0) has.distinct
      (slice_get-get_or cols one.column 0 has.there ∙ ap Some (ap (λ (named : NameCriterion). named.column) same))
      (slice_get-get_or cols other.column 0 has'.there))
      (ap (λ (named : NameCriterion). named.hidden) same)
      (ap (λ (named : NameCriterion). named.condition) same)

  one_filter : (one other : Filter) → IsFilterOn ones one → IsFilterOn others other
      → filter_named orders one ≡ filter_named orders other → one ≡ other
  one_filter one other on on' same =
      let area : one.area ≡ other.area = same_area orders one.area other.area
      (in_orders sheets ones one.area stand on.area) (in_orders sheets others other.area stand' on'.area)
      (ap (λ (named : NameFilter). named.area) same) in
      let sheet : other.area.sheet ≡ one.area.sheet = ap (λ (found : Area). found.sheet) (sym area) in
      filter_of_same one other area
      (map_apart (criterion_named (orders one.area.sheet Columns))
      (λ criterion. IsSpotWithin ones (spot.Line one.area.sheet Columns criterion.column))
      (λ criterion. IsSpotWithin others (spot.Line one.area.sheet Columns criterion.column))
      (one_criterion one.area.sheet) one.criteria other.criteria on.columns
      (subst
      (λ n. All (λ (criterion : Criterion). IsSpotWithin others (spot.Line n Columns criterion.column)) other.criteria)
      sheet on'.columns)
      (ap (λ (named : NameFilter). named.criteria) same
      ∙ ap (λ n. map (criterion_named (orders n Columns)) other.criteria) sheet))

  pub filters_apart : (one other : Option Filter) → IfSome one (IsFilterOn ones) → IfSome other (IsFilterOn others)
      → option_map (filter_named orders) one ≡ option_map (filter_named orders) other → one ≡ other
  filters_apart None None on on' same = refl
  filters_apart None (Some other) on on' same = absurd (none-some (filter_named orders other) same)
  filters_apart (Some one) None on on' same = absurd (none-some (filter_named orders one) (sym same))
  filters_apart (Some one) (Some other) on on' same =
      ap Some (one_filter one other on on' (same_Some (filter_named orders one) (filter_named orders other) same))
