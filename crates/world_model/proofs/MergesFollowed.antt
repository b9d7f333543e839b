-- What merges become by the names of their lines is what they become by places.
use Rattle.std.proofs.Common.{◌≡◌, ℕ, ◌-◌, ◌<◌, inl, inr, arith, refl, sym, ap, subst, ◌∙◌, Bool, true, cond, List, length, drop}
use Rattle.std.specs.Prelude.{Contains, None, Option, Some, map, option_and_then, slice_range, ◌||◌, ◌↔◌}
use Rattle.std.specs.List.{All, filter_map}
use Rattle.std.specs.Option.{option_map}
use Rattle.std.proofs.lemmas.Bool.{false≢true, lt-ltb, ltb-true, or_cases, or_left, or_right}
use Rattle.std.proofs.lemmas.List.{length-take}
use Rattle.std.proofs.lemmas.List.Elements.{All-contains}
use Rattle.std.proofs.lemmas.Option.{cond_some, none-some}
use Rattle.cell_value.specs.Elements.{Contains-filter_map, Contains-filter_map_from, Contains-map, Contains-map_from}
use Rattle.grid_range.specs.Band.{Within}
use Rattle.grid_range.specs.Tracking.{area_followed}
use Rattle.grid_range.specs.declared.area.Area.{Area}
use Rattle.grid_range.specs.declared.axis.Axis.TheVariants.{Rows, Columns}
use Rattle.grid_range.specs.declared.band.Band.{Band}
use Rattle.grid_range.specs.declared.band.Band.TheVariants.{Whole, From, Span}
use Rattle.grid_range.specs.declared.change.Change.{Change}
use Rattle.merge_ranges.specs.Merges.{HasManyCells, HasManyLines}
use Rattle.world_model.specs.Area.{NameArea, Orders, area_named, band_named}
use Rattle.world_model.specs.LineChange.{LineChange, has_many_names, name_area_followed, name_merge_followed}
use Rattle.world_model.proofs.BandsApart.{length-range}

-- ---- more than one cell, by places and by names

many_lines : (order : List ℕ) (band : Band) → has_many_names (band_named order band) ≡ true → HasManyLines band
many_lines order Whole many = absurd (false≢true many)
many_lines order (From start) many = absurd (false≢true many)
many_lines order (Span start end) many =
    let some : 1 < length (slice_range order start end) = ltb-true 1 (length (slice_range order start end)) many in
    let long = length-take (end - start) (drop start order) in
    omega (arith, some, long)

many_named : (order : List ℕ) (band : Band) → Within band (length order) → HasManyLines band
    → has_many_names (band_named order band) ≡ true
many_named order Whole within many = absurd many
many_named order (From start) within many = absurd many
many_named order (Span start end) within many =
    lt-ltb 1 (length (slice_range order start end)) (omega (arith, length-range order start end within.1, many))

-- an area of names has more than one cell
abbrev has_many : NameArea → Bool
has_many area = has_many_names area.rows || has_many_names area.cols

many_cells : (orders : Orders) (area : Area) → has_many (area_named orders area) ≡ true → HasManyCells area
many_cells orders area many =
    elim (or_cases (has_many_names (band_named (orders area.sheet Rows) area.rows))
    (has_many_names (band_named (orders area.sheet Columns) area.cols)) many) [
      | inl rows ↦ inl (many_lines (orders area.sheet Rows) area.rows rows)
      | inr cols ↦ inr (many_lines (orders area.sheet Columns) area.cols cols)
    ]

-- both bands of the area are within the lines of its sheet
abbrev pub IsInLines : Orders → Area → Type 0
IsInLines orders area = Within area.rows (length (orders area.sheet Rows))
    × Within area.cols (length (orders area.sheet Columns))

cells_named : (orders : Orders) (area : Area) → IsInLines orders area → HasManyCells area
    → has_many (area_named orders area) ≡ true
cells_named orders area within many =
    let rows : Bool = has_many_names (band_named (orders area.sheet Rows) area.rows) in
    let cols : Bool = has_many_names (band_named (orders area.sheet Columns) area.cols) in
    elim many [
      | inl lines ↦ or_left rows cols (many_named (orders area.sheet Rows) area.rows within.0 lines)
      | inr lines ↦ or_right rows cols (many_named (orders area.sheet Columns) area.cols within.1 lines)
    ]

-- ---- merges

-- one of the merges follows the change to the area, which has more than one cell
abbrev pub IsFollowed : LineChange → ℕ → Change → List Area → Area → Type 0
IsFollowed to count change merges area = (merge : Area) × Contains merges merge
    × (area_followed to.sheet to.axis count change merge ≡ Some area) × HasManyCells area

-- an area of one cell goes
abbrev kept : Option NameArea → Option NameArea
kept found = option_and_then (λ one. cond (has_many one) (Some one) None) found

module _ (to : LineChange) (count : ℕ) (change : Change) (before after : Orders) where
  -- what is left of an area that follows
  left_of : (found : Option Area) (area : NameArea) → kept (option_map (area_named after) found) ≡ Some area
      → (one : Area) × (found ≡ Some one) × (area_named after one ≡ area) × HasManyCells one
  left_of None area is = absurd (none-some area is)
  left_of (Some one) area is =
      let both = cond_some (has_many (area_named after one)) (area_named after one) area is in
      (one, refl, both.1, many_cells after one both.0)

  pub merges_follow : (merges left : List Area) (names : List NameArea)
      → All (λ merge. name_area_followed to (area_named before merge)
      ≡ option_map (area_named after) (area_followed to.sheet to.axis count change merge)) merges
      → All (IsInLines after) left
      → ((area : Area) → Contains left area ↔ IsFollowed to count change merges area)
      → ((area : NameArea) → Contains names area ↔ Contains (map (area_named before) merges) area)
      → (area : NameArea) → Contains (filter_map (name_merge_followed to) names) area
      ↔ Contains (map (area_named after) left) area
  merges_follow merges left names follow within made stands area = (there, back)
    where
      follows : (merge : Area) → Contains merges merge
          → name_merge_followed to (area_named before merge)
          ≡ kept (option_map (area_named after) (area_followed to.sheet to.axis count change merge))
      follows merge listed =
          ap kept (All-contains (λ one. name_area_followed to (area_named before one)
          ≡ option_map (area_named after) (area_followed to.sheet to.axis count change one)) merges merge follow listed)

      there : Contains (filter_map (name_merge_followed to) names) area → Contains (map (area_named after) left) area
      there has =
          let (name, listed, is) = Contains-filter_map_from (name_merge_followed to) names area has in
          let (merge, placed, same) = Contains-map_from (area_named before) merges name ((stands name).0 listed) in
          let (one, found, called, many) = left_of (area_followed to.sheet to.axis count change merge) area
          (sym (follows merge placed) ∙ ap (name_merge_followed to) same ∙ is) in
          subst (Contains (map (area_named after) left)) called
          (Contains-map (area_named after) left one ((made one).1 (merge, placed, found, many)))

      back : Contains (map (area_named after) left) area → Contains (filter_map (name_merge_followed to) names) area
      back has =
          let (one, listed, called) = Contains-map_from (area_named after) left area has in
          let (merge, placed, found, many) = (made one).0 listed in
          let still = cells_named after one (All-contains (IsInLines after) left one within listed) many in
          Contains-filter_map (name_merge_followed to) names (area_named before merge) area
          ((stands (area_named before merge)).1 (Contains-map (area_named before) merges merge placed))
          (follows merge placed ∙ ap (λ held. kept (option_map (area_named after) held)) found
          ∙ ap (λ b. cond b (Some (area_named after one)) None) still ∙ ap Some called)
