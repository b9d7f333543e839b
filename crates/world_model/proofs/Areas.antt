-- The area that lines followed to is the one at the places that they followed to.
use Rattle.std.proofs.Common.{◌≡◌, ℕ, List, refl, sym, ap, ◌∙◌, cond, Bool, true, false}
use Rattle.std.specs.Prelude.{Option, None, Some, ◌==◌}
use Rattle.std.specs.Option.{option_map}
use Rattle.grid_range.specs.Area.{band_on, with_band}
use Rattle.grid_range.specs.Following.{follow}
use Rattle.grid_range.specs.Tracking.{track_of, area_followed}
use Rattle.grid_range.specs.declared.area.Area.{Area}
use Rattle.grid_range.specs.declared.axis.Axis.{Axis}
use Rattle.grid_range.specs.declared.axis.Axis.TheVariants.{Rows, Columns}
use Rattle.grid_range.specs.declared.band.Band.{Band}
use Rattle.grid_range.specs.declared.change.Change.{Change}
use Rattle.world_model.specs.Area.{NameArea, Orders, band_named, area_named, name_band_on, with_name_band}
use Rattle.world_model.specs.LineChange.{LineChange, name_area_followed}

abbrev pub other_axis : Axis → Axis
other_axis Rows = Columns
other_axis Columns = Rows

-- an area of those rows and columns of a sheet
abbrev area_at : ℕ → List ℕ → Band → List ℕ → Band → NameArea
area_at sheet rows row_band cols col_band = record {
  sheet = sheet;
  rows = band_named rows row_band;
  cols = band_named cols col_band;
}

same_area : (sheet : ℕ) (rows rows' cols cols' : List ℕ) (row_band col_band : Band) → rows' ≡ rows → cols' ≡ cols
    → area_at sheet rows row_band cols col_band ≡ area_at sheet rows' row_band cols' col_band
same_area sheet rows rows' cols cols' row_band col_band same_rows same_cols =
    ap (λ order. area_at sheet order row_band cols col_band) (sym same_rows)
    ∙ ap (λ order. area_at sheet rows' row_band order col_band) (sym same_cols)

named_on : (axis : Axis) (orders : Orders) (area : Area)
    → name_band_on axis (area_named orders area) ≡ band_named (orders area.sheet axis) (band_on axis area)
named_on Rows orders area = refl
named_on Columns orders area = refl

-- an area whose lines on the axis followed names those of the new order
with_named : (axis : Axis) (before after : Orders) (area : Area) (order : List ℕ) (band : Band)
    → after area.sheet axis ≡ order → after area.sheet (other_axis axis) ≡ before area.sheet (other_axis axis)
    → with_name_band axis (area_named before area) (band_named order band) ≡ area_named after (with_band axis area band)
with_named Rows before after area order band own across =
    same_area area.sheet order (after area.sheet Rows) (before area.sheet Columns) (after area.sheet Columns)
    band area.cols
    own across
with_named Columns before after area order band own across =
    same_area area.sheet (before area.sheet Rows) (after area.sheet Rows) order (after area.sheet Columns)
    area.rows band
    across own

each_with_named : (axis : Axis) (before after : Orders) (area : Area) (order : List ℕ) (band : Option Band)
    → after area.sheet axis ≡ order → after area.sheet (other_axis axis) ≡ before area.sheet (other_axis axis)
    → option_map (with_name_band axis (area_named before area)) (option_map (band_named order) band)
    ≡ option_map (area_named after) (option_map (with_band axis area) band)
each_with_named axis before after area order None own across = refl
each_with_named axis before after area order (Some band) own across =
    ap Some (with_named axis before after area order band own across)

-- what is needed of the area if it is one of the sheet
pub record FollowsOn (axis : Axis) (count : ℕ) (change : Change) (order changed : List ℕ) (before after : Orders)
    (area : Area) : Type 0 where
  pub own : after area.sheet axis ≡ order
  pub across : after area.sheet (other_axis axis) ≡ before area.sheet (other_axis axis)
  pub band : follow order changed (band_named (before area.sheet axis) (band_on axis area))
      ≡ option_map (band_named order) (track_of (band_on axis area) count change)

on_sheet : (axis : Axis) (count : ℕ) (change : Change) (order changed : List ℕ) (before after : Orders) (area : Area)
    → FollowsOn axis count change order changed before after area
    → option_map (with_name_band axis (area_named before area))
    (follow order changed (name_band_on axis (area_named before area)))
    ≡ option_map (area_named after) (option_map (with_band axis area) (track_of (band_on axis area) count change))
on_sheet axis count change order changed before after area follows =
    ap (λ band. option_map (with_name_band axis (area_named before area)) (follow order changed band))
    (named_on axis before area)
    ∙ ap (λ band. option_map (with_name_band axis (area_named before area)) band) follows.band
    ∙ each_with_named axis before after area order (track_of (band_on axis area) count change) follows.own
    follows.across

one_or_other : {A : Type 0} (b : Bool) (one other one' other' : A) → (b ≡ true → one ≡ one')
    → (b ≡ false → other ≡ other') → cond b one other ≡ cond b one' other'
one_or_other true one other one' other' same same' = same refl
one_or_other false one other one' other' same same' = same' refl

pub area_follows : (to : LineChange) (count : ℕ) (change : Change) (before after : Orders) (area : Area)
    → ((area.sheet == to.sheet) ≡ true → FollowsOn to.axis count change to.order to.changed before after area)
    → ((area.sheet == to.sheet) ≡ false → (on : Axis) → after area.sheet on ≡ before area.sheet on)
    → name_area_followed to (area_named before area)
    ≡ option_map (area_named after) (area_followed to.sheet to.axis count change area)
area_follows to count change before after area here elsewhere =
    one_or_other (area.sheet == to.sheet)
    (option_map (with_name_band to.axis (area_named before area))
    (follow to.order to.changed (name_band_on to.axis (area_named before area))))
    (Some (area_named before area))
    (option_map (area_named after) (option_map (with_band to.axis area) (track_of (band_on to.axis area) count change)))
    (Some (area_named after area))
    (λ is. on_sheet to.axis count change to.order to.changed before after area (here is))
    (λ is. ap Some (same_area area.sheet (before area.sheet Rows) (after area.sheet Rows) (before area.sheet Columns)
    (after area.sheet Columns) area.rows area.cols (elsewhere is Rows) (elsewhere is Columns)))
    ∙ sym (mapped (area.sheet == to.sheet)
    (option_map (with_band to.axis area) (track_of (band_on to.axis area) count change)) (Some area))
  where
    mapped : (b : Bool) (one other : Option Area) → option_map (area_named after) (cond b one other)
        ≡ cond b (option_map (area_named after) one) (option_map (area_named after) other)
    mapped true one other = refl
    mapped false one other = refl
