-- An area that A1 notation has follows its lines to one that it has.
use Rattle.std.proofs.Common.{ℕ}
use Rattle.std.specs.Prelude.{Option, None, Some, IfSome}
use Rattle.std.specs.Option.{option_map}
use Rattle.grid_range.specs.Area.{band_on, with_band}
use Rattle.grid_range.specs.Tracking.{track_of, span_after}
use Rattle.grid_range.specs.declared.area.Area.{Area}
use Rattle.grid_range.specs.declared.axis.Axis.{Axis}
use Rattle.grid_range.specs.declared.axis.Axis.TheVariants.{Rows, Columns}
use Rattle.grid_range.specs.declared.band.Band.{Band}
use Rattle.grid_range.specs.declared.band.Band.TheVariants.{Whole, From, Span}
use Rattle.grid_range.specs.declared.change.Change.{Change}
use Rattle.world_model.specs.Sound.{HasNotation}

-- it holds of the bands of that form
abbrev OfForm : Band → (Band → Type 0) → Type 0
OfForm Whole P = P Whole
OfForm (From start) P = (n : ℕ) → P (From n)
OfForm (Span start end) P = (n m : ℕ) → P (Span n m)

each_mapped : (band : ℕ × ℕ → Band) (P : Band → Type 0) → ((span : ℕ × ℕ) → P (band span))
    → (found : Option (ℕ × ℕ)) → IfSome (option_map band found) P
each_mapped band P holds None = tt
each_mapped band P holds (Some span) = holds span

-- a band is followed to one of its form
keeps_form : (band : Band) (count : ℕ) (change : Change) (P : Band → Type 0) → OfForm band P
    → IfSome (track_of band count change) P
keeps_form Whole count change P holds = holds
keeps_form (From start) count change P holds =
    each_mapped (λ span. From span.0) P (λ span. holds span.0) (span_after change start count)
keeps_form (Span start end) count change P holds =
    each_mapped (λ span. Span span.0 span.1) P (λ span. holds span.0 span.1) (span_after change start end)

-- only the forms of the bands matter for notation
rows_of_form : (rows cols : Band) → HasNotation rows cols → OfForm rows (λ band. HasNotation band cols)
rows_of_form Whole cols has = has
rows_of_form (From start) Whole has = absurd has
rows_of_form (From start) (From other) has = absurd has
rows_of_form (From start) (Span other end) has = λ n. tt
rows_of_form (Span start end) Whole has = λ n m. tt
rows_of_form (Span start end) (From other) has = absurd has
rows_of_form (Span start end) (Span other past) has = λ n m. tt

cols_of_form : (rows cols : Band) → HasNotation rows cols → OfForm cols (λ band. HasNotation rows band)
cols_of_form rows Whole has = has
cols_of_form Whole (From start) has = absurd has
cols_of_form (From other) (From start) has = absurd has
cols_of_form (Span other end) (From start) has = absurd has
cols_of_form rows (Span start end) has = λ n m. tt

pub notation_kept : (axis : Axis) (area : Area) (count : ℕ) (change : Change) → HasNotation area.rows area.cols
    → IfSome (track_of (band_on axis area) count change)
    (λ band. HasNotation (with_band axis area band).rows (with_band axis area band).cols)
notation_kept Rows area count change has =
    keeps_form area.rows count change (λ band. HasNotation band area.cols) (rows_of_form area.rows area.cols has)
notation_kept Columns area count change has =
    keeps_form area.cols count change (λ band. HasNotation area.rows band) (cols_of_form area.rows area.cols has)
