-- Where a change brings a place: no two to one, and each to one that there is.
use Rattle.std.proofs.Common.{◌≡◌, ℕ, ◌<◌, sym, ap, subst, ◌∙◌}
use Rattle.std.specs.Prelude.{Option, Some, None, IfSome}
use Rattle.std.specs.Option.{option_map, unwrap_or, is_some}
use Rattle.std.proofs.lemmas.Bool.{false≢true}
use Rattle.grid_range.specs.declared.axis.Axis.{Axis}
use Rattle.grid_range.specs.declared.axis.Axis.TheVariants.{Rows, Columns}
use Rattle.grid_range.specs.declared.change.Change.{Change}
use Rattle.grid_range.specs.Change.{Fits, count_after}
use Rattle.grid_range.specs.Tracking.{place_of}
use Rattle.grid_range.specs.TrackingLaws.{PlacesStayApart, PlacesStayBelow}
use Rattle.cell_store.specs.Moved.{place_after, lines_on, size_after}

some_of : {A : Type 0} (a b : A) → Some a ≡ Some b → a ≡ b
some_of a b e = ap (λ o. unwrap_or o a) e

not_some : {A : Type 0} (b : A) → None ≡ Some b → ⊥
not_some b e = false≢true (ap is_some e)

-- what a place's line became, and that its other number stays
mapped_row : (o : Option ℕ) (col : ℕ) (q : ℕ × ℕ) → option_map (λ line. (line, col)) o ≡ Some q
    → (o ≡ Some q.0) × (col ≡ q.1)
mapped_row None col q e = absurd (not_some q e)
mapped_row (Some line) col q e = let same = some_of (line, col) q e in (ap (λ p. Some p.0) same, ap (λ p. p.1) same)

mapped_col : (o : Option ℕ) (row : ℕ) (q : ℕ × ℕ) → option_map (λ line. (row, line)) o ≡ Some q
    → (o ≡ Some q.1) × (row ≡ q.0)
mapped_col None row q e = absurd (not_some q e)
mapped_col (Some line) row q e = let same = some_of (row, line) q e in (ap (λ p. Some p.1) same, ap (λ p. p.0) same)

pub place_apart : PlacesStayApart → (axis : Axis) (change : Change) (rows cols : ℕ) (one other q : ℕ × ℕ)
    → Fits change (lines_on axis rows cols)
    → (one.0 < rows) × (one.1 < cols) → (other.0 < rows) × (other.1 < cols)
    → place_after axis change one.0 one.1 ≡ Some q → place_after axis change other.0 other.1 ≡ Some q → one ≡ other
place_apart apart Rows change rows cols one other q fits inside there a b =
    let x = mapped_row (place_of change one.0) one.1 q a in
    let y = mapped_row (place_of change other.0) other.1 q b in
    λ i. (apart change rows one.0 other.0 q.0 fits inside.0 there.0 x.0 y.0 i, (x.1 ∙ sym y.1) i)
place_apart apart Columns change rows cols one other q fits inside there a b =
    let x = mapped_col (place_of change one.1) one.0 q a in
    let y = mapped_col (place_of change other.1) other.0 q b in
    λ i. ((x.1 ∙ sym y.1) i, apart change cols one.1 other.1 q.1 fits inside.1 there.1 x.0 y.0 i)

below_of : PlacesStayBelow → (change : Change) (count line place : ℕ) → Fits change count → line < count
    → place_of change line ≡ Some place → place < count_after change count
below_of below change count line place fits there goes =
    subst (λ o. IfSome o (λ p. p < count_after change count)) goes (below change count line fits there)

pub place_within : PlacesStayBelow → (axis : Axis) (change : Change) (rows cols : ℕ) (place q : ℕ × ℕ)
    → Fits change (lines_on axis rows cols)
    → (place.0 < rows) × (place.1 < cols) → place_after axis change place.0 place.1 ≡ Some q
    → (q.0 < (size_after axis change rows cols).0) × (q.1 < (size_after axis change rows cols).1)
place_within below Rows change rows cols place q fits there a =
    let x = mapped_row (place_of change place.0) place.1 q a in
    (below_of below change rows place.0 q.0 fits there.0 x.0, subst (λ n. n < cols) x.1 there.1)
place_within below Columns change rows cols place q fits there a =
    let x = mapped_col (place_of change place.1) place.0 q a in
    (subst (λ n. n < rows) x.1 there.0, below_of below change cols place.1 q.1 fits there.1 x.0)
