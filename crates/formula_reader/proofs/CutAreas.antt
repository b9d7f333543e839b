-- An area that was cut at its grid is whole there, and has the form that it had.
use Rattle.std.proofs.Common.{◌≡◌, ℕ, ◌<◌, min, true, Option, Some, None, ltb-true, refl, arith, inl, inr}
use Rattle.std.specs.Prelude.{IfSome, nat_lt}
use Rattle.std.proofs.lemmas.Bool.{cases_Bool, and_parts}
use Rattle.grid_range.specs.declared.area.Area.{Area}
use Rattle.grid_range.specs.declared.band.Band.{Band}
use Rattle.grid_range.specs.declared.band.Band.TheVariants.{Whole, From, Span}
use Rattle.grid_range.specs.Band.{first_line, cut_band}
use Rattle.grid_range.specs.Area.{cut_area}
use Rattle.a1_notation.specs.declared.column.TheConstants.{NAMED_COLUMNS}
use Rattle.a1_notation.specs.declared.row.TheConstants.{NUMBERED_ROWS}
use Rattle.a1_notation.specs.Canonical.{IsStretch}
use Rattle.formula_reader.specs.ReferenceText.{HasForm}
use Rattle.formula_reader.specs.Pieces.{is_inside, clipped}

-- a band that was cut
band_again : (band : Band) (count : ℕ) → cut_band (cut_band band count) count ≡ cut_band band count
band_again Whole count = refl
band_again (From start) count = refl
band_again (Span start end) count =
    let same : min (min end count) count ≡ min end count = omega arith in
    rw same refl

first_stays : (band : Band) (count : ℕ) → first_line (cut_band band count) ≡ first_line band
first_stays Whole count = refl
first_stays (From start) count = refl
first_stays (Span start end) count = refl

stretch_cut : (start end most count : ℕ) → IsStretch (start, end) most → start < count
    → IsStretch (start, min end count) most
stretch_cut start end most count fits there = (omega (arith, fits.0), omega (arith, fits.1))

form_cut : (rows cols : Band) (row_count col_count : ℕ) → HasForm rows cols → first_line rows < row_count
    → first_line cols < col_count
    → HasForm (cut_band rows row_count) (cut_band cols col_count)
form_cut (Span start end) (Span start' end') row_count col_count form row_there col_there = (
  stretch_cut start end NUMBERED_ROWS row_count form.0 row_there,
  stretch_cut start' end' NAMED_COLUMNS col_count form.1 col_there,
)
form_cut Whole (Span start end) row_count col_count form row_there col_there =
    (tt, stretch_cut start end NAMED_COLUMNS col_count form.1 col_there)
form_cut (Span start end) Whole row_count col_count form row_there col_there =
    stretch_cut start end NUMBERED_ROWS row_count form row_there
form_cut (From row) (Span start end) row_count col_count form row_there col_there =
    (form.0, stretch_cut start end NAMED_COLUMNS col_count form.1 col_there)
form_cut rows cols row_count col_count form row_there col_there = absurd form

-- what an area of a sheet is cut to
pub record IsCutTo (area : Area) (size : Option (ℕ × ℕ)) (cut : Area) : Type 0 where
  pub sheet : cut.sheet ≡ area.sheet
  pub form : HasForm cut.rows cut.cols
  pub again : clipped cut size ≡ Some cut

cut_inside : (area : Area) (size : ℕ × ℕ) → HasForm area.rows area.cols → is_inside area size.0 size.1 ≡ true
    → IsCutTo area (Some size) (cut_area area size.0 size.1)
cut_inside area size form inside =
    let parts = and_parts (nat_lt (first_line area.rows) size.0) (nat_lt (first_line area.cols) size.1) inside in
    record {
      sheet = refl;
      form = form_cut area.rows area.cols size.0 size.1 form (ltb-true _ _ parts.0) (ltb-true _ _ parts.1);
      again =
          rw (
            first_stays area.rows size.0,
            first_stays area.cols size.1,
            inside,
            band_again area.rows size.0,
            band_again area.cols size.1,
          ) refl;
    }

pub area_cut : (area : Area) (size : Option (ℕ × ℕ)) → HasForm area.rows area.cols
    → IfSome (clipped area size) (IsCutTo area size)
area_cut area None form = tt
area_cut area (Some size) form =
    elim (cases_Bool (is_inside area size.0 size.1)) [
      | inl inside ↦ rw inside (cut_inside area size form inside)
      | inr outside ↦ rw outside tt
    ]
