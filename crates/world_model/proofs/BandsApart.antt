-- A band within an order is known by its lines.
use Rattle.std.proofs.Common.{◌≡◌, ℕ, ◌+◌, ◌-◌, ◌<◌, ◌≤◌, List, length, drop, get_or, refl, sym, ap, ◌∙◌, arith, length-drop}
use Rattle.std.specs.Prelude.{Option, None, Some, slice_range}
use Rattle.std.proofs.lemmas.List.{length-take-le, get_or-take, get_or-drop}
use Rattle.std.proofs.lemmas.Option.{none-some, same_Some, slice_get-get_or}
use Rattle.grid_range.specs.Band.{Within}
use Rattle.grid_range.specs.NameBand.{NameBand}
use Rattle.grid_range.specs.Order.{IsOrder}
use Rattle.grid_range.specs.declared.band.Band.{Band}
use Rattle.grid_range.specs.declared.band.Band.TheVariants.{Whole, From, Span}
use Rattle.world_model.specs.Area.{band_named}
use Rattle.world_model.proofs.Lines.{line_has_one_place}

-- the lines of a band of that form
abbrev open_lines : NameBand → Option (List ℕ)
open_lines (NameBand.Open names) = Some names
open_lines (NameBand.Closed names) = None
open_lines NameBand.Whole = None

abbrev closed_lines : NameBand → Option (List ℕ)
closed_lines (NameBand.Closed names) = Some names
closed_lines (NameBand.Open names) = None
closed_lines NameBand.Whole = None

same_from : (order : List ℕ) (start other : ℕ) → start < length order → other < length order
    → drop start order ≡ drop other order → start ≡ other
same_from order start other there there' same =
    omega (arith, sym (length-drop start order) ∙ ap length same ∙ length-drop other order)

pub length-range : (order : List ℕ) (start end : ℕ) → end ≤ length order
    → length (slice_range order start end) ≡ end - start
length-range order start end there =
    length-take-le (end - start) (drop start order) (omega (arith, length-drop start order))

first-range : (order : List ℕ) (start end : ℕ) → start < end → get_or (slice_range order start end) 0 0
    ≡ get_or order (start + 0) 0
first-range order start end some =
    get_or-take (end - start) (drop start order) 0 0 (omega arith) ∙ get_or-drop start order 0 0

module _ (order : List ℕ) (distinct : IsOrder order) where
  same_start : (start end start' end' : ℕ) → Within (Span start end) (length order)
      → Within (Span start' end') (length order)
      → slice_range order start end ≡ slice_range order start' end' → start ≡ start'
  same_start start end start' end' within within' same =
      let first : get_or order (start + 0) 0 ≡ get_or order (start' + 0) 0 =
      sym (first-range order start end within.0) ∙ ap (λ names. get_or names 0 0) same
      ∙ first-range order start' end' within'.0 in
      let one : start + 0 ≡ start' + 0 =
      line_has_one_place order (start + 0) (start' + 0) (get_or order (start' + 0) 0) distinct
      (slice_get-get_or order (start + 0) 0 (omega (arith, within.0, within.1)) ∙ ap Some first)
      (slice_get-get_or order (start' + 0) 0 (omega (arith, within'.0, within'.1))) in
      omega (arith, one)

  same_span : (start end start' end' : ℕ) → Within (Span start end) (length order)
      → Within (Span start' end') (length order)
      → slice_range order start end ≡ slice_range order start' end' → Span start end ≡ Span start' end'
  same_span start end start' end' within within' same =
      let first = same_start start end start' end' within within' same in
      let long : end - start ≡ end' - start' =
      sym (length-range order start end within.1) ∙ ap length same ∙ length-range order start' end' within'.1 in
      let last : end ≡ end' = omega (arith, first, long, within.0, within'.0) in
      ap (λ n. Span n end) first ∙ ap (Span start') last

  pub same_band : (one other : Band) → Within one (length order) → Within other (length order)
      → band_named order one ≡ band_named order other → one ≡ other
  same_band Whole Whole within within' same = refl
  same_band Whole (From start) within within' same = absurd (none-some (drop start order) (ap open_lines same))
  same_band Whole (Span start end) within within' same =
      absurd (none-some (slice_range order start end) (ap closed_lines same))
  same_band (From start) Whole within within' same = absurd (none-some (drop start order) (ap open_lines (sym same)))
  same_band (From start) (From other) within within' same =
      ap From (same_from order start other within within'
      (same_Some (drop start order) (drop other order) (ap open_lines same)))
  same_band (From start) (Span other end) within within' same =
      absurd (none-some (slice_range order other end) (ap closed_lines same))
  same_band (Span start end) Whole within within' same =
      absurd (none-some (slice_range order start end) (ap closed_lines (sym same)))
  same_band (Span start end) (From other) within within' same =
      absurd (none-some (drop other order) (ap open_lines same))
  same_band (Span start end) (Span start' end') within within' same =
      same_span start end start' end' within within'
      (same_Some (slice_range order start end) (slice_range order start' end') (ap closed_lines same))
