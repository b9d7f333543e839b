use Rattle.std.proofs.Common.{◌≡◌, ℕ, ◌+◌, ◌-◌, List, ◌∷◌, [], ◌++◌, sym, ap, ◌∙◌, cond, map, arith}
use Rattle.std.specs.Prelude.{filter}
use Rattle.std.specs.List.{range_with_len}
use Rattle.std.proofs.lemmas.List.FromFn.{filter_of_map_range_with_len_more}
use Rattle.grid_range.specs.Area.{band_on}
use Rattle.grid_range.specs.Band.{first_line}
use Rattle.grid_range.specs.declared.area.Area.{Area}
use Rattle.grid_range.specs.declared.axis.Axis.{Axis}
use Rattle.merge_ranges.specs.EndsLaws.{ends_on, rises}
use Rattle.merge_ranges.specs.Tests.{has_many_cells, line_of, lines_of, past_line}
use Rattle.merge_ranges.proofs.merges.lines_of.Goals as goal

abbrev areas_from : Axis → Area → ℕ → ℕ → List Area
areas_from axis area first count = filter has_many_cells (map (line_of axis area) (range_with_len first count))

all_lines : (axis : Axis) (area : Area) (first past at : ℕ) → first ≡ first_line (band_on axis area)
    → past ≡ past_line (band_on axis area) → at - first ≡ past - first
    → areas_from axis area first (at - first) ≡ lines_of axis area
all_lines axis area first past at is is' same =
    ap (areas_from axis area first) same ∙ ap (λ n. areas_from axis area n (past - n)) is
    ∙ ap (λ n. areas_from axis area (first_line (band_on axis area)) (n - first_line (band_on axis area))) is'

pub loop-line-preserved : goal.loop-line-preserved
loop-line-preserved c =
    let line = line_of c.args.axis c.args.area.now in
    let first = c.first_line-first.result in
    let at = c.loop-line.line in
    c.in_ok-push_line.ensures
    ∙ ap (λ areas. areas ++ cond (has_many_cells (line at)) (line at ∷ []) []) c.loop-line.invariant
    ∙ sym (filter_of_map_range_with_len_more has_many_cells line first (at - first) at (omega arith))
    ∙ ap (λ n. filter has_many_cells (map line (range_with_len first n)))
    (let more : (at - first) + 1 ≡ at + 1 - first = omega arith in more)

pub returns : goal.returns
returns c =
    let band = band_on c.args.axis c.args.area.now in
    let first : c.first_line-first.result ≡ first_line band =
    c.first_line-first.ensures ∙ ap first_line c.band_on-band.ensures in
    let past : c.past_line-past.result ≡ past_line band =
    c.past_line-past.ensures ∙ ap past_line c.band_on-band.ensures in
    let some = rises band (ends_on c.args.axis c.args.area.now c.requires) in
    let below = c.loop-line.auto.line-end (omega (arith, first, past, some)) in
    c.loop-line.invariant
    ∙ all_lines c.args.axis c.args.area.now c.first_line-first.result c.past_line-past.result
    c.loop-line.line first past
    (omega (arith, below, c.loop-line-test.false))
