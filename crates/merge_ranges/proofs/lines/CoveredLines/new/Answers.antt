use Rattle.std.proofs.Common.{arith, ap, subst, sym, ◌∙◌, List}
use Rattle.std.specs.Prelude.{None, filter}
use Rattle.std.proofs.lemmas.List.Elements.{All-filter}
use Rattle.std.proofs.lemmas.List.Sorted.{All-permutation}
use Rattle.grid_range.specs.declared.area.Area.{Area}
use Rattle.merge_ranges.specs.Merges.{HasEnds, IsMerge}
use Rattle.merge_ranges.specs.Tests.{has_cell_of, line_count}
use Rattle.merge_ranges.proofs.Covering.{ends_across, none_current, same_cells}
use Rattle.merge_ranges.proofs.lines.CoveredLines.new.Goals as goal

pub line_count-places-requires : goal.line_count-places-requires
line_count-places-requires c =
    subst HasEnds (sym c.band_across.ensures) (ends_across c.args.axis c.args.area.now c.requires.ends)

pub invariant_of-result : goal.invariant_of-result
invariant_of-result c =
    let left : List Area = c.in_ok-by_first_line.field-0.items in (
      All-permutation IsMerge (filter (has_cell_of c.args.area.now) c.args.merges.now) left
          c.in_ok-by_first_line.ensures.same
          (All-filter (has_cell_of c.args.area.now) IsMerge c.args.merges.now c.requires.merges.each),
      c.in_ok-by_first_line.ensures.in_order,
      omega arith,
      none_current c.args.axis left None c.new.result.items c.new.ensures.items,
      c.in_ok-vec.ensures.len ∙ c.line_count-places.ensures ∙ ap line_count c.band_across.ensures,
      tt,
    )

pub returns-clause-covered : goal.returns-clause-covered
returns-clause-covered c =
    same_cells c.args.axis c.args.area.now c.args.merges.now c.in_ok-by_first_line.field-0.items
    c.requires.merges.each c.in_ok-by_first_line.ensures.same
