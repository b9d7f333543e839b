use Rattle.std.proofs.Common.{◌≤◌, sym, ap, subst, Ok, Err}
use Rattle.std.specs.Option.{option_map_or}
use Rattle.world_model.specs.Sound.{most_places, place_sheet_with}
use Rattle.dimension_ops.specs.SizeLaws.{has_places, has_sizes}
use Rattle.dimension_ops.proofs.Changed.{by_its_lines}
use Rattle.dimension_ops.proofs.lines.change_sheet.Goals as goal

pub returns : goal.returns
returns c =
    let before = c.args.book.now in
    let after = c.change_lines.new.self in
    let is = c.in_ok-count.ensures.unbroken in
    let changed = c.in_ok-change_lines.ensures in
    record {
      judged = ap (λ rule. option_map_or Err rule (Ok tt)) (sym is.unbroken);
      changed = c.line_changes_are_changes.ensures.changes before after c.args.sheet c.args.axis c.in_ok-count.count
          c.args.change.now is.fits is.room is.long changed
          (subst (λ n. n ≤ most_places) (sym (has_places c.args.sheet c.args.axis c.in_ok-count.count c.args.change.now
          before.sheets after.sheets changed.sheets)) is.few);
      places = by_its_lines c.args.sheet c.args.axis c.in_ok-count.count c.args.change.now before after
          (place_sheet_with c.args.sheet before.sheets) is.long changed;
      sizes = has_sizes c.args.sheet c.args.axis c.in_ok-count.count c.args.change.now before after changed;
      unchanged = tt;
    }
