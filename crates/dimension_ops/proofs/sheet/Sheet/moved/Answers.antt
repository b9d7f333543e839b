use Rattle.std.proofs.Common.{◌≡◌, sym, ap, subst, ◌∙◌}
use Rattle.std.specs.Prelude.{IfSome}
use Rattle.cell_store.specs.Moved.{lines_on}
use Rattle.merge_ranges.specs.Following.{AreWithin}
use Rattle.world_model.specs.Sheet.{PlaceSheet}
use Rattle.dimension_ops.specs.Lines.{keeps_places}
use Rattle.dimension_ops.specs.References.{CanFollow, TearsNone}
use Rattle.dimension_ops.proofs.Marked.{moved_marked}
use Rattle.dimension_ops.proofs.Unmoved.{count_stays}
use Rattle.dimension_ops.proofs.sheet.Sheet.moved.Goals as goal

pub merges_followed-requires-clause-within : goal.merges_followed-requires-clause-within
merges_followed-requires-clause-within c =
    subst (λ (sheet : PlaceSheet). AreWithin c.args.by.now.axis c.args.by.now.count sheet.merges) (sym c.self.view_is)
    c.requires.ready.merges

pub merges_followed-requires-clause-untorn : goal.merges_followed-requires-clause-untorn
merges_followed-requires-clause-untorn c =
    subst (λ (sheet : PlaceSheet). TearsNone c.args.by.now.axis c.args.by.now.count c.args.by.now.change.now
    sheet.merges)
    (sym c.self.view_is) c.requires.ready.untorn

pub filter_followed-filter-requires-clause-ready : goal.filter_followed-filter-requires-clause-ready
filter_followed-filter-requires-clause-ready c =
    subst (λ (sheet : PlaceSheet). IfSome sheet.filter (CanFollow c.args.by.now.axis c.args.by.now.count))
    (sym c.self.view_is) c.requires.ready.filter

pub counted_again-requires : goal.counted_again-requires
counted_again-requires c =
    let lines : c.args.by.now.count
    ≡ lines_on c.args.by.now.axis c.self.inside.cells.table.rows c.self.inside.cells.table.cols =
    sym (ap (λ (sheet : PlaceSheet). lines_on c.args.by.now.axis sheet.table.rows sheet.table.cols) c.self.view_is
    ∙ c.requires.ready.long) in
    record {
      marked =
          moved_marked c.args.by.now.axis c.args.by.now.change.now c.self.inside.cells.table c.change.new.self.table
          c.self.inside.marks.table c.change-2.new.self.table c.in_ok-change.ensures.moved
          c.in_ok-change-2.ensures.moved
          c.self.invariant.1;
      stay = λ stay. count_stays c.args.by.now.axis c.args.by.now.change.now c.self.inside.cells.table
          c.change.new.self.table
          c.in_ok-change.ensures.moved c.items_inside.ensures
          (ap (keeps_places c.args.by.now.change.now) (sym lines) ∙ sym c.keeps_places-stay.ensures ∙ stay)
          c.tables_by_items.ensures ∙ sym c.self.invariant.0;
    }

pub invariant_of-result : goal.invariant_of-result
invariant_of-result c = (
  c.in_ok-formulas.ensures,
  moved_marked c.args.by.now.axis c.args.by.now.change.now c.self.inside.cells.table c.change.new.self.table
      c.self.inside.marks.table c.change-2.new.self.table c.in_ok-change.ensures.moved c.in_ok-change-2.ensures.moved
      c.self.invariant.1,
)
