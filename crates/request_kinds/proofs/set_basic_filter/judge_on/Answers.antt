use Rattle.std.proofs.Common.{sym, ap, subst, ◌∙◌}
use Rattle.grid_range.specs.Area.{AreaWithin}
use Rattle.grid_range.specs.declared.area.Area.{Area}
use Rattle.request_kinds.specs.FilterLaws.{none_past}
use Rattle.request_kinds.proofs.set_basic_filter.judge_on.Goals as goal

pub returns-in-Some-clause-of : goal.returns-in-Some-clause-of
returns-in-Some-clause-of c = record {
  own = ap (λ (area : Area). area.sheet) c.in-Some.ensures.cut ∙ c.requires;
  within = subst (λ rows. AreaWithin c.in-Some.clipped rows c.args.sheet.now.table.cols) c.rows.ensures
      (subst (AreaWithin c.in-Some.clipped c.rows.result) c.cols.ensures c.in-Some.ensures.within);
  columns = none_past c.args.asked.now c.args.sheet.now (sym c.asks_past.ensures ∙ c.if-asks_past.false);
}
