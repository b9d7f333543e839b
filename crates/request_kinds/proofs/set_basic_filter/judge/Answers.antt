use Rattle.std.proofs.Common.{◌≡◌, sym, ap, subst, ◌∙◌}
use Rattle.std.specs.Prelude.{IfOk, IsSomeAnd}
use Rattle.std.specs.Option.{option_copied}
use Rattle.grid_range.specs.declared.area.Area.{Area}
use Rattle.world_model.specs.Sound.{IsFilterOf}
use Rattle.dimension_ops.specs.Broken.{judged_by}
use Rattle.request_kinds.specs.Rows.{cut_on}
use Rattle.request_kinds.specs.SetBasicFilter.{broken_by_filter}
use Rattle.values_api.specs.FoundLaws.{sheet_has_id}
use Rattle.request_kinds.proofs.FilterPut.{no_sheet_told, with_criteria}
use Rattle.request_kinds.proofs.set_basic_filter.judge.Goals as goal

pub judge_on-requires : goal.judge_on-requires
judge_on-requires c =
    sym (sheet_has_id c.args.asked.now.area.sheet c.args.book.now.sheets c.in-Some.sheet.now
    (sym c.sheet.ensures ∙ ap option_copied c.in-Some.is))

pub returns-in-Some-clause-judged : goal.returns-in-Some-clause-judged
returns-in-Some-clause-judged c =
    let asked = c.args.asked.now in
    subst (λ found. c.judge_on.result ≡ judged_by (broken_by_filter found asked) (cut_on found asked.area))
    (sym (ap option_copied c.in-Some.is) ∙ c.sheet.ensures) c.judge_on.ensures.judged

pub returns-in-Some-clause-of : goal.returns-in-Some-clause-of
returns-in-Some-clause-of c =
    let asked = c.args.asked.now in
    subst (λ found. IfOk c.judge_on.result
    (λ (area : Area). IsSomeAnd found (λ sheet. IsFilterOf sheet (with_criteria area asked.criteria))))
    (sym (ap option_copied c.in-Some.is) ∙ c.sheet.ensures) c.judge_on.ensures.of

pub returns-in-None-clause-judged : goal.returns-in-None-clause-judged
returns-in-None-clause-judged c =
    no_sheet_told _ c.args.asked.now (sym (ap option_copied c.in-None.is) ∙ c.sheet.ensures)
