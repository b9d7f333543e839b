use Rattle.std.proofs.Common.{sym, ◌∙◌}
use Rattle.std.proofs.lemmas.Bool.{false≢true}
use Rattle.a1_notation.proofs.Areas.{past_is_no_area, kept_is_area}
use Rattle.a1_notation.proofs.area.read_area.Goals as goal

pub returns-in_default-clause-none : goal.returns-in_default-clause-none
returns-in_default-clause-none c = λ rows columns. c.in_default.ensures.none 3 rows columns

pub returns-then-is_past_zzz-clause-none : goal.returns-then-is_past_zzz-clause-none
returns-then-is_past_zzz-clause-none c =
    past_is_no_area c.args.text.now c.in-Some.rows c.in-Some.columns c.in-Some.ensures.area
    (c.is_past_zzz.ensures.0 c.if-is_past_zzz.true)

pub returns-clause-area : goal.returns-clause-area
returns-clause-area c =
    kept_is_area c.args.text.now c.in-Some.rows c.in-Some.columns c.in-Some.ensures.area
    (λ past. false≢true (sym c.if-is_past_zzz.false ∙ c.is_past_zzz.ensures.1 past))
