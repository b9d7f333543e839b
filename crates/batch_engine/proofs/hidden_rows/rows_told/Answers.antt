use Rattle.std.proofs.Common.{sym, ap, subst, ◌∙◌}
use Rattle.std.specs.Prelude.{IfOk, IfSome, None}
use Rattle.std.specs.Option.{option_copied}
use Rattle.world_model.specs.Sound.{IsFilterOf}
use Rattle.batch_engine.specs.HiddenRows.{AreRowsTold}
use Rattle.batch_engine.proofs.HiddenRows.{none_told}
use Rattle.batch_engine.proofs.hidden_rows.rows_told.Goals as goal

pub rows_filtered-requires-clause-of : goal.rows_filtered-requires-clause-of
rows_filtered-requires-clause-of c =
    let sheet = c.args.sheet.now in
    subst (λ filter. IfSome filter (IsFilterOf sheet)) (sym c.filter.ensures ∙ ap option_copied c.in-Some.is)
    c.requires.sound.filter

pub returns-in-Some-clause-rows : goal.returns-in-Some-clause-rows
returns-in-Some-clause-rows c =
    subst (λ filter. IfOk c.rows_filtered.result (AreRowsTold c.args.book.now c.args.sheet.now filter))
    (sym (ap option_copied c.in-Some.is) ∙ c.filter.ensures) c.rows_filtered.ensures.rows

pub returns-in-None-clause-rows : goal.returns-in-None-clause-rows
returns-in-None-clause-rows c =
    let book = c.args.book.now in
    let sheet = c.args.sheet.now in
    subst (λ filter. AreRowsTold book sheet filter c.of.result)
    (sym (ap option_copied c.in-None.is) ∙ c.filter.ensures)
    (subst (AreRowsTold book sheet None) (sym (c.of.ensures ∙ c.new.ensures.items)) (none_told book sheet))
