use Rattle.std.proofs.Common.{◌++◌, ◌∷◌, ◌∙◌, [], ap, sym}
use Rattle.std.specs.Prelude.{slice_get}
use Rattle.std.specs.Option.{option_copied}
use Rattle.batch_engine.proofs.ProtectionsShown.{shown_among, shown_next}
use Rattle.batch_engine.proofs.looks.shown_protections.Goals as goal

pub loop-at-preserved : goal.loop-at-preserved
loop-at-preserved c =
    let user = c.args.user.now in
    let book = c.args.book.now in
    let sheet = c.args.sheet in
    let at = c.loop-at.at in
    c.in_ok-put_shown-in-Some.ensures
    ∙ ap (λ owner. c.loop-at.shown.items ++ shown_among user owner sheet (c.in-Some.one.now ∷ []))
    (c.as_str-owner.ensures ∙ c.owner.ensures)
    ∙ ap (λ shown. shown ++ shown_among user book.owner sheet (c.in-Some.one.now ∷ [])) c.loop-at.invariant
    ∙ shown_next user book.owner sheet book.protections at c.in-Some.one.now
    (ap (λ all. slice_get all at) (sym c.protections.ensures) ∙ sym c.list.ensures.protection
    ∙ ap option_copied c.in-Some.is)
