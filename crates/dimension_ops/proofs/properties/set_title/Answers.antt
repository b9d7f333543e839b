use Rattle.std.proofs.Common.{◌≡◌, refl, sym, ap, ◌∙◌, subst, [], ◌∷◌}
use Rattle.std.specs.Prelude.{Some}
use Rattle.world_model.specs.Book.{PlaceBook}
use Rattle.world_model.specs.BookChange.{AreChanges, BookChange}
use Rattle.world_model.specs.SheetChange.{place_titled}
use Rattle.dimension_ops.specs.NewSheetLaws.{has_bytes}
use Rattle.dimension_ops.specs.PropertyLaws.{others_free, size_kept}
use Rattle.dimension_ops.specs.SetProperties.{IsTitleFor, KeepsSize, title_set}
use Rattle.dimension_ops.proofs.Setting.{on_ok}
use Rattle.dimension_ops.proofs.properties.set_title.Goals as goal

pub retitle-requires-clause-sound : goal.retitle-requires-clause-sound
retitle-requires-clause-sound c =
    let title = c.in_ok-duplicate-in-Some.field-0 in
    let given : c.args.given.now ≡ Some title = c.in-Some.is ∙ ap Some (sym c.in_ok-duplicate-in-Some.ensures) in
    let is = subst (λ given. IsTitleFor c.args.sheet given c.args.book.now.sheets) given c.requires in
    c.sheets_titled.ensures.stays c.args.book.now c.args.sheet title c.stays_sound.ensures (has_bytes title is.good)
    (others_free c.args.sheet title c.args.book.now.sheets is.free)

pub returns-in_ok-duplicate-in-Some-clause-set : goal.returns-in_ok-duplicate-in-Some-clause-set
returns-in_ok-duplicate-in-Some-clause-set c =
    let title = c.in_ok-duplicate-in-Some.field-0 in
    let given : c.args.given.now ≡ Some title = c.in-Some.is ∙ ap Some (sym c.in_ok-duplicate-in-Some.ensures) in
    let is = subst (λ given. IsTitleFor c.args.sheet given c.args.book.now.sheets) given c.requires in
    let sound = c.sheets_titled.ensures.stays c.args.book.now c.args.sheet title c.stays_sound.ensures
    (has_bytes title is.good) (others_free c.args.sheet title c.args.book.now.sheets is.free) in
    on_ok c.retitle.result _ _
    (λ after. subst (λ given. AreChanges (title_set c.args.sheet given) c.args.book.now c.retitle.new.self) (sym given)
    (subst (AreChanges (BookChange.SheetTitled c.args.sheet title ∷ []) c.args.book.now) (sym after)
    (c.sheets_titled.ensures.changes c.args.book.now c.args.sheet title sound)))
    c.retitle.ensures.titled

pub returns-in_ok-duplicate-in-Some-clause-kept : goal.returns-in_ok-duplicate-in-Some-clause-kept
returns-in_ok-duplicate-in-Some-clause-kept c =
    on_ok c.retitle.result _ _
    (λ after. subst (λ (book : PlaceBook). KeepsSize c.args.sheet c.args.book.now.sheets book.sheets) (sym after)
    (size_kept c.args.sheet (place_titled c.in_ok-duplicate-in-Some.field-0) (λ sheet. refl) (λ sheet. refl)
    c.args.book.now.sheets))
    c.retitle.ensures.titled
