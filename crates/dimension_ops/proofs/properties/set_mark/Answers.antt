use Rattle.std.proofs.Common.{refl, sym, subst, [], ◌∷◌}
use Rattle.world_model.specs.Book.{PlaceBook}
use Rattle.world_model.specs.BookChange.{AreChanges, BookChange}
use Rattle.world_model.specs.SheetChange.{place_marked_hidden}
use Rattle.dimension_ops.specs.PropertyLaws.{one_visible, size_kept}
use Rattle.dimension_ops.specs.SetProperties.{IsMarkFor, KeepsSize, mark_set}
use Rattle.dimension_ops.proofs.Setting.{on_ok}
use Rattle.dimension_ops.proofs.properties.set_mark.Goals as goal

pub mark_hidden-requires-clause-sound : goal.mark_hidden-requires-clause-sound
mark_hidden-requires-clause-sound c =
    c.sheets_hidden.ensures.stays c.args.book.now c.args.sheet c.in-Some.hidden c.stays_sound.ensures
    (one_visible c.args.sheet c.in-Some.hidden c.args.book.now
    (subst (λ given. IsMarkFor c.args.sheet given c.args.book.now.sheets) c.in-Some.is c.requires))

pub returns-in-Some-clause-set : goal.returns-in-Some-clause-set
returns-in-Some-clause-set c =
    let sound = c.sheets_hidden.ensures.stays c.args.book.now c.args.sheet c.in-Some.hidden c.stays_sound.ensures
    (one_visible c.args.sheet c.in-Some.hidden c.args.book.now
    (subst (λ given. IsMarkFor c.args.sheet given c.args.book.now.sheets) c.in-Some.is c.requires)) in
    on_ok c.mark_hidden.result _ _
    (λ is. subst (λ given. AreChanges (mark_set c.args.sheet given) c.args.book.now c.mark_hidden.new.self)
    (sym c.in-Some.is)
    (subst (AreChanges (BookChange.SheetHidden c.args.sheet c.in-Some.hidden ∷ []) c.args.book.now) (sym is)
    (c.sheets_hidden.ensures.changes c.args.book.now c.args.sheet c.in-Some.hidden sound)))
    c.mark_hidden.ensures.marked

pub returns-in-Some-clause-kept : goal.returns-in-Some-clause-kept
returns-in-Some-clause-kept c =
    on_ok c.mark_hidden.result _ _
    (λ is. subst (λ (book : PlaceBook). KeepsSize c.args.sheet c.args.book.now.sheets book.sheets) (sym is)
    (size_kept c.args.sheet (place_marked_hidden c.in-Some.hidden) (λ sheet. refl) (λ sheet. refl)
    c.args.book.now.sheets))
    c.mark_hidden.ensures.marked
