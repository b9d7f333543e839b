use Rattle.std.proofs.Common.{◌∙◌, sym, subst}
use Rattle.std.specs.Prelude.{Err}
use Rattle.dev_metadata.specs.Lookup.{is_bad}
use Rattle.dev_metadata.specs.declared.types.MetaFault.TheVariants as fault
use Rattle.dimension_ops.specs.Rules.{IsUnlessNoMemory}
use Rattle.request_kinds.specs.DeleteDeveloperMetadata.{IsDeleteDeveloperMetadata}
use Rattle.request_kinds.specs.Telling.{IsDoneTo}
use Rattle.request_kinds.specs.Metadata.{lookup_of}
use Rattle.request_kinds.proofs.MetadataMade.{bad_deleted, items_deleted, lookup_refused, not_so, place_broken}
use Rattle.request_kinds.proofs.ProtectionsJudged.{none_broken}
use Rattle.request_kinds.proofs.delete_developer_metadata.delete_developer_metadata.Goals as goal

pub returns-in-Some : goal.returns-in-Some
returns-in-Some c =
    place_broken c.args.project.now c.args.asked.now c.args.book.now c.in-Some.rule (sym c.in-Some.ensures)

pub returns-in-Ok : goal.returns-in-Ok
returns-in-Ok c =
    items_deleted c.args.project.now c.args.asked.now c.args.book.now
    (sym c.broken_by_place.ensures ∙ none_broken c.broken_by_place.result c.in_default.not-Some)
    c.drop_items.new.self c.in-Ok.items
    (not_so c.drop_items.result c.in-Ok.items fault.BadLookup (is_bad (lookup_of c.args.asked.now))
    (rw c.in_ok-lookup.ensures at c.drop_items.ensures.bad) c.in-Ok.is)
    c.items_have_own_ids.ensures
    (rw c.in_ok-lookup.ensures at c.in-Ok.ensures.items)
    (rw c.in_ok-lookup.ensures at c.in-Ok.ensures.dropped)

pub returns : goal.returns
returns c =
    let Is = IsDoneTo (IsDeleteDeveloperMetadata c.args.project.now c.args.asked.now c.args.book.now)
    c.args.book.now c.drop_items.new.self in
    subst (λ of. IsUnlessNoMemory Is (Err of)) (sym c.refusal_of.ensures)
    (lookup_refused Is c.drop_items.result c.in-Err.fault (is_bad (lookup_of c.args.asked.now)) c.in-Err.is
    (rw c.in_ok-lookup.ensures at c.drop_items.ensures.bad) c.drop_items.ensures.no_other
    (bad_deleted c.args.project.now c.args.asked.now c.args.book.now
    (sym c.broken_by_place.ensures ∙ none_broken c.broken_by_place.result c.in_default.not-Some)))
