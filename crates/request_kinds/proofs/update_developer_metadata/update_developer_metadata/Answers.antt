use Rattle.std.proofs.Common.{◌∙◌, sym, subst}
use Rattle.std.specs.Prelude.{Err}
use Rattle.dev_metadata.specs.Lookup.{has_bad}
use Rattle.dev_metadata.specs.declared.types.MetaFault.TheVariants as fault
use Rattle.dimension_ops.specs.Rules.{IsUnlessNoMemory}
use Rattle.request_kinds.specs.Telling.{IsDoneTo}
use Rattle.request_kinds.specs.Metadata.{lookups_of}
use Rattle.request_kinds.specs.UpdateDeveloperMetadata.{IsUpdateDeveloperMetadata}
use Rattle.request_kinds.proofs.MetadataMade.{bad_updated, items_updated, lookup_refused, named_broken, not_so, patch_within}
use Rattle.request_kinds.proofs.ProtectionsJudged.{none_broken}
use Rattle.request_kinds.proofs.update_developer_metadata.update_developer_metadata.Goals as goal

pub returns-in-Some : goal.returns-in-Some
returns-in-Some c =
    named_broken c.args.project.now c.args.asked.now c.args.patch.now c.args.book.now c.in-Some.rule
    (sym (rw (c.deref.ensures.value, c.in_ok-locations.ensures) at c.in-Some.ensures.broken))

pub update_items-requires : goal.update_items-requires
update_items-requires c = record {
  within =
      rw c.in_ok-patch.ensures
      (patch_within c.args.book.now.sheets c.args.asked.now c.args.patch.now
      (rw (c.deref.ensures.value, c.in_ok-locations.ensures)
      at (c.broken_by_locations.ensures.within (none_broken c.broken_by_locations.result c.in_default.not-Some))));
}

pub returns-in-Ok : goal.returns-in-Ok
returns-in-Ok c =
    items_updated c.args.project.now c.args.asked.now c.args.patch.now c.args.book.now
    (sym (rw (c.deref.ensures.value, c.in_ok-locations.ensures) at c.broken_by_locations.ensures.broken)
    ∙ none_broken c.broken_by_locations.result c.in_default.not-Some)
    c.update_items.new.self c.in-Ok.ids c.in_ok-items_seen-in-Ok.field-0
    (not_so c.update_items.result c.in-Ok.ids fault.BadLookup (has_bad (lookups_of c.args.asked.now))
    (rw c.in_ok-lookups.ensures at c.update_items.ensures.bad) c.in-Ok.is)
    (rw c.in_ok-lookups.ensures at c.in-Ok.ensures.ids)
    (rw (c.in_ok-lookups.ensures, c.in_ok-patch.ensures) at c.in-Ok.ensures.updated)
    (rw (c.as_slice.ensures, c.metadata.ensures) at c.in_ok-items_seen-in-Ok.ensures)

pub returns : goal.returns
returns c =
    let Is = IsDoneTo (IsUpdateDeveloperMetadata c.args.project.now c.args.asked.now c.args.patch.now c.args.book.now)
    c.args.book.now c.update_items.new.self in
    subst (λ of. IsUnlessNoMemory Is (Err of)) (sym c.refusal_of.ensures)
    (lookup_refused Is c.update_items.result c.in-Err.fault (has_bad (lookups_of c.args.asked.now)) c.in-Err.is
    (rw c.in_ok-lookups.ensures at c.update_items.ensures.bad) c.update_items.ensures.no_other
    (bad_updated c.args.project.now c.args.asked.now c.args.patch.now c.args.book.now
    (sym (rw (c.deref.ensures.value, c.in_ok-locations.ensures) at c.broken_by_locations.ensures.broken)
    ∙ none_broken c.broken_by_locations.result c.in_default.not-Some)))
