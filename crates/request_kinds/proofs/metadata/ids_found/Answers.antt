use Rattle.std.proofs.Common.{◌∷◌, [], ◌∙◌, sym}
use Rattle.dev_metadata.specs.Lookup.{has_bad}
use Rattle.dev_metadata.specs.declared.types.MetaFault.TheVariants as fault
use Rattle.request_kinds.specs.Metadata.{lookup_of}
use Rattle.request_kinds.proofs.LookingUp.{ids_are, place_refused}
use Rattle.request_kinds.proofs.MetadataMade.{not_so}
use Rattle.request_kinds.proofs.ProtectionsJudged.{none_broken}
use Rattle.request_kinds.proofs.metadata.ids_found.Goals as goal

pub returns-in-Some : goal.returns-in-Some
returns-in-Some c =
    place_refused c.args.project.now c.args.asked.now c.args.book.now c.in-Some.rule
    (sym c.broken_by_place.ensures ∙ c.in-Some.is)

pub returns-in-Ok : goal.returns-in-Ok
returns-in-Ok c =
    ids_are c.args.project.now c.args.asked.now c.args.book.now
    (sym c.broken_by_place.ensures ∙ none_broken c.broken_by_place.result c.in_default.not-Some) c.in-Ok.ids
    (not_so c.search.result c.in-Ok.ids fault.BadLookup (has_bad (lookup_of c.args.asked.now ∷ []))
    (rw (c.in_ok-lookups.ensures, c.from_ref.ensures.value) at c.search.ensures.bad) c.in-Ok.is)
    (rw (c.in_ok-lookups.ensures, c.from_ref.ensures.value, c.metadata.ensures) at c.in-Ok.ensures.found)
