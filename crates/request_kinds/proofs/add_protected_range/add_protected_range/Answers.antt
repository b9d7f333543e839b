use Rattle.std.proofs.Common.{◌∙◌, ap, subst, sym}
use Rattle.std.specs.Option.{option_copied}
use Rattle.protection.specs.Listed.{with_id}
use Rattle.dimension_ops.specs.ProtectionRequests.{IsPatchWithin}
use Rattle.request_kinds.specs.Shown.{shown_protection}
use Rattle.request_kinds.proofs.ProtectionsJudged.{can_be_added, none_broken}
use Rattle.request_kinds.proofs.ProtectionsMade.{added_done}
use Rattle.request_kinds.proofs.add_protected_range.add_protected_range.Goals as goal

pub add_protection-requires-clause-within : goal.add_protection-requires-clause-within
add_protection-requires-clause-within c =
    subst (IsPatchWithin c.args.book.now.sheets) (sym c.in_ok-patch.ensures)
    (can_be_added c.args.id c.args.patch.now c.args.book.now
    (sym c.in_ok-rule.ensures ∙ none_broken c.in_ok-rule.field-0 c.in_default.not-Some)).within

pub add_protection-requires-clause-room : goal.add_protection-requires-clause-room
add_protection-requires-clause-room c =
    (can_be_added c.args.id c.args.patch.now c.args.book.now
    (sym c.in_ok-rule.ensures ∙ none_broken c.in_ok-rule.field-0 c.in_default.not-Some)).room

pub returns-in-Some-find : goal.returns-in-Some-find
returns-in-Some-find c =
    let user = c.args.user.now in
    let made = c.in-Some-find.made.now in
    added_done user c.args.id c.args.patch.now c.args.book.now c.add_protection.new.self c.as_str.result.now
    c.in_ok-patch.patch c.in-Ok.id (c.as_str.ensures ∙ c.in_ok-owner.ensures ∙ c.owner.ensures) c.in_ok-patch.ensures
    c.in-Ok.ensures.added (sym c.in_ok-rule.ensures ∙ none_broken c.in_ok-rule.field-0 c.in_default.not-Some)
    c.in-Ok.ensures.id made c.in_ok-shown_protection-in-Some-find.field-0
    (sym (ap option_copied c.in-Some-find.is) ∙ c.find.ensures ∙ ap (with_id c.in-Ok.id) c.protections.ensures)
    (c.in_ok-shown_protection-in-Some-find.ensures
    ∙ ap (λ owner. shown_protection user owner made) (c.as_str-in-Some-find.ensures ∙ sym c.as_str.ensures))
