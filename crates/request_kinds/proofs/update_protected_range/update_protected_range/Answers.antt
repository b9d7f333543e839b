use Rattle.std.proofs.Common.{◌∙◌, subst, sym}
use Rattle.dimension_ops.specs.ProtectionRequests.{IsPatchWithin}
use Rattle.request_kinds.proofs.ProtectionsJudged.{can_be_updated, none_broken}
use Rattle.request_kinds.proofs.update_protected_range.update_protected_range.Goals as goal

pub update_protection-requires : goal.update_protection-requires
update_protection-requires c = record {
  within =
      subst (IsPatchWithin c.args.book.now.sheets) (sym c.in_ok-patch.ensures)
      (can_be_updated c.args.user.now c.args.id c.args.patch.now c.args.book.now
      (sym c.in_ok-rule.ensures ∙ none_broken c.in_ok-rule.field-0 c.in_default.not-Some));
}
