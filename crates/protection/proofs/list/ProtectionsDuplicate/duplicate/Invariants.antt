use Rattle.std.proofs.Common.{◌≡◌, take}
use Rattle.protection.proofs.list.ProtectionsDuplicate.duplicate.Given as goal

abbrev pub invariant-loop-protection : goal.invariant-loop-protection
invariant-loop-protection l = l.items.items ≡ take l.protection-index l.protection-items
