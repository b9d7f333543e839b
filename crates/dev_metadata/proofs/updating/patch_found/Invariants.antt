use Rattle.std.proofs.Common.{◌≡◌, drop, length, map}
use Rattle.dev_metadata.specs.Given.{given_to}
use Rattle.dev_metadata.proofs.Patching.{patched_item, Patches}
use Rattle.dev_metadata.proofs.updating.patch_found.Given as goal

abbrev pub invariant-loop-at : goal.invariant-loop-at
invariant-loop-at l = record {
  put : Patches (patched_item l.lookups l.project l.patch) l.fn.items l.items l.at;
  long : length l.copies.items ≡ length l.fn.items;
  rest : drop l.at l.copies.items ≡ drop l.at (map (given_to l.lookups l.project l.patch) l.fn.items);
}
