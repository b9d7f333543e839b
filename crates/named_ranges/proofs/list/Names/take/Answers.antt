use Rattle.std.proofs.Common.{◌∙◌, ap, List, sym, subst}
use Rattle.named_ranges.specs.Listed.{with_id, without_id}
use Rattle.named_ranges.specs.Kept.{Entry, ranges_of, IsKept}
use Rattle.named_ranges.proofs.Entries.{lookup-with_id, ranges_of-remove_entry, IsKept-remove_entry}
use Rattle.named_ranges.proofs.list.Names.take.Goals as goal

pub invariant_of-self : goal.invariant_of-self
invariant_of-self c =
    subst (λ (entries : List Entry). IsKept entries) (sym c.shift_remove.ensures.entries)
    (IsKept-remove_entry c.args.id.now c.self.inside.by_id.entries c.self.invariant)

pub returns-clause-taken : goal.returns-clause-taken
returns-clause-taken c =
    c.shift_remove.ensures.value
    ∙ lookup-with_id c.args.id.now c.self.inside.by_id.entries c.self.invariant.keyed
    ∙ ap (with_id c.args.id.now) c.self.view_is

pub returns-clause-left : goal.returns-clause-left
returns-clause-left c =
    ap ranges_of c.shift_remove.ensures.entries
    ∙ ranges_of-remove_entry c.args.id.now c.self.inside.by_id.entries c.self.invariant.keyed c.self.invariant.apart
    ∙ ap (without_id c.args.id.now) c.self.view_is
