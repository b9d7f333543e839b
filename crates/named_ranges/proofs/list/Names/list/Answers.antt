use Rattle.std.proofs.Common.{◌∙◌, ap, List, sym, subst}
use Rattle.std.specs.Prelude.{slice_get}
use Rattle.std.specs.Option.{option_map}
use Rattle.named_ranges.specs.declared.range.NamedRange.{NamedRange}
use Rattle.named_ranges.specs.Listed.{AreNames}
use Rattle.named_ranges.specs.Kept.{Entry}
use Rattle.named_ranges.proofs.Entries.{slice_get-ranges_of}
use Rattle.named_ranges.proofs.list.Names.list.Goals as goal

pub returns-in-Some-clause-names : goal.returns-in-Some-clause-names
returns-in-Some-clause-names c =
    subst (λ (ranges : List NamedRange). AreNames ranges) c.self.view_is c.self.invariant.apart

pub returns-in-None-clause-range : goal.returns-in-None-clause-range
returns-in-None-clause-range c =
    ap (option_map (λ (entry : Entry). entry.1)) c.in-None.ensures.entry
    ∙ sym (slice_get-ranges_of c.self.inside.by_id.entries c.args.at)
    ∙ ap (λ ranges. slice_get ranges c.args.at) c.self.view_is

pub returns-in-None-clause-names : goal.returns-in-None-clause-names
returns-in-None-clause-names c =
    subst (λ (ranges : List NamedRange). AreNames ranges) c.self.view_is c.self.invariant.apart
