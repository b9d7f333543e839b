use Rattle.std.proofs.Common.{◌≡◌, ◌∙◌, ap, false, List, IfSome, sym, subst}
use Rattle.named_ranges.specs.declared.range.NamedRange.{NamedRange}
use Rattle.named_ranges.specs.Given.{given_range}
use Rattle.named_ranges.specs.Listed.{with_id, with_changed, is_name_of_other}
use Rattle.named_ranges.specs.Kept.{ranges_of}
use Rattle.indexmap.specs.IndexMap.{set_value_at}
use Rattle.named_ranges.proofs.Entries.{lookup-with_id, IsKept-given, with_changed_at, with_id_has, unlisted, ranges_of-set_value_at, none_of}
use Rattle.named_ranges.proofs.list.Names.give.Goals as goal

has_id : (c : goal.After-self-1) → c.args.id.now ≡ c.index_mut.result.now.id
has_id c =
    with_id_has c.args.id.now (ranges_of c.self.inside.by_id.entries) c.index_mut.result.now
    (sym (lookup-with_id c.args.id.now c.self.inside.by_id.entries c.self.invariant.keyed)
    ∙ sym c.in-Some.ensures.value ∙ c.index_mut.ensures.value)

pub invariant_of-self : goal.invariant_of-self
invariant_of-self c =
    rw c.give.ensures (IsKept-given c.self.inside.by_id.entries c.in-Some.at c.index_mut.result.now
    c.args.id.now c.args.name c.args.area c.self.invariant c.index_mut.ensures.value (has_id c)
    (subst
    (λ (ranges : List NamedRange). IfSome c.args.name
    (λ name. is_name_of_other name c.args.id.now ranges ≡ false))
    (sym c.self.view_is) c.requires))

pub returns-in-Some : goal.returns-in-Some
returns-in-Some c =
    let change = λ (range : NamedRange). given_range c.args.name c.args.area range in
    ap (λ range. ranges_of (set_value_at c.self.inside.by_id.entries c.in-Some.at range)) c.give.ensures
    ∙ ranges_of-set_value_at c.self.inside.by_id.entries c.in-Some.at (change c.index_mut.result.now)
    ∙ with_changed_at c.args.id.now change (ranges_of c.self.inside.by_id.entries) c.in-Some.at
    c.index_mut.result.now c.self.invariant.apart c.index_mut.ensures.value (has_id c)
    ∙ ap (with_changed c.args.id.now change) c.self.view_is

pub returns-in_default : goal.returns-in_default
returns-in_default c =
    sym (unlisted c.args.id.now (given_range c.args.name c.args.area) c.args.self.now
    (ap (with_id c.args.id.now) (sym c.self.view_is)
    ∙ sym (lookup-with_id c.args.id.now c.self.inside.by_id.entries c.self.invariant.keyed)
    ∙ none_of _ c.in_default.ensures.found))
