use Rattle.std.proofs.Common.{◌<◌, ◌∙◌, ap, length, get_or, sym, arith}
use Rattle.std.specs.Prelude.{slice_set}
use Rattle.std.proofs.lemmas.Option.{get_or_from_slice_get}
use Rattle.indexmap.specs.IndexMap.{set_value_at}
use Rattle.dev_metadata.specs.declared.types.Item.{Item}
use Rattle.dev_metadata.specs.Given.{with_given}
use Rattle.dev_metadata.specs.Kept.{items_of}
use Rattle.dev_metadata.proofs.Entries.{items_of-set_value_at, IsKept-set_value_at}
use Rattle.dev_metadata.proofs.by_id.ById.give.Goals as goal

pub invariant_of-self : goal.invariant_of-self
invariant_of-self c =
    let there : c.args.at < length (items_of c.self.inside.by_id.entries) =
    (let long = ap length c.self.view_is in omega (arith, c.requires)) in
    rw c.give.ensures (IsKept-set_value_at c.self.inside.by_id.entries c.args.at
    (with_given c.args.given c.index_mut.result.now) c.index_mut.result.now there
    (ap (λ (item : Item). item.id)
    (sym (get_or_from_slice_get (items_of c.self.inside.by_id.entries) c.args.at c.index_mut.result.now
    c.index_mut.result.now c.index_mut.ensures.value)))
    c.self.invariant)

pub returns : goal.returns
returns c = λ item.
    ap (λ one. items_of (set_value_at c.self.inside.by_id.entries c.args.at one)) c.give.ensures
    ∙ items_of-set_value_at c.self.inside.by_id.entries c.args.at (with_given c.args.given c.index_mut.result.now)
    ∙ ap (λ one. slice_set (items_of c.self.inside.by_id.entries) c.args.at (with_given c.args.given one))
    (sym (get_or_from_slice_get (items_of c.self.inside.by_id.entries) c.args.at c.index_mut.result.now
    item c.index_mut.ensures.value))
    ∙ ap (λ items. slice_set items c.args.at (with_given c.args.given (get_or items c.args.at item))) c.self.view_is
