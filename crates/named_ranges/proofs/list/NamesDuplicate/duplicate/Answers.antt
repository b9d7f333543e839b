use Rattle.std.proofs.Common.{◌∙◌, ◌∷◌, ◌++◌, [], ap, List, take, sym, subst}
use Rattle.std.specs.Prelude.{slice_get}
use Rattle.std.proofs.lemmas.List.{take_more}
use Rattle.std.proofs.lemmas.Option.{get_or_from_slice_get, slice_get_within}
use Rattle.named_ranges.specs.declared.range.NamedRange.{NamedRange}
use Rattle.named_ranges.specs.Listed.{AreNames, with_id, with_name}
use Rattle.named_ranges.proofs.Entries.{new_id_before, new_name_before}
use Rattle.named_ranges.proofs.list.NamesDuplicate.duplicate.Goals as goal

pub push-requires-clause-id : goal.push-requires-clause-id
push-requires-clause-id c =
    let read = ap (λ ranges. slice_get ranges c.loop-at.at) (sym c.self.view_is) ∙ c.index.ensures in
    let names = subst (λ (ranges : List NamedRange). AreNames ranges) c.self.view_is c.self.invariant.apart in
    ap (λ (range : NamedRange). with_id range.id c.loop-at.copy) c.in_ok-duplicate.ensures
    ∙ ap (with_id c.index.result.now.id) c.loop-at.invariant
    ∙ new_id_before c.args.self.now c.loop-at.at c.index.result.now names read

pub push-requires-clause-name : goal.push-requires-clause-name
push-requires-clause-name c =
    let read = ap (λ ranges. slice_get ranges c.loop-at.at) (sym c.self.view_is) ∙ c.index.ensures in
    let names = subst (λ (ranges : List NamedRange). AreNames ranges) c.self.view_is c.self.invariant.apart in
    ap (λ (range : NamedRange). with_name range.name c.loop-at.copy) c.in_ok-duplicate.ensures
    ∙ ap (with_name c.index.result.now.name) c.loop-at.invariant
    ∙ new_name_before c.args.self.now c.loop-at.at c.index.result.now names read

pub loop-at-preserved : goal.loop-at-preserved
loop-at-preserved c =
    let read = ap (λ ranges. slice_get ranges c.loop-at.at) (sym c.self.view_is) ∙ c.index.ensures in
    c.in_ok-push.ensures.added
    ∙ ap (λ copy. copy ++ c.in_ok-duplicate.field-0 ∷ []) c.loop-at.invariant
    ∙ ap (λ range. take c.loop-at.at c.args.self.now ++ range ∷ [])
    (c.in_ok-duplicate.ensures
    ∙ sym (get_or_from_slice_get c.args.self.now c.loop-at.at c.index.result.now c.index.result.now read))
    ∙ sym (take_more c.args.self.now c.loop-at.at c.index.result.now
    (slice_get_within c.args.self.now c.loop-at.at c.index.result.now read))
