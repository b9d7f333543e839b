use Rattle.std.proofs.Common.{◌≡◌, ◌<◌, length, get_or, arith, sym, ◌∙◌, ap}
use Rattle.std.proofs.lemmas.List.{length-set}
use Rattle.dev_metadata.specs.declared.types.Item.{Item}
use Rattle.dev_metadata.specs.Given.{given_to, with_given}
use Rattle.dev_metadata.proofs.Patching.{any_item, given_here, patched_some, patched_none, same_item, same_behind, Patches-put, Patches-same, Patches-end}
use Rattle.dev_metadata.proofs.updating.patch_found.Goals as goal
use Rattle.dev_metadata.proofs.updating.patch_found.Goals.{in-Some, in_default}

pub loop-at-preserved : goal.loop-at-preserved
loop-at-preserved c =
    let put = c.loop-at.invariant.put in
    let wide = put.wide in
    let there : c.loop-at.at < length c.args.items.now = omega arith in
    let long = length-set c.loop-at.copies.items c.loop-at.at c.take.new.self ∙ c.loop-at.invariant.long in
    let rest = same_behind c.loop-at.copies.items _ c.loop-at.at c.take.new.self c.loop-at.invariant.rest in
    let given : given_to c.args.lookups.now c.args.project.now c.args.patch.now
    (get_or c.args.items.now c.loop-at.at any_item) ≡ c.take.result
    = given_here c.args.lookups.now c.args.project.now c.args.patch.now _ c.loop-at.copies.items _ _ any_item
    there c.loop-at.invariant.long c.loop-at.invariant.rest c.index_mut.ensures.value
    ∙ sym c.take.ensures.value in
    elim c.match-take.branch [
      | in-Some w ↦ rw (w.items-is, w.give.ensures any_item) (record {
        put = Patches-put _ _ _ _ _ any_item there
            (ap (λ (item : Item). with_given w.in-Some.given item)
            (same_item _ _ _ any_item (omega arith) there put.behind)
            ∙ sym (patched_some _ _ _ _ w.in-Some.given (given ∙ w.in-Some.is))) put;
        long = long;
        rest = rest;
      })
      | in_default w ↦ rw w.items-is (record {
        put = Patches-same _ _ _ _ any_item there (patched_none _ _ _ _ (given ∙ w.in_default.is)) put;
        long = long;
        rest = rest;
      })
    ]

pub returns-clause-patched : goal.returns-clause-patched
returns-clause-patched c =
    let put = c.loop-at.invariant.put in
    let wide = put.wide in
    Patches-end _ _ _ _ (omega arith) put
