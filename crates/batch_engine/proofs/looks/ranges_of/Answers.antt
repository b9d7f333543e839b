use Rattle.std.proofs.Common.{◌++◌, ◌∷◌, ◌∙◌, [], ap, sym, take}
use Rattle.std.specs.Option.{option_copied}
use Rattle.request_kinds.specs.ListingLaws.{all_read, one_read}
use Rattle.batch_engine.proofs.looks.ranges_of.Goals as goal

pub loop-at-init : goal.loop-at-init
loop-at-init c = c.new-ranges.ensures.items

pub returns-in-None : goal.returns-in-None
returns-in-None c =
    c.of.ensures ∙ c.loop-at.invariant
    ∙ all_read c.args.names.now c.loop-at.at (sym c.list.ensures.range ∙ ap option_copied c.in-None.is)

pub loop-at-preserved : goal.loop-at-preserved
loop-at-preserved c =
    let names = c.args.names.now in
    let at = c.loop-at.at in
    c.in_ok-push-in-Some.ensures.items
    ∙ ap (λ ranges. ranges ++ c.in_ok-duplicate-in-Some.field-0 ∷ []) c.loop-at.invariant
    ∙ ap (λ one. take at names ++ one ∷ []) c.in_ok-duplicate-in-Some.ensures
    ∙ one_read names at c.in-Some.range.now (sym c.list.ensures.range ∙ ap option_copied c.in-Some.is)
