use Rattle.std.proofs.Common.{◌∙◌, ◌+◌, [], ap, length, sym, arith}
use Rattle.std.specs.Prelude.{nat_lt}
use Rattle.std.proofs.lemmas.Bool.Decides.{nat_tests}
use Rattle.std.proofs.lemmas.List.Elements.{All-head}
use Rattle.world_model.specs.Sound.{IsSpotWithin}
use Rattle.request_kinds.specs.Metadata.{most_metadata, spot_of}
use Rattle.request_kinds.proofs.MetadataMade.{location_broken, none_created, past_limit, taken_first}
use Rattle.request_kinds.proofs.ProtectionsJudged.{none_broken}
use Rattle.request_kinds.proofs.create_developer_metadata.broken.Goals as goal

pub returns-in-Some-clause-broken : goal.returns-in-Some-clause-broken
returns-in-Some-clause-broken c =
    sym (location_broken c.args.asked.now c.args.book.now c.in-Some.rule (sym c.in-Some.ensures.broken))

pub returns-then-is_taken-clause-broken : goal.returns-then-is_taken-clause-broken
returns-then-is_taken-clause-broken c =
    sym (taken_first c.args.asked.now c.args.book.now
    (sym c.broken_by_locations.ensures.broken ∙ none_broken c.broken_by_locations.result c.in_default.not-Some)
    (sym c.is_taken.ensures ∙ c.if-is_taken.true))

pub returns-then-is_full-clause-broken : goal.returns-then-is_full-clause-broken
returns-then-is_full-clause-broken c =
    sym (past_limit c.args.asked.now c.args.book.now
    (sym c.broken_by_locations.ensures.broken ∙ none_broken c.broken_by_locations.result c.in_default.not-Some)
    (sym c.is_taken.ensures ∙ c.if-is_taken.false)
    (ap (λ count. nat_lt most_metadata (count + 1)) (sym (c.count-count.ensures ∙ ap length c.metadata.ensures))
    ∙ sym c.is_full.ensures ∙ c.if-is_full.true))

pub returns-clause-broken : goal.returns-clause-broken
returns-clause-broken c =
    sym (none_created c.args.asked.now c.args.book.now
    (sym c.broken_by_locations.ensures.broken ∙ none_broken c.broken_by_locations.result c.in_default.not-Some)
    (sym c.is_taken.ensures ∙ c.if-is_taken.false)
    (ap (λ count. nat_lt most_metadata (count + 1)) (sym (c.count-count.ensures ∙ ap length c.metadata.ensures))
    ∙ sym c.is_full.ensures ∙ c.if-is_full.false))

pub returns-clause-within : goal.returns-clause-within
returns-clause-within c = λ _.
    All-head (λ one. IsSpotWithin c.args.book.now.sheets (spot_of one)) c.args.asked.now.location []
    (c.broken_by_locations.ensures.within (none_broken c.broken_by_locations.result c.in_default.not-Some))

pub returns-clause-room : goal.returns-clause-room
returns-clause-room c = λ _.
    let count = c.count-count.ensures ∙ ap length c.metadata.ensures in
    let few = sym c.is_full.ensures ∙ c.if-is_full.false in
    grind (arith, nat_tests)
