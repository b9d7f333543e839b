use Rattle.std.proofs.Common.{◌≡◌, ◌<◌, ◌++◌, ◌∷◌, [], length, sym, ap, ◌∙◌, rules, append_assoc, append-nil}
use Rattle.sheets_http.specs.Queries.{member_of, members_of}
use Rattle.sheets_http.proofs.QueryLemmas.{piece_is_none, piece_is_member, less_is_left, no_members}
use Rattle.sheets_http.proofs.query.members_of.Goals as goal

pub loop-rest-smaller-then-is_empty : goal.loop-rest-smaller-then-is_empty
loop-rest-smaller-then-is_empty c =
    let some : 0 < length c.loop-rest.rest.now = search rules in
    less_is_left c.loop-rest.rest.now c.split_first.result.1.now c.split_first.ensures.behind some

pub loop-rest-preserved-then-is_empty : goal.loop-rest-preserved-then-is_empty
loop-rest-preserved-then-is_empty c =
    let none : length c.split_first.result.0.now ≡ 0 = search rules in (
      ap (λ t. c.loop-rest.members.items ++ t)
          (sym (piece_is_none c.loop-rest.rest.now c.split_first.result.0.now c.split_first.result.1.now
          c.split_first.ensures.before c.split_first.ensures.behind none))
          ∙ c.loop-rest.invariant.0,
      search rules,
    )

pub loop-rest-smaller : goal.loop-rest-smaller
loop-rest-smaller c =
    let some : 0 < length c.loop-rest.rest.now = search rules in
    less_is_left c.loop-rest.rest.now c.split_first.result.1.now c.split_first.ensures.behind some

pub loop-rest-preserved : goal.loop-rest-preserved
loop-rest-preserved c =
    let some : 0 < length c.split_first.result.0.now = search rules in
    let member = piece_is_member c.loop-rest.rest.now c.split_first.result.0.now c.split_first.result.1.now
    c.split_first.ensures.before c.split_first.ensures.behind some in (
      ap (λ t. t ++ members_of c.split_first.result.1.now)
          (c.in_ok-push.ensures.items ∙ ap (λ m. c.loop-rest.members.items ++ m ∷ []) c.in_ok-member_of.ensures)
          ∙ append_assoc c.loop-rest.members.items (member_of c.split_first.result.0.now ∷ [])
          (members_of c.split_first.result.1.now)
          ∙ ap (λ t. c.loop-rest.members.items ++ t) (sym member)
          ∙ c.loop-rest.invariant.0,
      search rules,
    )

pub returns : goal.returns
returns c =
    let none : length c.loop-rest.rest.now ≡ 0 = search rules in
    c.of.ensures
    ∙ sym (append-nil c.loop-rest.members.items)
    ∙ ap (λ t. c.loop-rest.members.items ++ t) (sym (no_members c.loop-rest.rest.now none))
    ∙ c.loop-rest.invariant.0
