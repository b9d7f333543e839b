use Rattle.std.proofs.Common.{◌≡◌, ◌+◌, ◌++◌, ◌∷◌, ◌∙◌, [], ap, false, refl, subst, sym, take, true}
use Rattle.std.specs.List.{IsDistinct}
use Rattle.std.specs.Str.{bytes_eq}
use Rattle.cell_value.specs.Texts.{is_among}
use Rattle.users_file.specs.Table.{tokens_of}
use Rattle.users_file.proofs.Tables.{tokens-more}
use Rattle.users_file.proofs.Tokens.{IsSetOf, IsSetOf-more, differ-more, differ-no_more, has_text, was_new, was_there}
use Rattle.users_file.proofs.repeats.first_repeated.Goals as goal

pub loop-place-init : goal.loop-place-init
unfolding IsDistinct
loop-place-init c = record { differ = tt; kept = λ text. rw c.new-tokens.ensures.empty refl }

-- the set has the token
pub returns-then-not-branch : goal.returns-then-not-branch
returns-then-not-branch c =
    let pairs = c.args.pairs.now in
    let place = c.loop-place.place in
    let before = take place (tokens_of pairs) in
    let token = c.as_str.result.now in
    let more : take (place + 1) (tokens_of pairs) ≡ before ++ token ∷ [] =
    tokens-more pairs place c.index-pairs-place.result c.loop-place-test.true (sym c.index-pairs-place.is)
    ∙ ap (λ last. before ++ last ∷ []) (sym c.as_str.ensures) in
    let there : is_among token before ≡ true =
    sym (c.loop-place.invariant.kept token)
    ∙ was_there c.in_ok-insert.field-0 (has_text token c.loop-place.tokens.keys) c.in_ok-insert.ensures.added
    c.if-not-branch.true in
    record {
      within = c.loop-place-test.true;
      before = c.loop-place.invariant.differ;
      again = λ differ. differ-no_more before token there (subst (IsDistinct bytes_eq) more differ);
    }

-- the set lacked it
pub loop-place-preserved : goal.loop-place-preserved
loop-place-preserved c =
    let pairs = c.args.pairs.now in
    let place = c.loop-place.place in
    let before = take place (tokens_of pairs) in
    let token = c.as_str.result.now in
    let more : take (place + 1) (tokens_of pairs) ≡ before ++ token ∷ [] =
    tokens-more pairs place c.index-pairs-place.result c.loop-place-test.true (sym c.index-pairs-place.is)
    ∙ ap (λ last. before ++ last ∷ []) (sym c.as_str.ensures) in
    let new : is_among token before ≡ false =
    sym (c.loop-place.invariant.kept token)
    ∙ was_new c.in_ok-insert.field-0 (has_text token c.loop-place.tokens.keys) c.in_ok-insert.ensures.added
    c.if-not-branch.false in
    record {
      differ = subst (IsDistinct bytes_eq) (sym more) (differ-more before token c.loop-place.invariant.differ new);
      kept = subst (λ texts. IsSetOf texts c.insert.new.self) (sym more)
          (IsSetOf-more before c.loop-place.tokens c.insert.new.self c.as_str.result c.in_ok-insert.ensures.updates.0
          c.loop-place.invariant.kept);
    }
