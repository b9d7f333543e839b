-- A text is read as one formula.
use Rattle.a1_notation.specs.Laws.{A1Laws}
use Rattle.std.proofs.Common.{◌≡◌, ℕ, List, ◌∷◌, sym, subst, ap, ◌∙◌}
use Rattle.formula_reader.specs.Laws.{IsReadOnce}
use Rattle.formula_reader.specs.Limits.{passed}
use Rattle.formula_reader.specs.Pieces.{AreTokensOf, by_tokens, as_text, pieces_from}
use Rattle.formula_reader.specs.Tokens.{AreTokens}
use Rattle.formula_reader.specs.declared.tokens.token.Placed.{Placed}
use Rattle.formula_reader.proofs.OneToken.{tokens_once}

module _ (a1 : A1Laws) where
  pub tokens_of_once : (text : List ℕ) (one other : List Placed) → AreTokensOf text one → AreTokensOf text other
      → one ≡ other
  tokens_of_once text one other are are' =
      let whole : 61 ∷ are.0 ≡ 61 ∷ are'.0 = sym are.1 ∙ are'.1 in
      let same : are.0 ≡ are'.0 = cc in
      tokens_once a1.quotes_end are'.0 0 one other
      (subst (λ (behind : List ℕ). AreTokens behind 0 one) same are.2) are'.2

  pub read_once : IsReadOnce
  read_once sheets here text one other limit limit' (by_tokens tokens are is passes)
      (by_tokens tokens' are' is' passes') =
      let same = tokens_of_once text tokens tokens' are are' in (
        is ∙ ap (λ list. record { pieces = pieces_from sheets here text 0 list }) same ∙ sym is',
        passes ∙ ap passed same ∙ sym passes',
      )
  read_once sheets here text one other limit limit' (by_tokens tokens are is passes) (as_text none is' passes') =
      absurd (none tokens are)
  read_once sheets here text one other limit limit' (as_text none is passes) (by_tokens tokens are is' passes') =
      absurd (none tokens are)
  read_once sheets here text one other limit limit' (as_text none is passes) (as_text none' is' passes') =
      (is ∙ sym is', passes ∙ sym passes')
