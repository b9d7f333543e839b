use Rattle.std.proofs.Common.{◌≡◌, ◌∷◌, lit<}
use Rattle.std.proofs.lemmas.Str.Pattern.{strip_prefix_char}
use Rattle.formula_reader.proofs.Cutting.{found_cuts}
use Rattle.formula_reader.proofs.reading.formula_tokens.Goals as goal

pub returns-in-Some-clause-cuts : goal.returns-in-Some-clause-cuts
returns-in-Some-clause-cuts c =
    let begins : c.args.text.now ≡ 61 ∷ c.in-Some.behind.now =
    rw c.in-Some.is
    at (strip_prefix_char 61 c.args.text.now c.strip_prefix.result c.strip_prefix.ensures.cases (lit< tt)) in
    found_cuts c.args.text.now c.in-Some.behind.now c.tokens_of.result begins c.tokens_of.ensures.tokens
    c.tokens_of.ensures.boundaries c.tokens_of.ensures.cells

-- no text is behind the = that isn't there
pub returns-in-None-clause-none : goal.returns-in-None-clause-none
returns-in-None-clause-none c = λ tokens are.
    (rw c.in-None.is
    at (strip_prefix_char 61 c.args.text.now c.strip_prefix.result c.strip_prefix.ensures.cases (lit< tt)))
    are.0 are.1
