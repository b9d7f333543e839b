use Rattle.std.proofs.Common.{sym, ap, subst, ◌∙◌}
use Rattle.formula_reader.specs.Limits.{passed}
use Rattle.formula_reader.specs.Pieces.{by_tokens, pieces_from}
use Rattle.formula_reader.proofs.Readable.{HasReferences, pieces_referring}
use Rattle.formula_reader.proofs.reading.read_pieces.Goals as goal

pub returns-in_ok-pieces_of-in-Some-clause-read : goal.returns-in_ok-pieces_of-in-Some-clause-read
returns-in_ok-pieces_of-in-Some-clause-read g c =
    by_tokens c.in-Some.tokens (rw c.in-Some.is at c.in_ok-tokens.ensures.tokens)
    (ap (λ pieces. record { pieces = pieces }) (c.of-pieces.ensures ∙ c.in_ok-pieces_of-in-Some.ensures))
    (c.passed-limit.ensures ∙ ap passed c.as_slice.ensures)

pub returns-in_ok-pieces_of-in-Some-clause-references : goal.returns-in_ok-pieces_of-in-Some-clause-references
returns-in_ok-pieces_of-in-Some-clause-references g c =
    let sheets = g.S.SheetNames.sheets c.args.names.now in
    let are = rw c.in-Some.is at c.in_ok-tokens.ensures.tokens in
    subst (λ pieces. HasReferences sheets c.args.here (record { pieces = pieces }))
    (ap (λ text. pieces_from sheets c.args.here text 0 c.in-Some.tokens) (sym are.1)
    ∙ sym (c.of-pieces.ensures ∙ c.in_ok-pieces_of-in-Some.ensures))
    (pieces_referring c.a1_laws.ensures sheets c.args.here are.0 c.in-Some.tokens are.2)
