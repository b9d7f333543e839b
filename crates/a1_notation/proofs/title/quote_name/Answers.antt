use Rattle.std.proofs.Common.{sym, ◌∙◌, inr}
use Rattle.a1_notation.proofs.CanonicalTexts.{plain_is_loose}
use Rattle.a1_notation.proofs.title.quote_name.Goals as goal

pub returns-then-is_plain-clause-reads_back : goal.returns-then-is_plain-clause-reads_back
returns-then-is_plain-clause-reads_back c =
    λ some. rw (c.of.ensures, c.in_ok-from_str.ensures.ok) (inr (plain_is_loose c.args.title.now
    (sym c.is_plain.ensures ∙ c.if-is_plain.true)))
