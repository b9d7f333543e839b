use Rattle.std.proofs.Common.{string_bytes}
use Rattle.formula_reader.proofs.FirstBytes.{unclosed_text, text_read}
use Rattle.formula_reader.proofs.tokens.next.read_text.Goals as goal

pub returns-in_default : goal.returns-in_default
returns-in_default c = unclosed_text c.args.inside.now (rw c.in_default.is at c.in_ok-text.ensures.none)

pub returns : goal.returns
returns c =
    rw c.of.ensures
    (text_read c.args.inside.now (string_bytes c.in-Some.text) c.in-Some.rest.now
    (rw c.in-Some.is at c.in_ok-text.ensures.read) (rw c.in-Some.is at c.in_ok-text.ensures.one))
