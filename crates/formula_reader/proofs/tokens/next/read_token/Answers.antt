use Rattle.std.proofs.Common.{lit<, sym}
use Rattle.std.proofs.lemmas.Str.Pattern.{strip_prefix_char}
use Rattle.formula_reader.proofs.Read.{not_first}
use Rattle.formula_reader.proofs.tokens.next.read_token.Goals as goal

pub read_plain-requires-clause-title : goal.read_plain-requires-clause-title
read_plain-requires-clause-title c =
    let none =
    rw c.in_default-strip_prefix.is at
    (strip_prefix_char 39 c.args.text.now c.strip_prefix.result c.strip_prefix.ensures.cases (lit< tt)) in
    sym (not_first 39 c.args.text.now none)

pub read_plain-requires-clause-text : goal.read_plain-requires-clause-text
read_plain-requires-clause-text c =
    let none =
    rw c.in_default-strip_prefix-2.is at
    (strip_prefix_char 34 c.args.text.now c.strip_prefix-2.result c.strip_prefix-2.ensures.cases (lit< tt)) in
    sym (not_first 34 c.args.text.now none)
