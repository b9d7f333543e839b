use Rattle.std.proofs.Common.{lit<}
use Rattle.std.proofs.lemmas.Str.Pattern.{strip_prefix_char}
use Rattle.formula_reader.proofs.Read.{not_first}
use Rattle.formula_reader.proofs.tokens.corner.split_mark.Goals as goal

pub returns-in-None-clause-mark : goal.returns-in-None-clause-mark
returns-in-None-clause-mark c =
    let none =
    rw c.in-None.is at (strip_prefix_char 36 c.args.text.now c.strip_prefix.result c.strip_prefix.ensures.cases
    (lit< tt)) in
    not_first 36 c.args.text.now none
