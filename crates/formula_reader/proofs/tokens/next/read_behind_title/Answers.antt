use Rattle.std.proofs.Common.{lit<}
use Rattle.std.proofs.lemmas.Str.Pattern.{strip_prefix_char}
use Rattle.formula_reader.specs.Reading.{seen}
use Rattle.formula_reader.proofs.Titles.{behind_title, no_title_mark}
use Rattle.formula_reader.proofs.tokens.next.read_behind_title.Goals as goal

pub returns-in_err-strip_prefix : goal.returns-in_err-strip_prefix
returns-in_err-strip_prefix c =
    let none =
    rw c.in_err-strip_prefix.was at
    (strip_prefix_char 33 c.args.text.now c.strip_prefix.result c.strip_prefix.ensures.cases (lit< tt)) in
    rw c.from_residual.ensures (no_title_mark c.args.text.now none)

pub returns : goal.returns
returns c =
    let mark =
    rw c.in_ok-strip_prefix.was at
    (strip_prefix_char 33 c.args.text.now c.strip_prefix.result c.strip_prefix.ensures.cases (lit< tt)) in
    behind_title c.args.text.now c.in_ok-strip_prefix.field-0.now
    (seen c.read_reference.result) mark c.read_reference.ensures
