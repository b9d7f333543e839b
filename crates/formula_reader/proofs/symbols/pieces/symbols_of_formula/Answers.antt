use Rattle.std.proofs.Common.{◌∙◌, sym, lit<}
use Rattle.std.proofs.lemmas.Str.Pattern.{strip_prefix_char}
use Rattle.formula_reader.proofs.FormulaSymbols.{only_same_ok, behind_sign, no_sign}
use Rattle.formula_reader.proofs.symbols.pieces.symbols_of_formula.Goals as goal

pub returns-in-Some-strip_prefix : goal.returns-in-Some-strip_prefix
returns-in-Some-strip_prefix c =
    let text = c.as_str.result.now in
    let begins =
    rw c.in-Some-strip_prefix.is at (strip_prefix_char 61 text c.strip_prefix.result c.strip_prefix.ensures.cases
    (lit< tt)) in
    only_same_ok _ _ _ c.symbols_from.result
    (behind_sign c.args.pieces.now c.in-Some.later.now c.in-Some.first.now c.in-Text.text
    c.in-Some-strip_prefix.behind.now
    c.in-Some.ensures.cases.0 c.in-Text.is (sym c.as_str.ensures ∙ begins))
    c.symbols_from.ensures

pub returns-in-None : goal.returns-in-None
returns-in-None c =
    let text = c.as_str.result.now in
    let unsigned =
    rw (c.in-None.is, c.as_str.ensures) at
    (strip_prefix_char 61 text c.strip_prefix.result c.strip_prefix.ensures.cases (lit< tt)) in
    no_sign c.args.pieces.now c.in-Some.later.now c.in-Some.first.now c.in-Text.text c.in-Some.ensures.cases.0
    c.in-Text.is unsigned
