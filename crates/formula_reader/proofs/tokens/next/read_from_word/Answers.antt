use Rattle.std.proofs.Common.{lit<, sym, ◌∙◌}
use Rattle.std.proofs.lemmas.Bool.{false≢true}
use Rattle.std.proofs.lemmas.Str.Pattern.{starts_char}
use Rattle.formula_reader.proofs.Titles.{first_titled, first_function, first_reference, first_word}
use Rattle.formula_reader.proofs.tokens.next.read_from_word.Goals as goal

pub returns-in-Some : goal.returns-in-Some
returns-in-Some c =
    rw c.in_ok-title.ensures
    (first_titled c.args.text.now c.args.word.now c.args.behind.now c.requires.whole c.requires.word
    c.in-Some.written c.in-Some.rest.now c.in-Some.ensures)

pub returns-then-starts_with : goal.returns-then-starts_with
returns-then-starts_with c =
    let tells = starts_char 40 c.args.behind.now c.starts_with.result c.starts_with.ensures.cases (lit< tt) (lit< tt) in
    rw c.in_ok-name.ensures
    (first_function c.args.text.now c.args.word.now c.args.behind.now c.requires.whole c.requires.word
    c.in_default.ensures
    (tells.0 c.if-starts_with.true))

pub returns-in-Some-read_reference : goal.returns-in-Some-read_reference
returns-in-Some-read_reference c =
    let tells = starts_char 40 c.args.behind.now c.starts_with.result c.starts_with.ensures.cases (lit< tt) (lit< tt) in
    first_reference c.args.text.now c.args.word.now c.args.behind.now c.requires.whole c.requires.word
    c.in_default.ensures
    (λ bracket. false≢true (sym c.if-starts_with.false ∙ tells.1 bracket))
    c.in-Some-read_reference.written c.in-Some-read_reference.rest.now c.in-Some-read_reference.ensures

pub returns : goal.returns
returns c =
    let tells = starts_char 40 c.args.behind.now c.starts_with.result c.starts_with.ensures.cases (lit< tt) (lit< tt) in
    rw c.in_ok-token.ensures
    (first_word c.args.text.now c.args.word.now c.args.behind.now c.requires.whole c.requires.word c.in_default.ensures
    (λ bracket. false≢true (sym c.if-starts_with.false ∙ tells.1 bracket)) c.in_default-read_reference.ensures)
