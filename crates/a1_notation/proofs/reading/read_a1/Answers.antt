use Rattle.std.proofs.Common.{◌≡◌, ◌∷◌, lit<}
use Rattle.std.proofs.lemmas.Str.Pattern.{strip_prefix_char}
use Rattle.a1_notation.proofs.Runs.{not_first}
use Rattle.a1_notation.proofs.Readings.{exact_named, one_reading}
use Rattle.a1_notation.proofs.reading.read_a1.Goals as goal

pub read_unquoted-requires : goal.read_unquoted-requires
read_unquoted-requires c =
    not_first 39 c.args.text.now (lit< tt)
    (rw c.in-None.is at (strip_prefix_char 39 c.args.text.now c.strip_prefix.result c.strip_prefix.ensures.cases
    (lit< tt)))

pub returns-in-Some-clause-named : goal.returns-in-Some-clause-named
returns-in-Some-clause-named c =
    let text : c.args.text.now ≡ 39 ∷ c.in-Some.inside.now =
    rw c.in-Some.is at (strip_prefix_char 39 c.args.text.now c.strip_prefix.result c.strip_prefix.ensures.cases
    (lit< tt)) in
    λ range names. exact_named
    (39 ∷ c.in-Some.inside.now) c.read_behind_quote.result range c.read_behind_quote.ensures (rw text at names)

pub returns-in-Some-clause-one_reading : goal.returns-in-Some-clause-one_reading
returns-in-Some-clause-one_reading c = λ most one other. one_reading most c.args.text.now one other

pub returns-in-None-clause-named : goal.returns-in-None-clause-named
returns-in-None-clause-named c =
    λ range names. exact_named c.args.text.now c.read_unquoted.result range c.read_unquoted.ensures names

pub returns-in-None-clause-one_reading : goal.returns-in-None-clause-one_reading
returns-in-None-clause-one_reading c = λ most one other. one_reading most c.args.text.now one other
