use Rattle.std.proofs.Common.{lit<}
use Rattle.std.proofs.lemmas.Str.Pattern.{strip_prefix_char}
use Rattle.formula_reader.proofs.References.{no_colon, no_second, not_together, together, corner_room}
use Rattle.formula_reader.proofs.tokens.reference.read_second.Goals as goal

pub returns-in_err-second : goal.returns-in_err-second
returns-in_err-second c =
    let none =
    rw c.in_err-second.was at (strip_prefix_char 58 c.args.text.now c.strip_prefix.result c.strip_prefix.ensures.cases
    (lit< tt)) in
    rw c.from_residual.ensures (no_colon c.args.one c.args.text.now none)

pub returns-in_err-other : goal.returns-in_err-other
returns-in_err-other c =
    let colon =
    rw c.in_ok-second.was at (strip_prefix_char 58 c.args.text.now c.strip_prefix.result c.strip_prefix.ensures.cases
    (lit< tt)) in
    rw c.from_residual-in_err-other.ensures
    (no_second c.args.one c.args.text.now c.in_ok-second.second.now colon c.in_err-other.ensures)

pub written_between-requires-clause-other : goal.written_between-requires-clause-other
written_between-requires-clause-other c =
    corner_room c.a1_laws.ensures c.in_ok-other.ensures.found.lexeme c.in_ok-other.other
    c.in_ok-other.ensures.found.is.corner_is

pub returns-in_err-written : goal.returns-in_err-written
returns-in_err-written c =
    let colon =
    rw c.in_ok-second.was at (strip_prefix_char 58 c.args.text.now c.strip_prefix.result c.strip_prefix.ensures.cases
    (lit< tt)) in
    rw c.from_residual-in_err-written.ensures
    (not_together c.args.one c.in_ok-other.other c.args.text.now c.in_ok-second.second.now c.in_ok-other.rest.now colon
    c.in_ok-other.ensures c.in_err-written.ensures.none)

pub returns : goal.returns
returns c =
    let colon =
    rw c.in_ok-second.was at (strip_prefix_char 58 c.args.text.now c.strip_prefix.result c.strip_prefix.ensures.cases
    (lit< tt)) in
    together c.args.one c.in_ok-other.other c.args.text.now c.in_ok-second.second.now c.in_ok-other.rest.now
    c.in_ok-written.written colon c.in_ok-other.ensures c.in_ok-written.ensures.found
