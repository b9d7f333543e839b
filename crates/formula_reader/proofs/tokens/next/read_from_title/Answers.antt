use Rattle.std.proofs.Common.{rules, string_bytes}
use Rattle.formula_reader.proofs.FirstBytes.{unclosed_title, empty_title, no_reference_behind, quoted_title_read}
use Rattle.formula_reader.proofs.tokens.next.read_from_title.Goals as goal

pub returns-in_default : goal.returns-in_default
returns-in_default c = unclosed_title c.args.inside.now (rw c.in_default.is at c.in_ok-title.ensures.none)

pub returns-then-is_empty : goal.returns-then-is_empty
returns-then-is_empty c =
    empty_title c.args.inside.now (string_bytes c.in-Some.title) c.in-Some.behind.now
    (rw c.in-Some.is at c.in_ok-title.ensures.read) (rw c.in-Some.is at c.in_ok-title.ensures.one) (search rules)

pub returns-in_default-read_behind_title : goal.returns-in_default-read_behind_title
returns-in_default-read_behind_title c =
    no_reference_behind c.args.inside.now (string_bytes c.in-Some.title) c.in-Some.behind.now
    (rw c.in-Some.is at c.in_ok-title.ensures.read)
    (rw c.in-Some.is at c.in_ok-title.ensures.one) c.in_default-read_behind_title.ensures

pub returns : goal.returns
returns c =
    rw c.of-title.ensures
    (quoted_title_read c.args.inside.now (string_bytes c.in-Some.title) c.in-Some.behind.now
    (rw c.in-Some.is at c.in_ok-title.ensures.read) (rw c.in-Some.is at c.in_ok-title.ensures.one) (search rules)
    c.in-Some-read_behind_title.written c.in-Some-read_behind_title.rest.now c.in-Some-read_behind_title.ensures)
