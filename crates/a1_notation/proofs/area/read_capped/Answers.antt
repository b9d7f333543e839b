use Rattle.std.proofs.Common.{lit<}
use Rattle.std.proofs.lemmas.Str.Pattern.{split_parts}
use Rattle.a1_notation.proofs.Areas.{with_colon_answer, without_colon_answer}
use Rattle.a1_notation.proofs.area.read_capped.Goals as goal

pub returns-in-Some-clause-area : goal.returns-in-Some-clause-area
returns-in-Some-clause-area c =
    let parts =
    rw c.in-Some.is at (split_parts 58 c.args.text.now c.split_once.result c.split_once.ensures.cases (lit< tt)) in
    (with_colon_answer c.args.text.now c.in-Some.first.now c.in-Some.second.now c.read_between.result parts.0 parts.1
    c.read_between.ensures.area c.read_between.ensures.none).0

pub returns-in-Some-clause-none : goal.returns-in-Some-clause-none
returns-in-Some-clause-none c =
    let parts =
    rw c.in-Some.is at (split_parts 58 c.args.text.now c.split_once.result c.split_once.ensures.cases (lit< tt)) in
    (with_colon_answer c.args.text.now c.in-Some.first.now c.in-Some.second.now c.read_between.result parts.0 parts.1
    c.read_between.ensures.area c.read_between.ensures.none).1

pub returns-in-None-clause-none : goal.returns-in-None-clause-none
returns-in-None-clause-none c =
    let none =
    rw c.in-None.is at (split_parts 58 c.args.text.now c.split_once.result c.split_once.ensures.cases (lit< tt)) in
    without_colon_answer c.args.text.now c.read_cell.result none c.read_cell.ensures.none
