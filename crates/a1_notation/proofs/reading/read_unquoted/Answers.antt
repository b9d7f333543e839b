use Rattle.std.proofs.Common.{sym, ◌∙◌, ap, lit<}
use Rattle.std.specs.Prelude.{Err}
use Rattle.std.proofs.lemmas.Bool.{false≢true}
use Rattle.std.proofs.lemmas.Result.{err_from_is_err_and}
use Rattle.std.proofs.lemmas.Str.Pattern.{split_parts}
use Rattle.a1_notation.proofs.Areas.{all_other_than}
use Rattle.a1_notation.proofs.Readings.{not_a1_reading, marked, marked_fault}
use Rattle.a1_notation.proofs.reading.read_unquoted.Goals as goal

pub returns-then-not-is_loose : goal.returns-then-not-is_loose
returns-then-not-is_loose c =
    let parts =
    rw c.in-Some.is at (split_parts 33 c.args.text.now c.split_once.result c.split_once.ensures.cases (lit< tt)) in
    not_a1_reading c.args.text.now (λ most range names.
    let found = marked most c.args.text.now c.in-Some.title.now c.in-Some.area.now range c.requires parts.0
    (all_other_than 33 c.in-Some.title.now parts.1) names in
    false≢true (sym c.if-not-is_loose.true ∙ c.is_loose.ensures.1 found.loose))

pub returns-in_err-rows-in-Some : goal.returns-in_err-rows-in-Some
returns-in_err-rows-in-Some c =
    let p = err_from_is_err_and c.from_residual.result c.from_residual.ensures.1 in
    let parts =
    rw c.in-Some.is at (split_parts 33 c.args.text.now c.split_once.result c.split_once.ensures.cases (lit< tt)) in
    let fault = c.in_err-rows-in-Some.field-0.0 in
    rw (p.1, p.2)
    (marked_fault c.args.text.now c.in-Some.title.now c.in-Some.area.now fault c.requires parts.0
    (all_other_than 33 c.in-Some.title.now parts.1)
    (c.is_loose.ensures.0 c.if-not-is_loose.false)
    (record {
      none = c.in_err-rows-in-Some.ensures.none;
      not_a1 = λ e. c.in_err-rows-in-Some.ensures.not_a1 (ap (λ f. Err f) e);
      past = λ e. c.in_err-rows-in-Some.ensures.past (ap (λ f. Err f) e);
    }))

pub read_without_sheet-requires-clause-mark : goal.read_without_sheet-requires-clause-mark
read_without_sheet-requires-clause-mark c =
    all_other_than 33 c.args.text.now
    (rw c.in-None.is at (split_parts 33 c.args.text.now c.split_once.result c.split_once.ensures.cases (lit< tt)))
