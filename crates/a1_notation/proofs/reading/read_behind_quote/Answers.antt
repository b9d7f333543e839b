use Rattle.std.proofs.Common.{rules, ap, lit<, string_bytes, ◌∷◌}
use Rattle.std.specs.Prelude.{Err}
use Rattle.std.proofs.lemmas.Result.{err_from_is_err_and}
use Rattle.std.proofs.lemmas.Str.Pattern.{strip_prefix_char}
use Rattle.a1_notation.specs.declared.a1.A1Fault.TheVariants.{NoMemory}
use Rattle.a1_notation.proofs.Readings.{fault_reading, not_a1_reading, unclosed_is_nothing, empty_title_is_nothing, unmarked_is_nothing, quoted_fault, quoted_area_names}
use Rattle.a1_notation.proofs.reading.read_behind_quote.Goals as goal

pub returns-in_err-title : goal.returns-in_err-title
returns-in_err-title c =
    let p = err_from_is_err_and c.from_residual.result c.from_residual.ensures.1 in
    rw (p.1, p.2) (fault_reading (39 ∷ c.args.inside.now) NoMemory (λ e. absurd cc) (λ e. absurd cc))

pub returns-in_default : goal.returns-in_default
returns-in_default c =
    not_a1_reading (39 ∷ c.args.inside.now)
    (unclosed_is_nothing c.args.inside.now (rw c.in_default.is at c.in_ok-title.ensures.none))

pub returns-then-is_empty : goal.returns-then-is_empty
returns-then-is_empty c =
    let title_is = rw c.in-Some.is at c.in_ok-title.ensures.read in
    not_a1_reading (39 ∷ c.args.inside.now)
    (empty_title_is_nothing c.args.inside.now (string_bytes c.in-Some.title) c.in-Some.behind.now title_is
    (search rules))

pub returns-in_default-strip_prefix : goal.returns-in_default-strip_prefix
returns-in_default-strip_prefix c =
    let title_is = rw c.in-Some.is at c.in_ok-title.ensures.read in
    let none =
    rw c.in_default-strip_prefix.is at
    (strip_prefix_char 33 c.in-Some.behind.now c.strip_prefix.result c.strip_prefix.ensures.cases (lit< tt)) in
    not_a1_reading (39 ∷ c.args.inside.now)
    (unmarked_is_nothing c.args.inside.now (string_bytes c.in-Some.title) c.in-Some.behind.now title_is
    (search rules) none)

pub returns-in_err-rows : goal.returns-in_err-rows
returns-in_err-rows c =
    let title_is = rw c.in-Some.is at c.in_ok-title.ensures.read in
    let mark =
    rw c.in-Some-strip_prefix.is at
    (strip_prefix_char 33 c.in-Some.behind.now c.strip_prefix.result c.strip_prefix.ensures.cases (lit< tt)) in
    let p = err_from_is_err_and c.from_residual-in_err-rows.result c.from_residual-in_err-rows.ensures.1 in
    rw (p.1, p.2)
    (quoted_fault c.args.inside.now
    (string_bytes c.in-Some.title) c.in-Some.behind.now c.in-Some-strip_prefix.area.now c.in_err-rows.field-0.0 title_is
    (search rules) mark
    (record {
      none = c.in_err-rows.ensures.none;
      not_a1 = λ e. c.in_err-rows.ensures.not_a1 (ap (λ f. Err f) e);
      past = λ e. c.in_err-rows.ensures.past (ap (λ f. Err f) e);
    }))

pub returns : goal.returns
returns c =
    let title_is = rw c.in-Some.is at c.in_ok-title.ensures.read in
    let mark =
    rw c.in-Some-strip_prefix.is at
    (strip_prefix_char 33 c.in-Some.behind.now c.strip_prefix.result c.strip_prefix.ensures.cases (lit< tt)) in
    record {
      read =
          rw c.of.ensures
          (quoted_area_names 3 c.args.inside.now
          (string_bytes c.in-Some.title) c.in-Some.behind.now c.in-Some-strip_prefix.area.now c.in_ok-rows.rows
          c.in_ok-rows.columns title_is
          (search rules) mark c.in_ok-rows.ensures.area);
      not_a1 = λ e. absurd cc;
      past_zzz = λ e. absurd cc;
    }
