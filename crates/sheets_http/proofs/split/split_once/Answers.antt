use Rattle.std.proofs.Common.{◌+◌, ◌∙◌, List, ℕ, take, drop, sym, ap, subst, arith}
use Rattle.std.specs.Prelude.{Some, None}
use Rattle.std.proofs.lemmas.Str.{lead_after_ascii}
use Rattle.std.proofs.lemmas.Slice.{between_from_start}
use Rattle.memchr.specs.Find.{IsFirstByte, is_byte}
use Rattle.sheets_http.proofs.SplitLemmas.{first_mark, no_mark, mark_is_ascii}
use Rattle.sheets_http.proofs.split.split_once.Goals as goal

pub range_from-requires : goal.range_from-requires
range_from-requires c =
    let first = subst (λ (t : List ℕ). IsFirstByte (is_byte c.args.mark) t (Some c.in-Some.at)) c.as_bytes.ensures.value
    c.in-Some.ensures in
    let ascii = mark_is_ascii c.args.mark c.args.text.now c.in-Some.at c.requires.ascii first in
    λ some. (
      omega (arith, first.0.high),
      λ inside high. lead_after_ascii c.args.text.now c.in-Some.at c.utf8.text ascii inside high,
    )

pub returns-in-Some : goal.returns-in-Some
returns-in-Some c =
    let first = subst (λ (t : List ℕ). IsFirstByte (is_byte c.args.mark) t (Some c.in-Some.at)) c.as_bytes.ensures.value
    c.in-Some.ensures in
    let here = first_mark (is_byte c.args.mark) c.args.text.now c.in-Some.at first in (
      c.range.ensures.value
          ∙ between_from_start c.args.text.now c.in-Some.at
          ∙ ap (λ n. take n c.args.text.now) (sym here),
      c.range_from.ensures.value ∙ ap (λ n. drop (n + 1) c.args.text.now) (sym here),
      omega (arith, here, first.0.high),
    )

pub returns-in-None : goal.returns-in-None
returns-in-None c =
    no_mark (is_byte c.args.mark) c.args.text.now
    (subst (λ (t : List ℕ). IsFirstByte (is_byte c.args.mark) t None) c.as_bytes.ensures.value c.in-None.ensures)
