use Rattle.std.proofs.Common.{◌≡◌, map, sym, ◌∙◌}
use Rattle.std.specs.Char.{to_ascii_lowercase}
use Rattle.std.proofs.lemmas.Bool.{false≢true}
use Rattle.formula_tests.proofs.KnownSheets.{two_known}
use Rattle.formula_tests.proofs.workbook.Workbook.is_known.Goals as goal

pub returns : goal.returns
returns c = λ known.
    let differ : map to_ascii_lowercase c.as_str-first.result.now
    ≡ map to_ascii_lowercase c.as_str-second.result.now → ⊥ =
    λ same. false≢true (rw (c.eq_ignore_ascii_case.ensures.test.1 same) at known) in
    two_known c.args.self.now.first c.args.self.now.second
    (rw c.as_str-first.ensures at (sym c.is_empty.ensures ∙ c.if-is_empty.false))
    (rw c.as_str-second.ensures at (sym c.is_empty-2.ensures ∙ c.if-is_empty-2.false))
    (rw (c.as_str-first.ensures, c.as_str-second.ensures) at differ)
