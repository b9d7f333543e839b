use Rattle.std.proofs.Common.{sym, ◌∙◌}
use Rattle.std.proofs.lemmas.Bool.{false≢true}
use Rattle.a1_notation.proofs.Readings.{not_a1_reading, unmarked_is_loose}
use Rattle.a1_notation.proofs.reading.read_without_sheet.Goals as goal

pub returns-then-not-is_loose : goal.returns-then-not-is_loose
returns-then-not-is_loose c =
    not_a1_reading c.args.text.now (λ most range names.
    false≢true
    (sym c.if-not-is_loose.true
    ∙ c.is_loose.ensures.1 (unmarked_is_loose most c.args.text.now range c.requires.quote c.requires.mark names)))
