use Rattle.std.proofs.Common.{◌+◌, subst, inl, inr}
use Rattle.std.specs.Prelude.{IsTrue}
use Rattle.std.proofs.lemmas.Bool.{cases_lt, false≢true}
use Rattle.world_model.specs.Sound.{place_sheet_with}
use Rattle.dimension_ops.proofs.PastLines.{at_most_lines, past_refused}
use Rattle.dimension_ops.proofs.lines.insert_lines.Goals as goal

pub returns-else-fits : goal.returns-else-fits
returns-else-fits c =
    let there = at_most_lines c.args.at c.lines_of-lines.result c.args.axis
    (place_sheet_with c.args.sheet c.args.book.now.sheets) c.requires.there c.lines_of-lines.ensures in
    past_refused c.args.book.now c.args.sheet c.args.at c.args.count c.lines_of-lines.result c.args.axis c.past.result
    c.stays_sound.ensures.sheets c.requires.there c.lines_of-lines.ensures
    (elim (cases_lt (c.lines_of-lines.result + c.args.count) 4294967296) [
      | inl less ↦ absurd (false≢true (subst IsTrue c.if-fits.false
          (c.fits.ensures.1 (there, c.requires.some, less))))
      | inr many ↦ many
    ])
    c.past.ensures
