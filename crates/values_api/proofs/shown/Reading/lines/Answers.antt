use Rattle.std.proofs.Common.{arith, get_or, ◌∙◌, ap}
use Rattle.std.proofs.lemmas.List.{get_or_read}
use Rattle.values_api.specs.Reading.{cell_read}
use Rattle.values_api.specs.Shown.{line_shown}
use Rattle.values_api.proofs.Ending.{made_next}
use Rattle.values_api.proofs.LinesRead.{few_lines, lines_are}
use Rattle.values_api.proofs.shown.Reading.lines.Goals as goal

pub overflow_cast-line : goal.overflow_cast-line
overflow_cast-line c =
    let few = few_lines c.args.self.now c.requires c.in_ok-ends.ends.items c.in_ok-ends.ensures in
    omega (arith, few, c.loop-line-test.true, c.len-line-end.ensures)

pub loop-line-preserved : goal.loop-line-preserved
loop-line-preserved c =
    made_next (λ line. line_shown (cell_read c.args.self.now line) (get_or c.in_ok-ends.ends.items line 0))
    c.loop-line.line c.loop-line.lines.items c.push.new.self.items
    c.in_ok-line.field-0 c.in_ok-push.ensures.items
    (c.in_ok-line.ensures ∙ ap (line_shown (cell_read c.args.self.now c.loop-line.line))
    (get_or_read c.in_ok-ends.ends.items c.loop-line.line c.index.result.now
    (omega (arith, c.loop-line-test.true, c.len-line-end.ensures)) c.index.ensures 0)) c.loop-line.invariant

pub returns : goal.returns
returns c =
    c.of.ensures ∙ c.cut_empty_end.ensures
    ∙ lines_are c.args.self.now c.in_ok-ends.ends.items c.in_ok-ends.ensures c.loop-line.line
    c.loop-line.lines.items (omega (arith, c.loop-line-test.false, c.loop-line.auto.line-end, c.len-line-end.ensures))
    c.loop-line.invariant
