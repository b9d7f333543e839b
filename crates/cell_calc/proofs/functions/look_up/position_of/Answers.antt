use Rattle.std.proofs.Common.{true, false, subst, map, sym, ◌≡◌, ◌∙◌}
use Rattle.cell_calc.specs.Lent.{place_and_value, filled_from}
use Rattle.cell_calc.proofs.LookUps.{block_is}
use Rattle.cell_calc.proofs.functions.look_up.position_of.Goals as goal

pub returns-then-is_block : goal.returns-then-is_block
returns-then-is_block c = λ all are.
    block_is c.args.key.now c.args.cells.now all true are (sym c.if-is_block.true ∙ c.is_block.ensures)

pub returns-else-is_block : goal.returns-else-is_block
returns-else-is_block c = λ all are.
    c.place_among.ensures all.values
    (subst (λ cells. map place_and_value cells ≡ filled_from 0 all.values) (sym c.as_slice.ensures.value) are.filled)
    ∙ block_is c.args.key.now c.args.cells.now all false are (sym c.if-is_block.false ∙ c.is_block.ensures)
