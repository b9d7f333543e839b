use Rattle.std.proofs.Common.{sym, ◌∙◌}
use Rattle.std.proofs.lemmas.Bool.{false≢true}
use Rattle.named_ranges.proofs.Cells.{run_is, row_told, cell_from_parts, letters_from_cell, row_from_cell}
use Rattle.named_ranges.proofs.name.is_cell.Goals as goal

pub returns-then-is_some : goal.returns-then-is_some
returns-then-is_some c =
    let parts = run_is _ _ _ c.split.ensures.whole c.split.ensures.run.all c.split.ensures.run.ends in
    let row = row_told c.split.result.1.now c.read_row.result c.read_row.ensures.row c.read_row.ensures.none in (
      λ yes. cell_from_parts c.args.text.now c.split.result.0.now c.split.result.1.now
          c.read_column.result parts.0 parts.1
          c.read_column.ensures.column (sym c.is_some.ensures ∙ c.if-is_some.true)
          (row.0 (sym c.is_some-then-is_some.ensures ∙ yes)),
      λ cell. c.is_some-then-is_some.ensures ∙ row.1 (row_from_cell _ _ parts.1 cell),
    )

pub returns-else-is_some : goal.returns-else-is_some
returns-else-is_some c =
    let parts = run_is _ _ _ c.split.ensures.whole c.split.ensures.run.all c.split.ensures.run.ends in (
      λ yes. absurd (false≢true (sym c.if-is_some.false ∙ yes)),
      λ cell. c.is_some.ensures ∙ c.read_column.ensures.letters.1 (letters_from_cell _ _ parts.0 cell),
    )
