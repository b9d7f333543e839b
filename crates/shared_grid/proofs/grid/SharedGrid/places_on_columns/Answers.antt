use Rattle.std.proofs.Common.{ℕ, sym, subst, arith}
use Rattle.shared_grid.specs.Sheets.{AreOnColumns}
use Rattle.shared_grid.proofs.Listed.{no_columns}
use Rattle.shared_grid.proofs.grid.SharedGrid.places_on_columns.Goals as goal

pub loop-column-init : goal.loop-column-init
loop-column-init g c =
    subst (AreOnColumns c.args.first c.args.first c.args.self.now.table) (sym c.new-places.ensures.items)
    (no_columns c.args.first c.args.self.now.table)

pub loop-column-preserved : goal.loop-column-preserved
loop-column-preserved g c = c.in_ok-put_column.ensures c.args.first c.loop-column.invariant

pub returns : goal.returns
returns g c = subst (λ (column : ℕ). AreOnColumns c.args.first column c.args.self.now.table c.loop-column.places.items)
    (omega arith)
    c.loop-column.invariant
