use Rattle.std.proofs.Common.{ℕ, sym, subst, arith}
use Rattle.shared_grid.specs.Sheets.{AreOnRows}
use Rattle.shared_grid.proofs.Listed.{no_rows}
use Rattle.shared_grid.proofs.grid.SharedGrid.places_on_rows.Goals as goal

pub loop-row-init : goal.loop-row-init
loop-row-init g c = subst (AreOnRows c.args.first c.args.first c.args.self.now.table) (sym c.in_ok-places.ensures.items)
    (no_rows c.args.first c.args.self.now.table)

pub loop-row-preserved : goal.loop-row-preserved
loop-row-preserved g c = c.in_ok-places-2.ensures c.args.first c.loop-row.invariant

pub returns : goal.returns
returns g c =
    subst (λ (row : ℕ). AreOnRows c.args.first row c.args.self.now.table c.loop-row.places.items) (omega arith)
    c.loop-row.invariant
