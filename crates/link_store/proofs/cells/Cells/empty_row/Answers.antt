use Rattle.std.specs.Prelude.{if◌then◌else◌}
use Rattle.std.proofs.Common.{ℕ, ◌∙◌, ◌+◌, ◌<◌, length, sym, ap, subst, get_or, arith}
use Rattle.grid_range.specs.declared.axis.Axis.TheVariants.{Rows}
use Rattle.link_store.specs.Crossings.{LosesItems}
use Rattle.link_store.proofs.LineLists.{list_within}
use Rattle.link_store.proofs.Emptied.{lines_trans, kept_elsewhere, line_emptied}
use Rattle.link_store.proofs.cells.Cells.empty_row.Goals as goal

pub drop_in_row-requires-clause-list : goal.drop_in_row-requires-clause-list
drop_in_row-requires-clause-list g c =
    let inv = c.loop.invariant in
    subst (λ list. list < length c.loop.self.rows.links)
    (sym (c.list-list.ensures.value ∙ ap (λ xs. get_or xs c.args.row 0) (sym inv.lines.rows)))
    (list_within c.loop.self.rows inv.grid.rows_are c.args.row
    (omega (arith, c.requires.there, inv.lines.size.rows, inv.grid.rows_are.count)))

pub loop-preserved : goal.loop-preserved
loop-preserved g c =
    let inv = c.loop.invariant in
    let made = c.drop_in_row.ensures in
    record {
      grid = made.grid;
      lines = lines_trans Rows c.args.self.now c.loop.self c.drop_in_row.new.self inv.lines made.lost.lines;
      others = λ place differs.
          kept_elsewhere Rows c.loop.self c.drop_in_row.new.self c.args.row c.list-list.result c.drop_in_row.result
          inv.grid made.grid made.lost
          (c.list-list.ensures.value ∙ ap (λ xs. get_or xs c.args.row 0) (sym inv.lines.rows))
          (omega (arith, c.requires.there, inv.lines.size.rows)) place differs
          ∙ inv.others place differs;
      few = omega (arith, made.few, inv.few);
      steps = omega (arith, made.steps, inv.steps, ap {B = ℕ} (λ b. if b then 0 else 1) c.loop-test.true);
    }

pub returns-clause-lost : goal.returns-clause-lost
returns-clause-lost g c =
    let inv = c.loop.invariant in
    let made = c.drop_in_row.ensures in
    let none = made.lost.none c.loop-test.false in
    subst (LosesItems Rows c.args.row (c.args.row + 1) c.args.self.now) (sym none.0)
    (line_emptied Rows c.args.self.now c.loop.self c.args.row c.list-list.result inv.grid inv.lines
    (c.list-list.ensures.value ∙ ap (λ xs. get_or xs c.args.row 0) (sym inv.lines.rows)) none.1 inv.others)
