use Rattle.std.specs.Prelude.{if◌then◌else◌}
use Rattle.std.proofs.Common.{ℕ, ◌∙◌, ◌+◌, ◌<◌, length, sym, ap, subst, get_or, arith}
use Rattle.grid_range.specs.declared.axis.Axis.TheVariants.{Columns}
use Rattle.link_store.specs.Crossings.{LosesItems}
use Rattle.link_store.proofs.LineLists.{list_within}
use Rattle.link_store.proofs.Emptied.{lines_trans, kept_elsewhere, line_emptied}
use Rattle.link_store.proofs.cells.Cells.empty_column.Goals as goal

pub drop_in_column-requires-clause-list : goal.drop_in_column-requires-clause-list
drop_in_column-requires-clause-list g c =
    let inv = c.loop.invariant in
    subst (λ list. list < length c.loop.self.columns.links)
    (sym (c.list-list.ensures.value ∙ ap (λ xs. get_or xs c.args.column 0) (sym inv.lines.columns)))
    (list_within c.loop.self.columns inv.grid.columns_are c.args.column
    (omega (arith, c.requires.there, inv.lines.size.columns, inv.grid.columns_are.count)))

pub loop-preserved : goal.loop-preserved
loop-preserved g c =
    let inv = c.loop.invariant in
    let made = c.drop_in_column.ensures in
    record {
      grid = made.grid;
      lines = lines_trans Columns c.args.self.now c.loop.self c.drop_in_column.new.self inv.lines made.lost.lines;
      others = λ place differs.
          kept_elsewhere Columns c.loop.self c.drop_in_column.new.self c.args.column c.list-list.result
          c.drop_in_column.result inv.grid made.grid made.lost
          (c.list-list.ensures.value ∙ ap (λ xs. get_or xs c.args.column 0) (sym inv.lines.columns))
          (omega (arith, c.requires.there, inv.lines.size.columns)) place differs
          ∙ inv.others place differs;
      few = omega (arith, made.few, inv.few);
      steps = omega (arith, made.steps, inv.steps, ap {B = ℕ} (λ b. if b then 0 else 1) c.loop-test.true);
    }

pub returns-clause-lost : goal.returns-clause-lost
returns-clause-lost g c =
    let inv = c.loop.invariant in
    let made = c.drop_in_column.ensures in
    let none = made.lost.none c.loop-test.false in
    subst (LosesItems Columns c.args.column (c.args.column + 1) c.args.self.now) (sym none.0)
    (line_emptied Columns c.args.self.now c.loop.self c.args.column c.list-list.result inv.grid inv.lines
    (c.list-list.ensures.value ∙ ap (λ xs. get_or xs c.args.column 0) (sym inv.lines.columns)) none.1 inv.others)
