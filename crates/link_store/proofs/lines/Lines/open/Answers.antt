use Rattle.std.proofs.Common.{◌≡◌, ◌+◌, ◌-◌, refl, subst, arith}
use Rattle.std.proofs.lemmas.List.Sorted.{IsPermutation-refl, IsPermutation-trans, IsPermutation-swap}
use Rattle.link_store.proofs.Opening.{StoodAt, opened_none, opened_more}
use Rattle.link_store.proofs.lines.Lines.open.Goals as goal

pub loop-moved-preserved : goal.loop-moved-preserved
loop-moved-preserved g c =
    let old = c.args.self.now in
    let inv = c.loop-moved.invariant in
    let line = c.loop-moved.self.count - 1 - c.loop-moved.moved in
    let edge : old.count - c.loop-moved.moved ≡ line + 1 = omega (arith, inv.count) in
    let next : line ≡ old.count - (c.loop-moved.moved + 1) = omega (arith, inv.count) in
    record {
      links = inv.links;
      count = inv.count;
      long = omega (arith, c.swap.ensures.len, inv.long, c.swap.new.self.ok.0, c.loop-moved.self.lists.ok.0);
      numbers = IsPermutation-trans old.lists.items c.loop-moved.self.lists.items c.swap.new.self.items inv.numbers
          (IsPermutation-swap c.loop-moved.self.lists.items c.swap.new.self.items line (line + c.args.count)
          (omega (arith, inv.count, inv.long)) (omega (arith, inv.count, inv.long)) c.swap.ensures.items);
      order = λ index. subst (λ at. StoodAt old.lists.items c.swap.new.self.items at c.args.count old.count index) next
          (opened_more old.lists.items c.loop-moved.self.lists.items c.swap.new.self.items line c.args.count
          old.count c.requires.at.1 (omega (arith, inv.count))
          (c.swap.ensures.by_index.0 0) (c.swap.ensures.by_index.1 0)
          (λ k one two. c.swap.ensures.by_index.2 k 0 one two)
          (λ i. subst (λ at. StoodAt old.lists.items c.loop-moved.self.lists.items at c.args.count old.count i)
          edge (inv.order i)) index);
      steps = omega (arith, c.add.ensures, inv.steps);
    }

pub loop-moved-init : goal.loop-moved-init
loop-moved-init g c = record {
  links = refl;
  count = refl;
  long = refl;
  numbers = IsPermutation-refl c.args.self.now.lists.items;
  order = λ index. subst (λ at. StoodAt c.args.self.now.lists.items c.args.self.now.lists.items at c.args.count
      c.args.self.now.count index) (omega arith)
      (opened_none c.args.self.now.lists.items c.args.count c.args.self.now.count index);
  steps = omega arith;
}

pub returns-clause-order : goal.returns-clause-order
returns-clause-order g c = λ index _.
    subst (λ at. StoodAt c.args.self.now.lists.items c.loop-moved.self.lists.items at c.args.count
    c.args.self.now.count index)
    (omega (arith, c.loop-moved.auto.moved-end, c.loop-moved-test.false)) (c.loop-moved.invariant.order index)
