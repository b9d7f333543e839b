use Rattle.std.proofs.Common.{◌≡◌, ◌≤◌, ◌<◌, ◌∷◌, [], ◌++◌, ℕ, length, get_or, inl, inr, ap, sym, ◌∙◌, arith}
use Rattle.std.specs.List.{each_same}
use Rattle.std.proofs.Math.Seq.{get_or-append_seam}
use Rattle.std.proofs.lemmas.Bool.{cases_lt}
use Rattle.std.proofs.lemmas.List.{length-append, get_or_append_left}
use Rattle.std.specs.Prelude.{max}
use Rattle.shared_grid.specs.Orders.{number_of}
use Rattle.shared_grid.proofs.Continued.{continued-entry, entry_behind, entry_listed, length-continued, numbers_on}
use Rattle.shared_grid.proofs.order.Order.numbers_for.Goals as goal

pub loop-number-init : goal.loop-number-init
loop-number-init c =
    let xs = c.self.inside.lists.numbers.items in
    let copied : c.in_ok-numbers.numbers.items ≡ c.self.inside.lists.numbers.items =
    each_same _ _ c.in_ok-numbers.ensures.cases.0 ∙ ap (λ lists. lists.numbers.items) c.value.ensures in
    let long : length c.in_ok-numbers.numbers.items ≡ c.len-number.result =
    omega (arith, c.len-number.ensures, c.in_ok-numbers.numbers.ok.0) in
    let kept : c.self.inside.kept ≡ length c.args.self.now.numbers =
    sym (length-continued xs c.self.inside.kept c.self.invariant.0)
    ∙ ap (λ order. length order.numbers) c.self.view_is in
    let lengths = ap length copied in
    record {
      long = long;
      first = λ index there less.
          ap (λ ys. get_or ys index 0) copied
          ∙ sym (entry_listed xs index (omega (arith, less, long, lengths)))
          ∙ sym (continued-entry xs c.self.inside.kept c.self.invariant.0 index (omega (arith, there, kept)))
          ∙ ap (λ order. number_of order index) c.self.view_is;
      behind = λ index past less. absurd (omega (arith, past, less, kept, lengths, long, c.self.invariant.0));
      most = omega (arith, kept, lengths, long, c.self.invariant.0);
    }

pub loop-number-preserved : goal.loop-number-preserved
loop-number-preserved c =
    let xs = c.self.inside.lists.numbers.items in
    let before = c.loop-number.numbers.items in
    let number = c.loop-number.number in
    let inv = c.loop-number.invariant in
    let copied : c.in_ok-numbers.numbers.items ≡ c.self.inside.lists.numbers.items =
    each_same _ _ c.in_ok-numbers.ensures.cases.0 ∙ ap (λ lists. lists.numbers.items) c.value.ensures in
    let lengths = ap length copied in
    let start : length c.self.inside.lists.numbers.items ≤ c.loop-number.number =
    omega (arith, c.len-number.ensures, c.in_ok-numbers.numbers.ok.0, lengths, c.loop-number.auto.number) in
    let kept : c.self.inside.kept ≡ length c.args.self.now.numbers =
    sym (length-continued xs c.self.inside.kept c.self.invariant.0)
    ∙ ap (λ order. length order.numbers) c.self.view_is in
    let pushed = c.in_ok-push.ensures.items in
    let old : (index : ℕ) → index < c.loop-number.number
    → get_or c.push.new.self.items index 0 ≡ get_or c.loop-number.numbers.items index 0 = λ index less.
    ap (λ zs. get_or zs index 0) pushed
    ∙ get_or_append_left before (number ∷ []) 0 index (omega (arith, less, inv.long)) in
    let new : (index : ℕ) → index ≡ c.loop-number.number → get_or c.push.new.self.items index 0 ≡ index = λ index last.
    ap (λ zs. get_or zs index 0) pushed
    ∙ ap (λ i. get_or (before ++ number ∷ []) i 0) (last ∙ sym inv.long)
    ∙ get_or-append_seam before number [] 0 ∙ sym last in
    record {
      long = omega (arith, inv.long, ap length pushed, length-append before (number ∷ []));
      first = λ index there less. elim (cases_lt index number) [
        | inl earlier ↦ old index earlier ∙ inv.first index there earlier
        | inr last ↦ new index (omega (arith, less, last))
            ∙ sym (entry_behind xs index (omega (arith, last, start)))
            ∙ sym (continued-entry xs c.self.inside.kept c.self.invariant.0 index (omega (arith, there, kept)))
            ∙ ap (λ order. number_of order index) c.self.view_is
      ];
      behind = λ index past less. elim (cases_lt index number) [
        | inl earlier ↦ old index earlier ∙ inv.behind index past earlier
        | inr last ↦ new index (omega (arith, less, last))
      ];
      most = omega (arith, c.loop-number-test.true, c.max-number-end.ensures, kept);
    }

pub returns : goal.returns
returns c =
    let inv = c.loop-number.invariant in
    let kept : c.self.inside.kept ≡ length c.args.self.now.numbers =
    sym (length-continued c.self.inside.lists.numbers.items c.self.inside.kept c.self.invariant.0)
    ∙ ap (λ order. length order.numbers) c.self.view_is in
    let long : length c.loop-number.numbers.items ≡ max (length c.args.self.now.numbers) c.args.count =
    omega (arith, inv.long, inv.most, c.loop-number-test.false, c.max-number-end.ensures, kept) in
    record {
      each = numbers_on c.args.self.now.numbers c.loop-number.numbers.items c.requires.order.each (omega (arith, long))
          (λ i there. inv.first i there (omega (arith, long, inv.long, there)))
          (λ i past there. inv.behind i past (omega (arith, inv.long, there)));
      first = λ i there. inv.first i there (omega (arith, long, inv.long, there));
      long = long;
    }
