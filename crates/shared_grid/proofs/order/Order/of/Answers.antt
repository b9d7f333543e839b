use Rattle.std.proofs.Common.{subst, ◌≡◌, ◌∙◌, ◌<◌, length, get_or, set, inl, inr, sym, ap, arith}
use Rattle.std.proofs.lemmas.Bool.{cases_eq}
use Rattle.std.proofs.lemmas.Grind.{get_or_default_zero}
use Rattle.std.proofs.lemmas.List.{get_or-set_same, get_or-set_other, length-set}
use Rattle.shared_grid.specs.Orders.{IsOrder, continued}
use Rattle.shared_grid.specs.declared.order.Lists.{Lists}
use Rattle.shared_grid.proofs.Continued.{continued_itself}
use Rattle.shared_grid.proofs.order.Order.of.Goals as goal

pub note-requires : goal.note-requires
note-requires c =
    let there : c.loop-index.index < length c.args.numbers.items = omega arith in
    let is : c.index.result.now ≡ get_or c.args.numbers.items c.loop-index.index 0 = c.index.ensures
    ∙ get_or_default_zero c.args.numbers.items c.loop-index.index c.index.result.now there in
    omega (arith, is, c.requires.each.within c.loop-index.index there, c.loop-index.invariant.long)

pub loop-index-preserved : goal.loop-index-preserved
loop-index-preserved c =
    let numbers = c.args.numbers.items in
    let places = c.loop-index.places.items in
    let number = c.index.result.now in
    let line = c.loop-index.index in
    let inv = c.loop-index.invariant in
    let there : c.loop-index.index < length c.args.numbers.items = omega arith in
    let is : c.index.result.now ≡ get_or c.args.numbers.items c.loop-index.index 0 = c.index.ensures
    ∙ get_or_default_zero c.args.numbers.items c.loop-index.index c.index.result.now there in
    record {
      long = ap length c.note.ensures ∙ length-set places number line ∙ inv.long;
      noted = λ k less. elim (cases_eq k line) [
        | inl here ↦
            ap (λ xs. get_or xs (get_or numbers k 0) 0) c.note.ensures
            ∙ ap (λ i. get_or (set places number line) i 0) (ap (λ l. get_or numbers l 0) here ∙ sym is)
            ∙ get_or-set_same places number line 0
            (omega (arith, is, c.requires.each.within c.loop-index.index there, c.loop-index.invariant.long))
            ∙ sym here
        | inr differs ↦
            let earlier : k < line = omega arith in
            ap (λ xs. get_or xs (get_or numbers k 0) 0) c.note.ensures
            ∙ get_or-set_other places number (get_or numbers k 0) line 0 (λ same.
            differs (c.requires.each.apart k line (omega arith) there (same ∙ is)))
            ∙ inv.noted k earlier
      ];
    }

pub invariant_of-result : goal.invariant_of-result
invariant_of-result c =
    let numbers = ap (λ lists. length lists.numbers.items) c.in_ok-lists.ensures in
    let places = ap (λ lists. length lists.places.items) c.in_ok-lists.ensures in
    (omega (arith, numbers, c.len-kept.ensures), omega (arith, numbers, places, c.loop-index.invariant.long))

pub returns-clause-order : goal.returns-clause-order
returns-clause-order c =
    let lists = c.in_ok-lists.ensures in
    let long = ap (λ (l : Lists). length l.numbers.items) c.in_ok-lists.ensures in
    let even = ap (λ (l : Lists). length l.places.items) c.in_ok-lists.ensures in
    let numbers : continued c.in_ok-lists.lists.numbers.items c.len-kept.result ≡ c.args.numbers.items =
    continued_itself c.in_ok-lists.lists.numbers.items c.len-kept.result
    (omega (arith, c.len-kept.ensures, c.args.numbers.ok.0, long))
    ∙ ap (λ (l : Lists). l.numbers.items) c.in_ok-lists.ensures in
    let places : continued c.in_ok-lists.lists.places.items c.len-kept.result ≡ c.loop-index.places.items =
    continued_itself c.in_ok-lists.lists.places.items c.len-kept.result
    (omega (arith, c.len-kept.ensures, c.args.numbers.ok.0, even, c.loop-index.invariant.long))
    ∙ ap (λ (l : Lists). l.places.items) c.in_ok-lists.ensures in
    let order : IsOrder (record {
      numbers = c.args.numbers.items;
      places = c.loop-index.places.items;
      count = c.args.count;
    }) = record {
      count = c.requires.count;
      most = c.requires.most;
      each = c.requires.each;
      long = c.loop-index.invariant.long;
      noted = λ index there. c.loop-index.invariant.noted index
          (omega (arith, there, c.loop-index-test.false, c.len-kept.ensures, c.args.numbers.ok.0));
    } in
    subst IsOrder (λ i. record { numbers = sym numbers i; places = sym places i; count = c.args.count }) order
