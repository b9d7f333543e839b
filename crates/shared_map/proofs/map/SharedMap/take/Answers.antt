use Rattle.std.proofs.Common.{◌≡◌, true, not, ap, sym, ◌∙◌, arith, ◌-◌, ◌<◌}
use Rattle.std.specs.Prelude.{None, is_some, Result, Ok, Err, OnErr}
use Rattle.std.specs.FinMap as map
use Rattle.shared_map.specs.Root.{in_root}
use Rattle.shared_map.specs.Map.{map_of}
use Rattle.shared_map.proofs.Keys.{is_some-copied}
use Rattle.shared_map.proofs.Maps.{get-map_of, taken, taken_none, count_taken, count_positive, none_of}
use Rattle.shared_map.proofs.map.SharedMap.take.Goals as goal

pub returns-then-is_none-clause-item : goal.returns-then-is_none-clause-item
returns-then-is_none-clause-item g c =
    let find = in_root c.self.inside.root in
    let none : find c.args.key ≡ None = none_of (find c.args.key)
    (ap is_some (sym c.get.ensures) ∙ is_some-copied c.get.result ∙ c.is_none.ensures ∙ ap not c.if-is_none.true) in
    sym none ∙ sym (get-map_of find c.args.key (omega arith)) ∙ ap (λ m. map.get m c.args.key) c.self.view_is

pub returns-then-is_none-clause-taken : goal.returns-then-is_none-clause-taken
returns-then-is_none-clause-taken g c =
    let find = in_root c.self.inside.root in
    let none : find c.args.key ≡ None = none_of (find c.args.key)
    (ap is_some (sym c.get.ensures) ∙ is_some-copied c.get.result ∙ c.is_none.ensures ∙ ap not c.if-is_none.true) in
    sym c.self.view_is ∙ taken_none find c.args.key (omega arith) none
    ∙ ap (λ m. map.remove m c.args.key) c.self.view_is

pub overflow_sub-self : goal.overflow_sub-self
overflow_sub-self g c =
    let find = in_root c.self.inside.root in
    let held : is_some (find c.args.key) ≡ true = ap is_some (sym c.get.ensures) ∙ is_some-copied c.get.result
    ∙ c.is_none.ensures ∙ ap not c.if-is_none.false in
    let positive : 0 < map.len (map_of find) = count_positive find c.args.key (omega arith) held in
    let is : c.self.inside.count ≡ map.len (map_of find) = c.self.invariant in
    omega arith

pub invariant_of-self-2 : goal.invariant_of-self-2
invariant_of-self-2 g c =
    let find = in_root c.self.inside.root in
    let held : is_some (find c.args.key) ≡ true = ap is_some (sym c.get.ensures) ∙ is_some-copied c.get.result
    ∙ c.is_none.ensures ∙ ap not c.if-is_none.false in
    ap (λ n. n - 1) c.self.invariant
    ∙ sym (count_taken find (in_root c.take.new.self) c.args.key (omega arith) c.in_ok-item.ensures.taken held)

pub returns-clause-item : goal.returns-clause-item
returns-clause-item g c =
    c.in_ok-item.ensures.item ∙ sym (get-map_of (in_root c.self.inside.root) c.args.key (omega arith))
    ∙ ap (λ m. map.get m c.args.key) c.self.view_is

pub returns-clause-taken : goal.returns-clause-taken
returns-clause-taken g c =
    taken (in_root c.self.inside.root) (in_root c.take.new.self) c.args.key (omega arith) c.in_ok-item.ensures.taken
    ∙ ap (λ m. map.remove m c.args.key) c.self.view_is

on_err : {A E P : Type 0} (r : Result A E) → P → OnErr r P
on_err (Ok a) p = tt
on_err (Err e) p = p

pub returns-in_err-item-clause-held : goal.returns-in_err-item-clause-held
returns-in_err-item-clause-held g c =
    let find = in_root c.self.inside.root in
    let held : is_some (find c.args.key) ≡ true = ap is_some (sym c.get.ensures) ∙ is_some-copied c.get.result
    ∙ c.is_none.ensures ∙ ap not c.if-is_none.false in
    let is : is_some (map.get c.args.self.now c.args.key) ≡ true = ap (λ m. is_some (map.get m c.args.key))
    (sym c.self.view_is) ∙ ap is_some (get-map_of find c.args.key (omega arith)) ∙ held in
    on_err c.from_residual.result is
