use Rattle.std.proofs.Common.{◌≡◌, true, false, not, ap, sym, ◌∙◌, arith, ◌+◌}
use Rattle.std.specs.Prelude.{is_some}
use Rattle.std.specs.FinMap as map
use Rattle.shared_map.specs.Root.{in_root}
use Rattle.shared_map.specs.Map.{map_of}
use Rattle.shared_map.proofs.Maps.{get-map_of, put, count_put}
use Rattle.shared_map.proofs.map.SharedMap.put.Goals.{then-is_none, else-is_none}
use Rattle.shared_map.proofs.map.SharedMap.put.Goals as goal

pub invariant_of-self-then-is_none : goal.invariant_of-self-then-is_none
invariant_of-self-then-is_none g c =
    let find = in_root c.self.inside.root in
    let held : is_some (find c.args.key) ≡ false = ap is_some (sym c.in_ok-old.ensures.old) ∙ c.is_none.ensures
    ∙ ap not c.if-is_none.true in
    ap (λ n. n + 1) c.self.invariant
    ∙ sym (count_put find (in_root c.put.new.self) c.args.key (omega arith) c.args.item false
    c.in_ok-old.ensures.put held)

pub invariant_of-self-else-is_none : goal.invariant_of-self-else-is_none
invariant_of-self-else-is_none g c =
    let find = in_root c.self.inside.root in
    let held : is_some (find c.args.key) ≡ true = ap is_some (sym c.in_ok-old.ensures.old) ∙ c.is_none.ensures
    ∙ ap not c.if-is_none.false in
    c.self.invariant ∙ sym
    (count_put find (in_root c.put.new.self) c.args.key (omega arith) c.args.item true c.in_ok-old.ensures.put held)

pub returns-clause-old : goal.returns-clause-old
returns-clause-old g c =
    c.in_ok-old.ensures.old ∙ sym (get-map_of (in_root c.self.inside.root) c.args.key (omega arith))
    ∙ ap (λ m. map.get m c.args.key) c.self.view_is

pub returns-clause-put : goal.returns-clause-put
returns-clause-put g c =
    let is : map_of (in_root c.put.new.self) ≡ map.insert c.args.self.now c.args.key c.args.item =
    put (in_root c.self.inside.root) (in_root c.put.new.self) c.args.key c.args.item (omega arith)
    c.in_ok-old.ensures.put
    ∙ ap (λ m. map.insert m c.args.key c.args.item) c.self.view_is in
    elim c.if-is_none.branch [
      | then-is_none w ↦ w.self-is ∙ is
      | else-is_none w ↦ w.self-is ∙ is
    ]
