use Rattle.std.proofs.Common.{◌≡◌, true, refl, ap, sym, ◌∙◌, arith}
use Rattle.std.specs.Prelude.{is_some, is_ok}
use Rattle.std.specs.FinMap as map
use Rattle.shared_map.specs.Root.{in_root}
use Rattle.shared_map.proofs.Maps.{get-map_of, put, count_put}
use Rattle.shared_map.proofs.map.SharedMap.get_mut.Goals as goal

pub get_mut-requires : goal.get_mut-requires
get_mut-requires g c = record {
  held = ap is_some (sym (get-map_of (in_root c.self.inside.root) c.args.key (omega arith))
      ∙ ap (λ m. map.get m c.args.key) c.self.view_is) ∙ c.requires.held;
}

pub invariant_of-self-lent : goal.invariant_of-self-lent
invariant_of-self-lent g c = λ w.
    let find = in_root c.self.inside.root in
    let held : is_some (find c.args.key) ≡ true =
    ap is_some (sym (get-map_of find c.args.key (omega arith)) ∙ ap (λ m. map.get m c.args.key) c.self.view_is)
    ∙ c.requires.held in
    c.self.invariant ∙ sym (count_put find (in_root (c.get_mut.follows.lender w)) c.args.key (omega arith) w true
    (c.get_mut.follows.holds w (ap is_ok c.in-Ok.is)) held)

pub returns-in-Ok : goal.returns-in-Ok
returns-in-Ok g c =
    let find = in_root c.self.inside.root in (
      (
        refl,
        (λ w _.
            put find (in_root (c.get_mut.follows.lender w)) c.args.key w (omega arith)
            (c.get_mut.follows.holds w (ap is_ok c.in-Ok.is))
            ∙ ap (λ m. map.insert m c.args.key w) c.self.view_is),
        tt,
      ),
      record {
        writes_back = tt;
        item = ap (λ m. map.get m c.args.key) (sym c.self.view_is) ∙ get-map_of find c.args.key (omega arith)
            ∙ c.in-Ok.ensures.item;
      },
    )
