use Rattle.std.proofs.Common.{MutBor, ap, refl, sym, ◌∙◌}
use Rattle.std.specs.Prelude.{OnSome, Option, None, Some}
use Rattle.std.specs.Option.{is_some, IsSome, option_copied_mut}
use Rattle.cell_store.proofs.Tables.{item-view, put-view, inside-keys, inside-unchanged, same-view}
use Rattle.cell_store.proofs.tree.TreeGridGrid.get_mut.Goals as goal

pub invariant_of-self-lent : goal.invariant_of-self-lent
invariant_of-self-lent g c = λ lent.
    let held = c.self.inside.items.entries in (
      (λ w. inside-keys c.self.inside.rows c.self.inside.cols held (c.get_mut.follows.lender w).entries c.self.invariant
          (c.get_mut.follows.holds w).1),
      inside-unchanged c.self.inside.rows c.self.inside.cols held c.get_mut.follows.lender-at-none.entries
          c.self.invariant
          (ap (λ m. m.entries) c.get_mut.follows.holds-at-none),
    )

on_some : {T R : Type 0} (r : Option (MutBor T)) → (IsSome (option_copied_mut r) → R) → OnSome r R
on_some (Some x) f = f refl
on_some None f = tt

pub returns : goal.returns
returns g c =
    let held = c.self.inside.items.entries in (
      (
        refl,
        (λ w. on_some c.get_mut.result (λ some.
            put-view c.self.inside.rows c.self.inside.cols held c.self.view_is (c.get_mut.follows.lender w).entries
            c.args.row c.args.column w
            ((c.get_mut.follows.holds w).3 (ap is_some (sym c.get_mut.ensures.value) ∙ some)).0)),
        same-view c.self.inside.rows c.self.inside.cols held c.self.view_is c.get_mut.follows.lender-at-none.entries
            (ap (λ m. m.entries) c.get_mut.follows.holds-at-none),
      ),
      record {
        writes_back = tt;
        item = c.get_mut.ensures.value ∙ item-view c.self.inside.rows c.self.inside.cols held c.self.view_is
            c.args.row c.args.column;
      },
    )
