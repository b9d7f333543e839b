use Rattle.std.proofs.Common.{refl, ap, sym, ◌∙◌}
use Rattle.std.specs.Prelude.{is_some, is_ok}
use Rattle.std.specs.FinMap as map
use Rattle.shared_grid.specs.Cells.{key_of}
use Rattle.shared_grid.proofs.Marks.{put_over}
use Rattle.shared_grid.proofs.cells.Cells.get_mut.Goals as goal

pub get_mut-requires : goal.get_mut-requires
get_mut-requires g c = record {
  held = ap (λ key. is_some (map.get c.self.inside.items key)) c.key.ensures
      ∙ ap (λ m. is_some (map.get m (key_of c.args.row c.args.column))) c.self.view_is ∙ c.requires.held;
}

pub invariant_of-self-lent : goal.invariant_of-self-lent
invariant_of-self-lent g c = λ w.
    put_over c.self.inside.items c.self.inside.marks c.self.invariant c.key.result
    (ap (λ key. is_some (map.get c.self.inside.items key)) c.key.ensures
    ∙ ap (λ m. is_some (map.get m (key_of c.args.row c.args.column))) c.self.view_is ∙ c.requires.held)
    w (c.get_mut.follows.lender w) (c.get_mut.follows.holds w (ap is_ok c.in-Ok.is))

pub returns-in-Ok : goal.returns-in-Ok
returns-in-Ok g c = (
  (
    refl,
    (λ w _. c.get_mut.follows.holds w (ap is_ok c.in-Ok.is)
        ∙ ap (λ key. map.insert c.self.inside.items key w) c.key.ensures
        ∙ ap (λ m. map.insert m (key_of c.args.row c.args.column) w) c.self.view_is),
    tt,
  ),
  record {
    writes_back = tt;
    item = ap (λ m. map.get m (key_of c.args.row c.args.column)) (sym c.self.view_is)
        ∙ ap (map.get c.self.inside.items) (sym c.key.ensures) ∙ c.in-Ok.ensures.item;
  },
)
