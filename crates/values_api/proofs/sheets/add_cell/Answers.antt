use Rattle.std.proofs.Common.{refl, subst, sym}
use Rattle.std.specs.Option.{IsSome}
use Rattle.values_api.proofs.sheets.add_cell.Goals as goal

pub returns-in_ok-push-in-Some : goal.returns-in_ok-push-in-Some
returns-in_ok-push-in-Some c = λ some. (
  record { row = c.args.row; column = c.args.column; content = c.in-Some.content },
  refl,
  sym c.in-Some.ensures.content,
  c.in_ok-push-in-Some.ensures.items,
)

pub returns-in-None : goal.returns-in-None
returns-in-None c = λ some.
    let none = subst IsSome (sym c.in-None.ensures.content) some in
    let no : ⊥ = cc in absurd no
