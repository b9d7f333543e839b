use Rattle.std.proofs.Common.{arith, ◌+◌, subst, sym, ◌∙◌, ap}
use Rattle.std.specs.Prelude.{IfSome}
use Rattle.std.specs.Option.{option_copied}
use Rattle.world_model.specs.Sound.{IsContentWithin}
use Rattle.values_api.proofs.Ends.{own, row_small, col_small}
use Rattle.values_api.proofs.shown.Reading.cell_of.Goals as goal

pub overflow_add-row : goal.overflow_add-row
overflow_add-row c =
    let small = row_small c.args.self.now c.requires.reading c.args.row c.requires.row in
    omega (arith, small, c.first_line-top.ensures)

pub overflow_add-col : goal.overflow_add-col
overflow_add-col c =
    let small = col_small c.args.self.now c.requires.reading c.args.col c.requires.col in
    omega (arith, small, c.first_line-left.ensures)

pub content_shown-requires-clause-within : goal.content_shown-requires-clause-within
content_shown-requires-clause-within c =
    subst (λ held. IfSome held (IsContentWithin c.args.self.now.names.book.now.sheets))
    (sym c.content.ensures.content ∙ ap option_copied c.in-Some.is)
    ((own c.args.self.now c.requires.reading).within (c.first_line-top.result + c.args.row)
    (c.first_line-left.result + c.args.col))
