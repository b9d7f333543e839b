use Rattle.std.proofs.Common.{subst}
use Rattle.world_model.specs.Sound.{IsContentWithin}
use Rattle.values_api.proofs.Printable.{pieces_printable}
use Rattle.values_api.proofs.shown.content_shown.Goals as goal

pub formula_shown-requires : goal.formula_shown-requires
formula_shown-requires c =
    pieces_printable c.args.names.now.book.now c.requires.sound c.in-Formula.formula.pieces
    (subst (IsContentWithin c.args.names.now.book.now.sheets) c.in-Formula.is c.requires.within)
