use Rattle.std.proofs.Common.{◌∙◌, ap, sym, subst}
use Rattle.std.specs.Option.{IsSome, option_copied}
use Rattle.std.proofs.lemmas.Option.{get_or_from_slice_get}
use Rattle.dimension_ops.specs.World.{book_with}
use Rattle.sheet_engine.proofs.Dumping.{found_there}
use Rattle.sheet_engine.proofs.dump.book_at.Goals as goal

pub returns-clause-there : goal.returns-clause-there
returns-clause-there c =
    let books = c.args.world.now in
    let one = c.unwrap.result.now in
    subst (λ book. IsSome (book_with book.id books))
    (get_or_from_slice_get books c.args.at one one (sym c.at.ensures ∙ ap option_copied c.unwrap.ensures))
    (found_there books c.args.at one c.requires)
