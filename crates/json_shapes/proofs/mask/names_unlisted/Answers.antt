use Rattle.std.proofs.Common.{rules, tests, lit<}
use Rattle.std.proofs.lemmas.Iterator.Search.{any_from_yields_List}
use Rattle.std.proofs.lemmas.Iterator.Splits.{YieldsList-from_str_split}
use Rattle.json_shapes.specs.Masks.{is_unlisted}
use Rattle.json_shapes.proofs.mask.names_unlisted.Goals as goal

pub returns : goal.returns
returns g c =
    any_from_yields_List (is_unlisted (g.P.Paths.listed c.args.paths.now)) _ _ _ c.any.ensures.ran
    (YieldsList-from_str_split 44 c.args.mask.now (lit< tt) c.split.ensures.text c.split.ensures.has_more
    c.split.ensures.pattern)
    (λ x b q k. search (rules, tests))
