use Rattle.std.proofs.Common.{◌∙◌, sym}
use Rattle.std.proofs.lemmas.List.Sorted.{searched}
use Rattle.batch_engine.proofs.Searching.{id_found}
use Rattle.batch_engine.proofs.searches.is_among.Goals as goal

pub returns : goal.returns
returns c =
    c.is_ok.ensures.value
    ∙ sym (id_found c.args.ids.now c.args.id c.binary_search.result
    (searched c.args.ids.now c.args.id c.binary_search.result c.binary_search.ensures.position
    (λ i j before there. c.requires i j 0 before there)))
