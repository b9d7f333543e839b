use Rattle.std.proofs.Common.{◌<◌, length, sym, subst, ◌∙◌}
use Rattle.std.proofs.lemmas.Grind.{get_or_default_zero}
use Rattle.link_store.proofs.LineLists.{list_within}
use Rattle.link_store.proofs.lines.Lines.list.Goals as goal

pub returns-clause-within : goal.returns-clause-within
returns-clause-within g c =
    subst (λ list. list < length c.args.self.now.links)
    (sym (c.index.ensures ∙ get_or_default_zero c.args.self.now.lists.items c.args.line c.index.result.now
    c.requires.there))
    (list_within c.args.self.now c.requires.lines c.args.line c.requires.there)
