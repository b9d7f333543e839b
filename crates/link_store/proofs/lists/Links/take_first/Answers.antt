use Rattle.std.proofs.Common.{sym, ap, ◌∙◌}
use Rattle.std.specs.Prelude.{Some}
use Rattle.link_store.specs.Lists.{entries_of}
use Rattle.link_store.proofs.Members.{first_stands}
use Rattle.link_store.proofs.lists.Links.take_first.Goals as goal

pub unlink-requires : goal.unlink-requires
unlink-requires g c =
    let first = first_stands (entries_of c.args.self.now c.args.list) c.in-Some.node (sym c.in-Some.ensures.node) in
    (first.0, (c.args.list, first.2))

pub returns-in-Some-clause-first : goal.returns-in-Some-clause-first
returns-in-Some-clause-first g c =
    let first = first_stands (entries_of c.args.self.now c.args.list) c.in-Some.node (sym c.in-Some.ensures.node) in
    ap (λ item. Some (c.in-Some.node, item)) (c.unlink.ensures.item first.0 (c.args.list, first.2)) ∙ sym first.1
