use Rattle.std.proofs.Common.{sym, ap, ◌∙◌}
use Rattle.link_store.specs.Lists.{entries_of}
use Rattle.link_store.specs.Entries.{entries_from}
use Rattle.link_store.proofs.Members.{first_stands}
use Rattle.link_store.proofs.Cursors.{from_first}
use Rattle.link_store.proofs.lists.Links.entries.Goals as goal

pub invariant_of-result : goal.invariant_of-result
invariant_of-result g c = record {
  once = c.first.ensures.once;
  stands = λ node is.
      let first = first_stands (entries_of c.args.self.now c.args.list) node (sym c.first.ensures.node ∙ is) in
      (first.0, first.2);
}

pub returns-clause-entries : goal.returns-clause-entries
returns-clause-entries g c = ap (entries_from (entries_of c.args.self.now c.args.list)) c.first.ensures.node
    ∙ from_first (entries_of c.args.self.now c.args.list)
