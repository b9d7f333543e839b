use Rattle.std.proofs.Common.{refl, arith}
use Rattle.link_store.proofs.LineLists.{links_as_lists, lines_added, same_added, entries_added}
use Rattle.link_store.proofs.lines.Lines.add_list.Goals as goal

pub add_list_counted-requires : goal.add_list_counted-requires
add_list_counted-requires g c = omega (arith, links_as_lists c.args.self.now c.requires.lines)

pub returns-in-Ok-clause-lines : goal.returns-in-Ok-clause-lines
returns-in-Ok-clause-lines g c =
    lines_added c.args.self.now (record {
      links = c.add_list_counted.new.self;
      lists = c.push.new.self;
      count = c.args.self.now.count;
    }) c.len.result c.requires.lines
    c.in-Ok.ensures.added c.in_ok-push.ensures.items (omega (arith, c.len.ensures, c.args.self.now.lists.ok.0))
    refl c.requires.room

pub returns-in-Ok-clause-same : goal.returns-in-Ok-clause-same
returns-in-Ok-clause-same g c =
    same_added c.args.self.now (record {
      links = c.add_list_counted.new.self;
      lists = c.push.new.self;
      count = c.args.self.now.count;
    }) c.len.result c.requires.lines
    c.in-Ok.ensures.added c.in_ok-push.ensures.items (omega (arith, c.len.ensures, c.args.self.now.lists.ok.0)) refl

pub returns-in-Ok-clause-entries : goal.returns-in-Ok-clause-entries
returns-in-Ok-clause-entries g c =
    entries_added c.args.self.now (record {
      links = c.add_list_counted.new.self;
      lists = c.push.new.self;
      count = c.args.self.now.count;
    }) c.len.result c.requires.lines
    c.in-Ok.ensures.added c.in_ok-push.ensures.items (omega (arith, c.len.ensures, c.args.self.now.lists.ok.0)) refl
