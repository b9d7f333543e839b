use Rattle.std.proofs.Common.{◌+◌, refl}
use Rattle.link_store.proofs.Opening.{lines_opened, moved_opened}
use Rattle.link_store.proofs.lines.Lines.insert.Goals as goal

pub returns-clause-lines : goal.returns-clause-lines
returns-clause-lines g c =
    let made = c.open.ensures in
    let kept = c.in_ok-reserve.ensures in
    lines_opened c.args.self.now c.reserve.new.self
    (record {
      links = c.open.new.self.links;
      lists = c.open.new.self.lists;
      count = c.args.self.now.count + c.args.count;
    })
    c.args.at c.args.count kept.lines kept.same made.links refl made.length kept.room c.requires.fits.0 made.order
    made.numbers

pub returns-clause-moved : goal.returns-clause-moved
returns-clause-moved g c =
    let made = c.open.ensures in
    let kept = c.in_ok-reserve.ensures in
    moved_opened c.args.self.now c.reserve.new.self
    (record {
      links = c.open.new.self.links;
      lists = c.open.new.self.lists;
      count = c.args.self.now.count + c.args.count;
    })
    c.args.at c.args.count kept.lines kept.same made.links refl made.length kept.room c.requires.fits.0 made.order
