use Rattle.std.proofs.Common.{◌-◌, ◌<◌, ◌≤◌, length, ap}
use Rattle.grid_range.specs.declared.change.Change.TheVariants.{Delete}
use Rattle.link_store.proofs.Moving.{turns_delete, lines_turned}
use Rattle.link_store.proofs.lines.Lines.delete.Goals as goal

pub returns-clause-lines : goal.returns-clause-lines
returns-clause-lines g c =
    let old = c.args.self.now in
    let made = c.turn.ensures in
    lines_turned (Delete c.args.start c.args.end) old
    (record {
      links = c.turn.new.self.links;
      lists = c.turn.new.self.lists;
      count = c.turn.new.self.count - (c.args.end - c.args.start);
    })
    c.args.start c.args.end old.count (λ line. (c.args.start ≤ line) × (line < c.args.end)) c.requires.lines
    (turns_delete c.places_stay_apart.ensures c.places_stay_below.ensures c.args.start c.args.end old.count
    (length old.lists.items) c.requires.fits c.requires.lines.count)
    (record { links = made.links; long = made.length; numbers = made.numbers; order = made.order })
    (ap (λ n. n - (c.args.end - c.args.start)) made.count) (λ line gone. c.requires.empty line gone.0 gone.1)
