use Rattle.std.proofs.Common.{length}
use Rattle.grid_range.specs.declared.change.Change.TheVariants.{Move}
use Rattle.link_store.proofs.Moving.{Nothing, turns_back, turns_on, lines_turned, moved_turned}
use Rattle.link_store.proofs.lines.Lines.shift.Goals as goal

pub returns-then-to-start-clause-lines : goal.returns-then-to-start-clause-lines
returns-then-to-start-clause-lines g c =
    let old = c.args.self.now in
    let made = c.turn.ensures in
    lines_turned (Move c.args.start c.args.end c.args.to) old c.turn.new.self c.args.to c.args.start c.args.end
    Nothing c.requires.lines
    (turns_back c.places_stay_apart.ensures c.places_stay_below.ensures c.args.start c.args.end c.args.to old.count
    (length old.lists.items) c.requires.fits c.if-to-start.true c.requires.lines.count)
    (record { links = made.links; long = made.length; numbers = made.numbers; order = made.order }) made.count
    (λ line gone. absurd gone)

pub returns-then-to-start-clause-moved : goal.returns-then-to-start-clause-moved
returns-then-to-start-clause-moved g c =
    let old = c.args.self.now in
    let made = c.turn.ensures in
    moved_turned (Move c.args.start c.args.end c.args.to) old c.turn.new.self c.args.to c.args.start c.args.end
    Nothing c.requires.lines
    (turns_back c.places_stay_apart.ensures c.places_stay_below.ensures c.args.start c.args.end c.args.to old.count
    (length old.lists.items) c.requires.fits c.if-to-start.true c.requires.lines.count)
    (record { links = made.links; long = made.length; numbers = made.numbers; order = made.order }) made.count

pub returns-then-end-to-clause-lines : goal.returns-then-end-to-clause-lines
returns-then-end-to-clause-lines g c =
    let old = c.args.self.now in
    let made = c.turn-then-end-to.ensures in
    lines_turned (Move c.args.start c.args.end c.args.to) old c.turn-then-end-to.new.self c.args.start c.args.end
    c.args.to Nothing c.requires.lines
    (turns_on c.places_stay_apart.ensures c.places_stay_below.ensures c.args.start c.args.end c.args.to old.count
    (length old.lists.items) c.requires.fits c.if-end-to.true c.requires.lines.count)
    (record { links = made.links; long = made.length; numbers = made.numbers; order = made.order }) made.count
    (λ line gone. absurd gone)

pub returns-then-end-to-clause-moved : goal.returns-then-end-to-clause-moved
returns-then-end-to-clause-moved g c =
    let old = c.args.self.now in
    let made = c.turn-then-end-to.ensures in
    moved_turned (Move c.args.start c.args.end c.args.to) old c.turn-then-end-to.new.self c.args.start c.args.end
    c.args.to Nothing c.requires.lines
    (turns_on c.places_stay_apart.ensures c.places_stay_below.ensures c.args.start c.args.end c.args.to old.count
    (length old.lists.items) c.requires.fits c.if-end-to.true c.requires.lines.count)
    (record { links = made.links; long = made.length; numbers = made.numbers; order = made.order }) made.count
