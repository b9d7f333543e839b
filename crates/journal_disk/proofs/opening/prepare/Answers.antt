use Rattle.std.proofs.Common.{◌≡◌, inl, inr, [], length, sym, ◌∙◌, ap, arith}
use Rattle.journal_disk.specs.Log.{IsShort, MayHaveThese}
use Rattle.journal_disk.proofs.Moments.{started, goes_on, then, weaker}
use Rattle.journal_disk.proofs.Ending.{short_none, short_pieces, first_gate}
use Rattle.journal_disk.proofs.opening.prepare.Goals as goal

pub returns-then-size-eq0-clause-kept : goal.returns-then-size-eq0-clause-kept
returns-then-size-eq0-clause-kept g c =
    let empty : length (g.D.Disk.seen c.args.disk.now) ≡ 0 = sym (ap length c.in_ok-sync.ensures.seen)
    ∙ sym c.in_ok-size.ensures.size ∙ c.if-size-eq0.true in (
      [],
      short_none (g.D.Disk.seen c.args.disk.now) (omega (arith, empty)),
      first_gate _ c.in_ok-write_first.ensures.closed,
    )

pub returns-in_err-write_first-clause-any_moment : goal.returns-in_err-write_first-clause-any_moment
returns-in_err-write_first-clause-any_moment g c pieces has =
    let before = g.D.Disk.may_leave c.args.disk.now in
    let P = MayHaveThese before pieces in
    let empty : length (g.D.Disk.seen c.args.disk.now) ≡ 0 = sym (ap length c.in_ok-sync.ensures.seen)
    ∙ sym c.in_ok-size.ensures.size ∙ c.if-size-eq0.true in
    let at_start = started g.D.Disk.moment g.D.Disk.left_since g.D.Disk.may_leave c.args.disk.now P
    (g.met.D.Disk.only_now c.args.disk.now) (λ image left. inl left) in
    let synced = goes_on g.D.Disk.moment g.D.Disk.left_since g.D.Disk.may_leave c.args.disk.now c.args.disk.now
    c.sync.new.self P at_start c.sync.ensures.time (λ image left. inl (c.sync.ensures.crash image left)) in
    let sized = goes_on g.D.Disk.moment g.D.Disk.left_since g.D.Disk.may_leave c.args.disk.now c.sync.new.self
    c.size.new.self P synced c.size.ensures.time
    (λ image left. inl (c.sync.ensures.crash image (c.size.ensures.crash image left))) in
    let short = c.write_first.ensures.images (λ image left. omega
    (arith, empty, ap length (c.in_ok-sync.ensures.durable image (c.size.ensures.crash image left)))) in
    let second = weaker g.D.Disk.moment g.D.Disk.left_since g.D.Disk.may_leave c.size.new.self c.write_first.new.disk
    IsShort P short (λ image is_short. inr (short_pieces
    (g.D.Disk.seen c.args.disk.now) image pieces empty has is_short)) in
    then g.D.Disk.moment g.D.Disk.left_since g.D.Disk.may_leave c.args.disk.now c.size.new.self c.write_first.new.disk P
    sized second

pub returns-then-size-eq0-clause-any_moment : goal.returns-then-size-eq0-clause-any_moment
returns-then-size-eq0-clause-any_moment g c pieces has =
    let before = g.D.Disk.may_leave c.args.disk.now in
    let P = MayHaveThese before pieces in
    let empty : length (g.D.Disk.seen c.args.disk.now) ≡ 0 = sym (ap length c.in_ok-sync.ensures.seen)
    ∙ sym c.in_ok-size.ensures.size ∙ c.if-size-eq0.true in
    let at_start = started g.D.Disk.moment g.D.Disk.left_since g.D.Disk.may_leave c.args.disk.now P
    (g.met.D.Disk.only_now c.args.disk.now) (λ image left. inl left) in
    let synced = goes_on g.D.Disk.moment g.D.Disk.left_since g.D.Disk.may_leave c.args.disk.now c.args.disk.now
    c.sync.new.self P at_start c.sync.ensures.time (λ image left. inl (c.sync.ensures.crash image left)) in
    let sized = goes_on g.D.Disk.moment g.D.Disk.left_since g.D.Disk.may_leave c.args.disk.now c.sync.new.self
    c.size.new.self P synced c.size.ensures.time
    (λ image left. inl (c.sync.ensures.crash image (c.size.ensures.crash image left))) in
    let short = c.write_first.ensures.images (λ image left. omega
    (arith, empty, ap length (c.in_ok-sync.ensures.durable image (c.size.ensures.crash image left)))) in
    let second = weaker g.D.Disk.moment g.D.Disk.left_since g.D.Disk.may_leave c.size.new.self c.write_first.new.disk
    IsShort P short (λ image is_short. inr (short_pieces
    (g.D.Disk.seen c.args.disk.now) image pieces empty has is_short)) in
    then g.D.Disk.moment g.D.Disk.left_since g.D.Disk.may_leave c.args.disk.now c.size.new.self c.write_first.new.disk P
    sized second
