use Rattle.std.proofs.Common.{◌+◌, ◌≤◌, List, ℕ, length, arith, subst, sym}
use Rattle.journal_disk.specs.Disk.{Torn}
use Rattle.journal_disk.specs.Laws.{torn_part}
use Rattle.journal_disk.proofs.Recording.{torn_then}
use Rattle.journal_disk.proofs.replay.lay.Goals as goal

pub returns : goal.returns
returns c =
    let count = length c.args.bytes.now in
    let grown = c.in_ok-grow.ensures in
    let mid = c.grow.new.image.items in
    let filled = c.fill_range.ensures in
    let end_in : c.min-end.result ≤ c.args.at + count = omega (arith, c.min-end.ensures) in
    let part = torn_part c.args.at count c.min-end.result mid filled.0 (omega (arith, grown.long, c.if-end-at.false))
    (omega (arith, filled.1, c.if-end-at.false)) end_in in
    torn_then c.args.at count c.args.image.now.items mid c.fill_range.new.image.items
    (grown.torn c.args.at count end_in) (subst (λ (l : List ℕ). Torn c.args.at count mid l) (sym filled.2) part)
