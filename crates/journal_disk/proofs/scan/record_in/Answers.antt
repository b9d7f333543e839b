use Rattle.std.proofs.Common.{◌≡◌, ◌<◌, ◌^◌, ℕ, ◌∷◌, ◌++◌, length, get_or, sym, ◌∙◌, subst, arith, rules}
use Rattle.journal_disk.specs.Records.{IsRecord}
use Rattle.journal_disk.proofs.Scanning.{head_says, stands}
use Rattle.journal_disk.proofs.scan.record_in.Goals as goal

pub returns-then-count-left-clause-found : goal.returns-then-count-left-clause-found
returns-then-count-left-clause-found c rest is_left piece behind found =
    let eight : length c.args.length_bytes ≡ 8 = search rules in
    let says = head_says c.args.gate c.args.length_bytes rest piece behind eight found in
    let counted : c.from_be_bytes-count.result ≡ length piece = c.from_be_bytes-count.ensures ∙ says.count in
    absurd (omega (arith, counted, says.room, is_left, c.if-count-left.true))

pub returns-clause-found : goal.returns-clause-found
returns-clause-found c rest is_left =
    let count = c.from_be_bytes-count.result in
    let eight : length c.args.length_bytes ≡ 8 = search rules in
    let is_open : c.args.gate ≡ 1 = search rules in
    let small : (i : ℕ) → get_or c.args.length_bytes i 0 < 256 = search rules in
    let fits : count < 2 ^ 64 = omega (arith, c.if-count-left.false, c.ranges.left.fits) in
    let room : count < length rest = omega (arith, c.if-count-left.false, is_left, c.requires) in
    let found = stands c.args.length_bytes rest count eight small c.from_be_bytes-count.ensures fits room in (
      found.0,
      found.1,
      found.2,
      subst (λ (gate : ℕ). IsRecord
          (gate ∷ (c.args.length_bytes ++ rest)) found.0 found.1) (sym is_open) found.3,
    )
