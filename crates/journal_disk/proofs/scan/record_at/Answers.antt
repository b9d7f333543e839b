use Rattle.std.proofs.Common.{◌≡◌, ◌+◌, ◌≤◌, ◌-◌, ℕ, List, ◌++◌, length, take, drop, refl, sym, ◌∙◌, ap, subst, arith}
use Rattle.std.proofs.Common.{length-append, length-drop}
use Rattle.std.proofs.lemmas.List.{drop-drop}
use Rattle.std.specs.Prelude.{MatchOption}
use Rattle.std.specs.Int.{w64, to_be_bytes}
use Rattle.journal_disk.specs.Records.{IsRecord, NoRecord}
use Rattle.journal_disk.proofs.Scanning.{head_split}
use Rattle.journal_disk.proofs.scan.record_at.Goals as goal

pub returns-then-left-lt10-clause-found : goal.returns-then-left-lt10-clause-found
returns-then-left-lt10-clause-found g c piece rest found =
    let size = to_be_bytes w64 (length piece) in
    let eight : length size ≡ 8 = refl in
    absurd (omega (
      arith,
      ap length found.split,
      eight,
      length-append size (piece ++ rest),
      length-append piece rest,
      found.followed,
      length-drop c.args.at (g.D.Disk.seen c.args.disk.now),
      c.requires.size,
      c.if-left-lt10.true,
    ))

pub returns-clause-found : goal.returns-clause-found
returns-clause-found g c =
    let image = drop c.args.at (g.D.Disk.seen c.args.disk.now) in
    let long : length image ≡ c.args.size - c.args.at =
    length-drop c.args.at (g.D.Disk.seen c.args.disk.now) ∙ ap (λ (n : ℕ). n - c.args.at) (sym c.requires.size) in
    let is_gate : c.read_exact.new.into ≡ take 1 image = c.in_ok-read_exact.ensures.bytes in
    let is_size : c.read_exact-2.new.into ≡ take 8 (drop 1 image) =
    c.in_ok-read_exact-2.ensures.bytes ∙ ap (λ (l : List ℕ). take 8
    (drop (c.args.at + 1) l)) c.in_ok-read_exact.ensures.read.same
    ∙ ap (λ (l : List ℕ). take 8 l) (sym (drop-drop 1 c.args.at (g.D.Disk.seen c.args.disk.now))) in
    let nine : 9 ≤ length image = omega (arith, long, c.if-left-lt10.false) in
    let image_is = head_split image c.read_exact.new.into c.read_exact-2.new.into nine is_gate is_size in
    let found = c.record_in.ensures.found (drop 9 image) (omega (arith, long, nine, length-drop 9 image)) in
    subst (λ (l : List ℕ). MatchOption c.record_in.result (NoRecord l)
    (λ count. (piece : List ℕ) × (rest : List ℕ) × (length piece ≡ count) × IsRecord l piece rest))
    (sym image_is) found
