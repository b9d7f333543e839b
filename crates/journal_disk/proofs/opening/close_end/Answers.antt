use Rattle.std.proofs.Common.{◌≡◌, ℕ, List, [], get_or, take, drop, sym, ◌∙◌, ap, subst, arith, rules}
use Rattle.std.proofs.lemmas.List.{get_or-take}
use Rattle.journal_disk.specs.Records.{HasPieces, records}
use Rattle.journal_disk.specs.Log.{HasThese, IsGated}
use Rattle.journal_disk.proofs.Moments.{then, weaker}
use Rattle.journal_disk.proofs.Pieces.{one_list}
use Rattle.journal_disk.proofs.Scanning.{read_then, read_stays}
use Rattle.journal_disk.proofs.Ending.{found, shut_end, end_gated, torn_end, closed_end}
use Rattle.journal_disk.proofs.opening.close_end.Goals as goal

-- the byte that was read is the one at the end of the records
pub gate_read : (source seen read : List ℕ) (place : ℕ) → read ≡ take 1 (drop place seen) → seen ≡ source
    → get_or read 0 0 ≡ get_or (drop place source) 0 0
gate_read source seen read place is same =
    ap (λ (l : List ℕ). get_or l 0 0) is ∙ get_or-take 1 (drop place seen) 0 0 (omega arith)
    ∙ ap (λ (l : List ℕ). get_or (drop place l) 0 0) same

pub returns-else-gate-eq1-clause-kept : goal.returns-else-gate-eq1-clause-kept
returns-else-gate-eq1-clause-kept g c only =
    let ending = c.in_ok-ending.ending in
    let seen = g.D.Disk.seen c.args.disk.now in
    let e = c.in_ok-ending.ensures in
    let gate = gate_read seen _ c.read_exact.new.into ending.place c.in_ok-read_exact.ensures.bytes e.read.same in
    let shut : get_or c.read_exact.new.into 0 0 ≡ 1 → ⊥ = search rules in (
      e.front.pieces,
      found seen ending.place ending.held e.front e.none,
      shut_end seen ending.place ending.held e.front e.none (g.D.Disk.may_leave c.read_exact.new.disk)
          (λ image left. only image (e.read.no_more image (c.in_ok-read_exact.ensures.read.no_more image left)))
          (λ is_open. shut (gate ∙ is_open)),
    )

pub returns-in_ok-write_gate-clause-kept : goal.returns-in_ok-write_gate-clause-kept
returns-in_ok-write_gate-clause-kept g c only =
    let ending = c.in_ok-ending.ending in
    let seen = g.D.Disk.seen c.args.disk.now in
    let e = c.in_ok-ending.ensures in
    let gated = end_gated seen ending.place ending.held e.front e.none (g.D.Disk.may_leave c.read_exact.new.disk)
    (λ image left. only image (e.read.no_more image (c.in_ok-read_exact.ensures.read.no_more image left))) in (
      e.front.pieces,
      found seen ending.place ending.held e.front e.none,
      closed_end seen ending.place ending.held e.front e.none (g.D.Disk.may_leave c.write_gate.new.disk)
          (c.in_ok-write_gate.ensures.settled (records e.front.pieces []) (drop 1 e.front.rest) (sym e.front.at) gated),
    )

pub returns-in_err-write_gate-clause-any_moment : goal.returns-in_err-write_gate-clause-any_moment
returns-in_err-write_gate-clause-any_moment g c pieces has only =
    let ending = c.in_ok-ending.ending in
    let seen = g.D.Disk.seen c.args.disk.now in
    let e = c.in_ok-ending.ensures in
    let r = c.in_ok-read_exact.ensures.read in
    let read = read_then g.D.Disk.seen g.D.Disk.may_leave g.D.Disk.moment g.D.Disk.left_since c.args.disk.now _
    c.read_exact.new.disk e.read r in
    let first = read_stays g.D.Disk.seen g.D.Disk.may_leave g.D.Disk.moment g.D.Disk.left_since c.args.disk.now
    c.read_exact.new.disk (HasThese pieces) (g.met.D.Disk.only_now c.args.disk.now)
    (λ image left. subst (λ (l : List ℕ). HasPieces l pieces) (sym (only image left)) has) read in
    let gated = end_gated seen ending.place ending.held e.front e.none (g.D.Disk.may_leave c.read_exact.new.disk)
    (λ image left. only image (read.no_more image left)) in
    let is_open : get_or (drop ending.place seen) 0 0 ≡ 1 =
    sym (gate_read seen _ c.read_exact.new.into ending.place c.in_ok-read_exact.ensures.bytes e.read.same)
    ∙ c.if-gate-eq1.true in
    let one = one_list seen pieces e.front.pieces has (found seen ending.place ending.held e.front e.none) in
    let second = weaker g.D.Disk.moment g.D.Disk.left_since g.D.Disk.may_leave c.read_exact.new.disk
    c.write_gate.new.disk (IsGated (records e.front.pieces []) (drop 1 e.front.rest)) (HasThese pieces)
    (c.write_gate.ensures.images (records e.front.pieces []) (drop 1 e.front.rest) (sym e.front.at) gated)
    (λ image torn. subst (λ (ps : List (List ℕ)). HasPieces image ps) (sym one)
    (torn_end seen ending.place ending.held e.front e.none is_open image torn)) in
    then g.D.Disk.moment g.D.Disk.left_since g.D.Disk.may_leave c.args.disk.now c.read_exact.new.disk
    c.write_gate.new.disk (HasThese pieces) first second

pub returns-in_ok-write_gate-clause-any_moment : goal.returns-in_ok-write_gate-clause-any_moment
returns-in_ok-write_gate-clause-any_moment g c pieces has only =
    let ending = c.in_ok-ending.ending in
    let seen = g.D.Disk.seen c.args.disk.now in
    let e = c.in_ok-ending.ensures in
    let r = c.in_ok-read_exact.ensures.read in
    let read = read_then g.D.Disk.seen g.D.Disk.may_leave g.D.Disk.moment g.D.Disk.left_since c.args.disk.now _
    c.read_exact.new.disk e.read r in
    let first = read_stays g.D.Disk.seen g.D.Disk.may_leave g.D.Disk.moment g.D.Disk.left_since c.args.disk.now
    c.read_exact.new.disk (HasThese pieces) (g.met.D.Disk.only_now c.args.disk.now)
    (λ image left. subst (λ (l : List ℕ). HasPieces l pieces) (sym (only image left)) has) read in
    let gated = end_gated seen ending.place ending.held e.front e.none (g.D.Disk.may_leave c.read_exact.new.disk)
    (λ image left. only image (read.no_more image left)) in
    let is_open : get_or (drop ending.place seen) 0 0 ≡ 1 =
    sym (gate_read seen _ c.read_exact.new.into ending.place c.in_ok-read_exact.ensures.bytes e.read.same)
    ∙ c.if-gate-eq1.true in
    let one = one_list seen pieces e.front.pieces has (found seen ending.place ending.held e.front e.none) in
    let second = weaker g.D.Disk.moment g.D.Disk.left_since g.D.Disk.may_leave c.read_exact.new.disk
    c.write_gate.new.disk (IsGated (records e.front.pieces []) (drop 1 e.front.rest)) (HasThese pieces)
    (c.write_gate.ensures.images (records e.front.pieces []) (drop 1 e.front.rest) (sym e.front.at) gated)
    (λ image torn. subst (λ (ps : List (List ℕ)). HasPieces image ps) (sym one)
    (torn_end seen ending.place ending.held e.front e.none is_open image torn)) in
    then g.D.Disk.moment g.D.Disk.left_since g.D.Disk.may_leave c.args.disk.now c.read_exact.new.disk
    c.write_gate.new.disk (HasThese pieces) first second
