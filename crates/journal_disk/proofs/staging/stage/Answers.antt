use Rattle.std.proofs.Common.{◌≡◌, ◌+◌, ◌<◌, ◌^◌, ℕ, List, [], ◌∷◌, ◌++◌, length, ◌∙◌, ap, subst, refl, arith}
use Rattle.std.proofs.Common.{append_assoc, length-append}
use Rattle.std.proofs.lemmas.Result.{on_ok_weaker}
use Rattle.std.specs.Int.{w64, to_be_bytes}
use Rattle.journal_disk.specs.Disk.{Holds}
use Rattle.journal_disk.specs.Log.{IsClosedBehind}
use Rattle.journal_disk.proofs.Moments.{started, goes_on}
use Rattle.journal_disk.proofs.Images.{each_closed, written_on, begins_closed}
use Rattle.journal_disk.proofs.staging.stage.Goals as goal

pub returns-in_err-write-clause-images : goal.returns-in_err-write-clause-images
returns-in_err-write-clause-images g c front is_at all =
    let d = g.D.Disk.may_leave in
    let P = IsClosedBehind front in
    let at_start = started g.D.Disk.moment g.D.Disk.left_since d c.args.disk.now P
    (g.met.D.Disk.only_now c.args.disk.now) all in
    let torn = each_closed front (c.args.end + 1) _ _ _ (omega (arith, is_at)) all c.write.ensures.crash in
    goes_on g.D.Disk.moment g.D.Disk.left_since d c.args.disk.now c.args.disk.now c.write.new.self P at_start
    c.write.ensures.time torn

pub returns-in_err-write-2-clause-images : goal.returns-in_err-write-2-clause-images
returns-in_err-write-2-clause-images g c front is_at all =
    let d = g.D.Disk.may_leave in
    let P = IsClosedBehind front in
    let at_start = started g.D.Disk.moment g.D.Disk.left_since d c.args.disk.now P
    (g.met.D.Disk.only_now c.args.disk.now) all in
    let torn = each_closed front (c.args.end + 1) _ _ _ (omega (arith, is_at)) all c.write.ensures.crash in
    let torn-2 = each_closed front (c.args.end + 9) _ _ _ (omega (arith, is_at)) torn c.write-2.ensures.crash in
    let first = goes_on g.D.Disk.moment g.D.Disk.left_since d c.args.disk.now c.args.disk.now c.write.new.self P
    at_start c.write.ensures.time torn in
    goes_on g.D.Disk.moment g.D.Disk.left_since d c.args.disk.now c.write.new.self c.write-2.new.self P first
    c.write-2.ensures.time torn-2

pub returns-in_err-write-3-clause-images : goal.returns-in_err-write-3-clause-images
returns-in_err-write-3-clause-images g c front is_at all =
    let d = g.D.Disk.may_leave in
    let P = IsClosedBehind front in
    let at_start = started g.D.Disk.moment g.D.Disk.left_since d c.args.disk.now P
    (g.met.D.Disk.only_now c.args.disk.now) all in
    let torn = each_closed front (c.args.end + 1) _ _ _ (omega (arith, is_at)) all c.write.ensures.crash in
    let torn-2 = each_closed front (c.args.end + 9) _ _ _ (omega (arith, is_at)) torn c.write-2.ensures.crash in
    let torn-3 = each_closed front (c.args.end + 9 + length c.args.piece.now) _ _ _
    (omega (arith, is_at)) torn-2 c.write-3.ensures.crash in
    let first = goes_on g.D.Disk.moment g.D.Disk.left_since d c.args.disk.now c.args.disk.now c.write.new.self P
    at_start c.write.ensures.time torn in
    let second = goes_on g.D.Disk.moment g.D.Disk.left_since d c.args.disk.now c.write.new.self c.write-2.new.self P
    first c.write-2.ensures.time torn-2 in
    goes_on g.D.Disk.moment g.D.Disk.left_since d c.args.disk.now c.write-2.new.self c.write-3.new.self P second
    c.write-3.ensures.time torn-3

pub returns-clause-images : goal.returns-clause-images
returns-clause-images g c front is_at all =
    let d = g.D.Disk.may_leave in
    let P = IsClosedBehind front in
    let at_start = started g.D.Disk.moment g.D.Disk.left_since d c.args.disk.now P
    (g.met.D.Disk.only_now c.args.disk.now) all in
    let torn = each_closed front (c.args.end + 1) _ _ _ (omega (arith, is_at)) all c.write.ensures.crash in
    let torn-2 = each_closed front (c.args.end + 9) _ _ _ (omega (arith, is_at)) torn c.write-2.ensures.crash in
    let torn-3 = each_closed front (c.args.end + 9 + length c.args.piece.now) _ _ _
    (omega (arith, is_at)) torn-2 c.write-3.ensures.crash in
    let first = goes_on g.D.Disk.moment g.D.Disk.left_since d c.args.disk.now c.args.disk.now c.write.new.self P
    at_start c.write.ensures.time torn in
    let second = goes_on g.D.Disk.moment g.D.Disk.left_since d c.args.disk.now c.write.new.self c.write-2.new.self P
    first c.write-2.ensures.time torn-2 in
    let third = goes_on g.D.Disk.moment g.D.Disk.left_since d c.args.disk.now c.write-2.new.self c.write-3.new.self P
    second c.write-3.ensures.time torn-3 in
    goes_on g.D.Disk.moment g.D.Disk.left_since d c.args.disk.now c.write-3.new.self c.sync.new.self P third
    c.sync.ensures.time (λ image left. torn-3 image (c.sync.ensures.crash image left))

-- the bytes as they were written, in the order of a framed piece
reordered : (front : List ℕ) (gate : ℕ) (size piece rest : List ℕ) → (front ++ gate ∷ []) ++ size ++ piece ++ (0 ∷ [])
    ++ rest ≡ front ++ gate ∷ (size ++ (piece ++ 0 ∷ rest))
reordered front gate size piece rest =
    append_assoc ((front ++ gate ∷ []) ++ size ++ piece) (0 ∷ []) rest
    ∙ append_assoc ((front ++ gate ∷ []) ++ size) piece (0 ∷ rest)
    ∙ append_assoc (front ++ gate ∷ []) size (piece ++ 0 ∷ rest)
    ∙ append_assoc front (gate ∷ []) (size ++ (piece ++ 0 ∷ rest))

pub returns-clause-staged : goal.returns-clause-staged
returns-clause-staged g c =
    on_ok_weaker c.sync.result (λ only front is_at all.
    let closed = all _ (g.met.D.Disk.seen_is_image c.args.disk.now) in
    let size = to_be_bytes w64 (length c.args.piece.now) in
    let front-1 = front ++ closed.gate ∷ [] in
    let long-1 : length front-1 ≡ c.args.end + 1 = omega (arith, is_at, length-append front (closed.gate ∷ [])) in
    let eight : length size ≡ 8 = refl in
    let long-2 : length (front-1 ++ size) ≡ c.args.end + 9 = omega (arith, long-1, eight, length-append front-1 size) in
    let long-3 : length (front-1 ++ size ++ c.args.piece.now) ≡ c.args.end + 9 + length c.args.piece.now = omega
    (arith, long-2, length-append (front-1 ++ size) c.args.piece.now) in
    let first = written_on front-1 (c.args.end + 1) size _ _ long-1 (begins_closed front _ closed)
    (subst (λ (bytes : List ℕ). Holds (g.D.Disk.seen c.args.disk.now) (c.args.end + 1) bytes
    (g.D.Disk.seen c.write.new.self)) c.to_be_bytes.ensures c.in_ok-write.ensures.written) in
    let second = written_on (front-1
    ++ size) (c.args.end + 9) c.args.piece.now _ _ long-2 first c.in_ok-write-2.ensures.written in
    let third = written_on (front-1 ++ size ++ c.args.piece.now) (c.args.end + 9 + length c.args.piece.now)
    (0 ∷ []) _ _ long-3 second c.in_ok-write-3.ensures.written in
    let bound = g.met.D.Disk.bounded c.write-3.new.self _ (g.met.D.Disk.seen_is_image c.write-3.new.self) in
    let fits : length c.args.piece.now < 2 ^ 64 = omega (
      arith,
      bound,
      ap length third.split,
      long-3,
      length-append (front-1 ++ size ++ c.args.piece.now ++ 0 ∷ []) third.rest,
      length-append (front-1 ++ size ++ c.args.piece.now) (0 ∷ []),
    ) in (
      size ++ (c.args.piece.now ++ 0 ∷ third.rest),
      record { rest = third.rest; split = refl; fits = fits },
      λ image left. record {
        gate = closed.gate;
        split = only image left ∙ third.split
            ∙ reordered front closed.gate size c.args.piece.now third.rest;
      },
    )) c.sync.ensures.durable
