-- Reading records from the front of an image on.
use Rattle.std.proofs.Common.{◌≡◌, inl, ⊎_elim, inr, ℕ, ◌+◌, ◌-◌, ◌<◌, ◌≤◌, ◌^◌, List, [], ◌∷◌, ◌++◌, length, get_or}
use Rattle.std.proofs.Common.{take, drop, refl, sym, ◌∙◌, ap, arith, append_assoc, length-append, length-take}
use Rattle.std.proofs.Common.{length-drop, take-append-drop}
use Rattle.std.proofs.lemmas.List.{take_at, drop_at, length-take-le}
use Rattle.std.proofs.lemmas.Nat.{from_be_bytes-to_be_bytes_8, be_bytes_8}
use Rattle.std.proofs.Math.Seq.{take-append-add}
use Rattle.std.specs.Int.{w64, to_be_bytes, from_be_bytes}
use borrow.Rule.Slice.PartMut.{put_mid, post_of}
use Rattle.journal_disk.specs.Disk.{Elapses, OnlyRead, Stays}
use Rattle.journal_disk.specs.Log.{Each}
use Rattle.journal_disk.specs.Records.{IsRecord, NoRecord, HasPieces, records, AllFit, IsFront}
use Rattle.journal_disk.proofs.Pieces.{records-append, records-push, fit-push}
use Rattle.journal_disk.proofs.Kept.{length-push, concat-push}

module _ {D : Type 0} (seen : D → List ℕ) (may_leave : D → List ℕ → Type 0) (moment : D → ℕ)
    (left_since : D → ℕ → List ℕ → Type 0) where
  pub nothing_read : (old : D) → OnlyRead seen may_leave moment left_since old old
  nothing_read old = record {
    same = refl;
    no_more = λ c left. left;
    later = omega arith;
    nothing_else = λ t c le left. inl left;
  }

  -- one more call that changes nothing
  pub read_more : (old mid new : D) → OnlyRead seen may_leave moment left_since old mid → seen new ≡ seen mid
      → ((image : List ℕ) → may_leave new image → may_leave mid image)
      → Elapses (moment mid) (moment new) (left_since mid) (left_since new) (may_leave new)
      → OnlyRead seen may_leave moment left_since old new
  read_more old mid new so_far same no_more time = record {
    same = same ∙ so_far.same;
    no_more = λ c left. so_far.no_more c (no_more c left);
    later = omega (arith, so_far.later, time.later);
    nothing_else = λ t c le left. ⊎_elim (so_far.nothing_else t c le) (λ now. inr (so_far.no_more c (no_more c now)))
        (time.nothing_else t c (omega (arith, le, so_far.later)) left);
  }

  pub read_then : (old mid new : D) → OnlyRead seen may_leave moment left_since old mid
      → OnlyRead seen may_leave moment left_since mid new → OnlyRead seen may_leave moment left_since old new
  read_then old mid new first second = record {
    same = second.same ∙ first.same;
    no_more = λ c left. first.no_more c (second.no_more c left);
    later = omega (arith, first.later, second.later);
    nothing_else = λ t c le left. ⊎_elim (first.nothing_else t c le) (λ then_left. inr (first.no_more c then_left))
        (second.nothing_else t c (omega (arith, le, first.later)) left);
  }

  -- reading leaves what each image has
  pub read_stays : (old new : D) (P : List ℕ → Type 0)
      → ((image : List ℕ) → left_since old (moment old) image → may_leave old image) → Each (may_leave old) P
      → OnlyRead seen may_leave moment left_since old new → Stays moment left_since may_leave old new P
  read_stays old new P only_now all read = record {
    moments = record {
      later = read.later;
      each = λ c left. ⊎_elim (λ then_left. all c (only_now c then_left)) (all c)
          (read.nothing_else (moment old) c (omega arith) left);
      before = λ t c le left. ⊎_elim (λ then_left. inl then_left) (λ now. inr (all c now))
          (read.nothing_else t c le left);
    };
    now = λ c left. all c (read.no_more c left);
  }

pub take_split : (d n : ℕ) (xs : List ℕ) → d ≤ length xs → take (d + n) xs ≡ take d xs ++ take n (drop d xs)
take_split d n xs le =
    let size : length (take d xs) ≡ d = length-take-le d xs le in
    ap (λ (l : List ℕ). take (d + n) l) (sym (take-append-drop d xs))
    ∙ ap (λ (m : ℕ). take (m + n) (take d xs ++ drop d xs)) (sym size)
    ∙ take-append-add (take d xs) (drop d xs) n

-- the front of what is read grows
pub front_grows : (into now source rest : List ℕ) (d k n : ℕ) → d ≤ length into → d ≤ length source
    → n ≤ length source - d → now ≡ take n (drop d source) ++ rest → take d into ≡ take d source
    → take (d + n) (put_mid d k into now) ≡ take (d + n) source
front_grows into now source rest d k n in_into in_source enough is before =
    let front = take d into ++ take n (drop d source) in
    let size : length front ≡ d + n = omega (
      arith,
      length-append (take d into) (take n (drop d source)),
      length-take-le d into in_into,
      length-take-le n (drop d source) (omega (arith, length-drop d source)),
      length-drop d source,
    ) in
    let whole : put_mid d k into now ≡ front ++ (rest ++ post_of d k into) =
    ap (λ (l : List ℕ). take d into ++ (l ++ post_of d k into)) is
    ∙ ap (λ (l : List ℕ). take d into ++ l) (append_assoc (take n (drop d source)) rest (post_of d k into))
    ∙ sym (append_assoc (take d into) (take n (drop d source)) (rest ++ post_of d k into)) in
    ap (λ (l : List ℕ). take (d + n) l) whole ∙ take_at front (rest ++ post_of d k into) (d + n) size
    ∙ ap (λ (l : List ℕ). l ++ take n (drop d source)) before ∙ sym (take_split d n source in_source)

-- a front that is as long as was asked for is within
pub front_within : (xs ys : List ℕ) (m : ℕ) → take m xs ≡ take m ys → m ≤ length ys → m ≤ length xs
front_within xs ys m same le = omega (arith, ap length same, length-take m xs, length-take-le m ys le)

-- what a record's head says
pub record HeadSays (gate : ℕ) (size rest piece : List ℕ) : Type 0 where
  pub is_open : gate ≡ 1
  pub count : from_be_bytes w64 size ≡ length piece
  pub room : length piece < length rest

pub head_says : (gate : ℕ) (size rest piece behind : List ℕ) → length size ≡ 8
    → IsRecord (gate ∷ (size ++ rest)) piece behind → HeadSays gate size rest piece
head_says gate size rest piece behind eight stands =
    let tails : size ++ rest ≡ to_be_bytes w64 (length piece) ++ (piece ++ behind) =
    ap (λ (l : List ℕ). drop 1 l) stands.split in
    let sizes : size ≡ to_be_bytes w64 (length piece) =
    sym (take_at size rest 8 eight) ∙ ap (λ (l : List ℕ). take 8 l) tails
    ∙ take_at (to_be_bytes w64 (length piece)) (piece ++ behind) 8 refl in
    let rests : rest ≡ piece ++ behind = sym (drop_at size rest 8 eight) ∙ ap (λ
    (l : List ℕ). drop 8 l) tails ∙ drop_at (to_be_bytes w64 (length piece)) (piece ++ behind) 8 refl in
    record {
      is_open = ap (λ (l : List ℕ). get_or l 0 0) stands.split;
      count = ap (λ (l : List ℕ). from_be_bytes w64 l) sizes ∙ from_be_bytes-to_be_bytes_8 (length piece) stands.fits;
      room = omega (arith, ap length rests, length-append piece behind, stands.followed);
    }

-- a head with room for the piece behind it is a record's
pub stands : (size rest : List ℕ) (count : ℕ) → length size ≡ 8 → ((i : ℕ) → get_or size i 0 < 256)
    → count ≡ from_be_bytes w64 size → count < 2 ^ 64 → count < length rest
    → (piece : List ℕ) × (behind : List ℕ) × (length piece ≡ count) × IsRecord (1 ∷ (size ++ rest)) piece behind
stands size rest count eight small is fits room =
    let long : length (take count rest) ≡ count = length-take-le count rest (omega arith) in
    let sizes : size ≡ to_be_bytes w64 (length (take count rest)) =
    sym (be_bytes_8 size count eight small is) ∙ ap (λ (n : ℕ). to_be_bytes w64 n) (sym long) in (
      take count rest,
      drop count rest,
      long,
      record {
        split = ap (λ (l : List ℕ). 1 ∷ (size ++ l)) (sym (take-append-drop count rest))
            ∙ ap (λ (l : List ℕ). 1 ∷ (l ++ (take count rest ++ drop count rest))) sizes;
        fits = omega (arith, long, fits);
        followed = omega (arith, length-drop count rest, room);
      },
    )

-- the gate, the length and the rest of what stands at a place
pub head_split : (image gate size : List ℕ) → 9 ≤ length image → gate ≡ take 1 image → size ≡ take 8 (drop 1 image)
    → image ≡ get_or gate 0 0 ∷ (size ++ drop 9 image)
head_split [] gate size long is_gate is_size = absurd (omega arith)
head_split (first ∷ image) gate size long is_gate is_size =
    ap (λ (n : ℕ). n ∷ image) (sym (ap (λ (l : List ℕ). get_or l 0 0) is_gate))
    ∙ ap (λ (l : List ℕ). get_or gate 0 0 ∷ l) (sym (take-append-drop 8 image)
    ∙ ap (λ (l : List ℕ). l ++ drop 8 image) (sym is_size))

pub some_left : (pieces : List (List ℕ)) (rest : List ℕ) → 0 < length rest → 0 < length (records pieces rest)
some_left [] rest behind = behind
some_left (piece ∷ pieces) rest behind = omega arith

-- the records of an image whose rest holds none
pub records_pieces : (pieces : List (List ℕ)) (rest : List ℕ) → AllFit pieces → NoRecord rest → 0 < length rest
    → HasPieces (records pieces rest) pieces
records_pieces [] rest fit none behind = none
records_pieces (piece ∷ pieces) rest fit none behind = (
  records pieces rest,
  record { split = refl; fits = fit.0; followed = some_left pieces rest behind },
  records_pieces pieces rest fit.1 none behind,
)

pub at_front : (image : List ℕ) (place held : ℕ) (front : IsFront image place held) → drop place image ≡ front.rest
at_front image place held front =
    ap (λ (l : List ℕ). drop place l) (front.split ∙ sym (records-append front.pieces front.rest))
    ∙ drop_at (records front.pieces []) front.rest place (sym front.at)

-- one record more
pub front_more : (image : List ℕ) (place held : ℕ) (piece rest : List ℕ) → IsFront image place held
    → IsRecord (drop place image) piece rest → IsFront image (place + (9 + length piece)) (held + length piece)
front_more image place held piece rest front found = record {
  pieces = front.pieces ++ piece ∷ [];
  rest = rest;
  split = front.split ∙ ap (λ (l : List ℕ). records front.pieces l)
      (sym (at_front image place held front) ∙ found.split) ∙ sym (records-push front.pieces piece rest);
  followed = found.followed;
  fit = fit-push front.pieces piece front.fit found.fits;
  at = omega (arith, front.at, length-push front.pieces piece);
  bytes = omega (arith, front.bytes, concat-push front.pieces piece);
}

pub front_begins : (image : List ℕ) → 0 < length image → IsFront image 0 0
front_begins image behind = record {
  pieces = [];
  rest = image;
  split = refl;
  followed = behind;
  fit = tt;
  at = refl;
  bytes = refl;
}
