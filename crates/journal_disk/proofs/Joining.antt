-- What is read of pieces that are joined.
use Rattle.std.proofs.Common.{◌≡◌, inl, inr, ◌⊎◌, ℕ, ◌+◌, ◌-◌, ◌<◌, ◌≤◌, min, List, [], ◌∷◌, ◌++◌, length, take, drop}
use Rattle.std.proofs.Common.{refl, sym, ◌∙◌, ap, subst, arith, append_assoc, length-take, take-append-drop}
use Rattle.std.proofs.lemmas.List.{append-nil, take_at, take_all, take_min, drop_at, drop-drop, take-append-le}
use Rattle.std.proofs.lemmas.List.Folds.{concat-append}
use Rattle.std.proofs.Math.Seq.{take-append-add}
use Rattle.std.specs.Int.{w64, to_be_bytes}
use Rattle.std.specs.List.{concat}
use Rattle.std.specs.Prelude.{Option, Some, None}
use Rattle.journal_disk.specs.Records.{IsRecord, NoRecord, HasPieces, records, AllFit, IsFront}
use Rattle.journal_disk.specs.Log.{IsKept}
use Rattle.journal_disk.proofs.Pieces.{same_piece, same_rest, records-push, fit-push}
use Rattle.journal_disk.proofs.Kept.{length-push, concat-push}
use Rattle.journal_disk.proofs.Scanning.{take_split, at_front, some_left}

-- one more part of what is read
pub reads_on : (base before after source part : List ℕ) (d n : ℕ) → d ≤ length source → before ≡ base ++ take d source
    → part ≡ drop d source → after ≡ before ++ take n part → after ≡ base ++ take (d + n) source
reads_on base before after source part d n within so_far rest is =
    is ∙ ap (λ (l : List ℕ). l ++ take n part) so_far ∙ append_assoc base (take d source) (take n part)
    ∙ ap (λ (l : List ℕ). base ++ (take d source ++ take n l)) rest
    ∙ ap (λ (l : List ℕ). base ++ l) (sym (take_split d n source within))

-- the pieces begin with those of the records that stand in front
pub pieces_after : (front : List (List ℕ)) (rest : List ℕ) (pieces : List (List ℕ)) → AllFit front → 0 < length rest
    → HasPieces (records front rest) pieces
    → (others : List (List ℕ)) × (pieces ≡ front ++ others) × HasPieces rest others
pieces_after [] rest pieces fit behind has = (pieces, refl, has)
pieces_after (first ∷ front) rest [] fit behind has = absurd
    (has first (records front rest) (record { split = refl; fits = fit.0; followed = some_left front rest behind }))
pieces_after (first ∷ front) rest (piece ∷ pieces) fit behind has =
    let stands : IsRecord (records (first ∷ front) rest) first (records front rest) =
    record { split = refl; fits = fit.0; followed = some_left front rest behind } in
    let same = same_rest (records (first ∷ front) rest) first (records front rest) piece has.0 stands has.1 in
    let after = pieces_after front rest pieces fit.1 behind
    (subst (λ (l : List ℕ). HasPieces l pieces) (sym same) has.2) in (
      after.0,
      ap (λ (l : List (List ℕ)). piece ∷ l) after.1
          ∙ ap (λ (p : List ℕ). p ∷ (front ++ after.0))
          (sym (same_piece (records (first ∷ front) rest) first (records front rest) piece has.0 stands has.1)),
      after.2,
    )

module _ (image : List ℕ) (place held : ℕ) (front : IsFront image place held) (pieces : List (List ℕ))
    (has : HasPieces image pieces) where
  abbrev after_front : (others : List (List ℕ)) × (pieces ≡ front.pieces ++ others) × HasPieces front.rest others
  after_front = pieces_after front.pieces front.rest pieces front.fit front.followed
      (subst (λ (l : List ℕ). HasPieces l pieces) front.split has)

  pub joined : concat pieces ≡ concat front.pieces ++ concat after_front.0
  joined = ap concat after_front.1 ∙ concat-append front.pieces after_front.0

  -- where enough is held, the rest doesn't count
  pub enough : (most : ℕ) → most ≤ held → take most (concat pieces) ≡ take most (concat front.pieces)
  enough most le = ap (λ (l : List ℕ). take most l) joined
      ∙ take-append-le most (concat front.pieces) (concat after_front.0) (omega (arith, le, front.bytes))

  no_others : (others : List (List ℕ)) → HasPieces front.rest others → NoRecord front.rest → others ≡ []
  no_others [] other none = refl
  no_others (piece ∷ others) other none = absurd (none piece other.0 other.1)

  -- where no record stands behind, that is all
  pub all_held : NoRecord (drop place image) → concat pieces ≡ concat front.pieces
  all_held none =
      let no_rest = subst NoRecord (at_front image place held front) none in
      ap concat (after_front.1 ∙ ap (λ (l : List (List ℕ)). front.pieces
      ++ l) (no_others after_front.0 after_front.2 no_rest) ∙ append-nil front.pieces)

  pub all_read : (most : ℕ) → ((most - held ≡ 0) ⊎ NoRecord (drop place image))
      → take most (concat front.pieces) ≡ take most (concat pieces)
  all_read most (inl none_left) = sym (enough most (omega (arith, none_left)))
  all_read most (inr none) = ap (λ (l : List ℕ). take most l) (sym (all_held none))

  -- what is read of the front is some front of the whole
  pub some_read : (most : ℕ) → (count : ℕ) × (count ≤ most)
      × (take most (concat front.pieces) ≡ take count (concat pieces))
  some_read most =
      let read = take most (concat front.pieces) in
      let rest = drop most (concat front.pieces) ++ concat after_front.0 in
      let whole : concat pieces ≡ read ++ rest = joined ∙ ap (λ (l : List ℕ). l
      ++ concat after_front.0) (sym (take-append-drop most (concat front.pieces)))
      ∙ append_assoc read (drop most (concat front.pieces)) (concat after_front.0) in (
        length read,
        omega (arith, length-take most (concat front.pieces)),
        sym (ap (λ (l : List ℕ). take (length read) l) whole ∙ take_at read rest (length read) refl),
      )

-- one record more, and its piece behind what is held
pub front_and_more : (image : List ℕ) (place held n : ℕ) (piece rest : List ℕ) (front : IsFront image place held)
    → length piece ≡ n → IsRecord (drop place image) piece rest
    → (more : IsFront image (place + (9 + n)) (held + n)) × (concat more.pieces ≡ concat front.pieces ++ piece)
front_and_more image place held n piece rest front is stands =
    let joined : concat (front.pieces ++ piece ∷ []) ≡ concat front.pieces
    ++ piece = concat-append front.pieces (piece ∷ [])
    ∙ ap (λ (l : List ℕ). concat front.pieces ++ l) (append-nil piece) in
    let more : IsFront image (place + (9 + length piece)) (held + length piece) = record {
      pieces = front.pieces ++ piece ∷ [];
      rest = rest;
      split = front.split ∙ ap (λ (l : List ℕ). records front.pieces l)
          (sym (at_front image place held front) ∙ stands.split) ∙ sym (records-push front.pieces piece rest);
      followed = stands.followed;
      fit = fit-push front.pieces piece front.fit stands.fits;
      at = omega (arith, front.at, length-push front.pieces piece);
      bytes = omega (arith, front.bytes, concat-push front.pieces piece);
    } in
    subst (λ (m : ℕ). (longer : IsFront image (place + (9 + m)) (held + m))
    × (concat longer.pieces ≡ concat front.pieces ++ piece)) is (more, joined)

-- what stands behind a record's length
pub behind_head : (image : List ℕ) (place : ℕ) (piece rest : List ℕ) → IsRecord (drop place image) piece rest
    → drop (place + 9) image ≡ piece ++ rest
behind_head image place piece rest stands =
    sym (drop-drop 9 place image) ∙ ap (λ (l : List ℕ). drop 9 l) stands.split
    ∙ drop_at (to_be_bytes w64 (length piece)) (piece ++ rest) 8 refl

-- a part of the next piece, behind what was read, where more is wanted than was held
pub part_read : (base into now held_bytes piece rest behind : List ℕ) (most k : ℕ) → length held_bytes ≤ most
    → into ≡ base ++ take most held_bytes → behind ≡ piece ++ rest → k ≤ length piece
    → now ≡ into ++ take k behind → now ≡ base ++ (held_bytes ++ take k piece)
part_read base into now held_bytes piece rest behind most k wanted so_far is within read =
    read ∙ ap (λ (l : List ℕ). l ++ take k behind)
    (so_far ∙ ap (λ (l : List ℕ). base ++ l) (take_all most held_bytes wanted))
    ∙ append_assoc base held_bytes (take k behind)
    ∙ ap (λ (l : List ℕ). base ++ (held_bytes ++ l))
    (ap (λ (l : List ℕ). take k l) is ∙ take-append-le k piece rest within)

-- the wanted part of the next piece
pub next_read : (held_bytes piece : List ℕ) (most left k : ℕ) → length held_bytes ≤ most
    → left ≡ most - length held_bytes → k ≡ min (length piece) left → held_bytes
    ++ take k piece ≡ take most (held_bytes ++ piece)
next_read held_bytes piece most left k wanted left_is k_is =
    let most_is : length held_bytes + left ≡ most = omega (arith, left_is, wanted) in
    let turned : k ≡ min left (length piece) = omega (arith, k_is) in
    ap (λ (l : List ℕ). held_bytes ++ l) (ap (λ (n : ℕ). take n piece) turned ∙ take_min left piece)
    ∙ sym (take-append-add held_bytes piece left) ∙ ap (λ (n : ℕ). take n (held_bytes ++ piece)) most_is

-- a part of the next piece ends a front of the whole
part_is_front : (held_bytes piece more whole : List ℕ) (most k : ℕ) → whole ≡ (held_bytes ++ piece) ++ more
    → length held_bytes + k ≤ most → k ≤ length piece
    → (count : ℕ) × (count ≤ most) × (held_bytes ++ take k piece ≡ take count whole)
part_is_front held_bytes piece more whole most k is room within = (
  length held_bytes + k,
  room,
  sym (ap (λ (l : List ℕ). take (length held_bytes + k) l) (is ∙ append_assoc held_bytes piece more)
      ∙ take-append-add held_bytes (piece ++ more) k
      ∙ ap (λ (l : List ℕ). held_bytes ++ l) (take-append-le k piece more within)),
)

pub next_is_front : (image : List ℕ) (place held n : ℕ) (piece rest : List ℕ) (front : IsFront image place held)
    → length piece ≡ n → IsRecord (drop place image) piece rest → (pieces : List (List ℕ)) → HasPieces image pieces
    → (most k : ℕ) → held + k ≤ most → k ≤ length piece → (count : ℕ) × (count ≤ most)
    × (concat front.pieces ++ take k piece ≡ take count (concat pieces))
next_is_front image place held n piece rest front is stands pieces has most k room within =
    let more = front_and_more image place held n piece rest front is stands in
    let others = (after_front image (place + (9 + n)) (held + n) more.0 pieces has).0 in
    let whole : concat pieces ≡ (concat front.pieces ++ piece) ++ concat others =
    joined image (place + (9 + n)) (held + n) more.0 pieces has ∙ ap (λ (l : List ℕ). l ++ concat others) more.1 in
    part_is_front (concat front.pieces) piece (concat others) (concat pieces) most k whole
    (omega (arith, room, front.bytes)) within

-- the first kept bytes are those of the kept pieces, whatever stands behind them
kept_all : (pieces : List (List ℕ)) (doubted : Option (List ℕ)) (image : List ℕ) → IsKept pieces doubted image
    → (all : List (List ℕ)) × HasPieces image all × ((count : ℕ) → count ≤ length (concat pieces)
    → take count (concat all) ≡ take count (concat pieces))
kept_all pieces None image (inl has) = (pieces, has, λ count le. refl)
kept_all pieces None image (inr none) = absurd none
kept_all pieces (Some piece) image (inl has) = (pieces, has, λ count le. refl)
kept_all pieces (Some piece) image (inr has) = (
  pieces ++ piece ∷ [],
  has,
  λ count le. ap (λ (l : List ℕ). take count l) (concat-append pieces (piece ∷ []))
      ∙ take-append-le count (concat pieces) (concat (piece ∷ [])) le,
)

-- what is read of them into no bytes
pub first_read : (pieces : List (List ℕ)) (doubted : Option (List ℕ)) (image none bytes : List ℕ) (most : ℕ)
    → IsKept pieces doubted image → none ≡ [] → most ≤ length (concat pieces)
    → ((all : List (List ℕ)) → HasPieces image all → bytes ≡ none ++ take most (concat all))
    → bytes ≡ take most (concat pieces)
first_read pieces doubted image none bytes most kept empty within read =
    let all = kept_all pieces doubted image kept in
    read all.0 all.1 ∙ ap (λ (l : List ℕ). l ++ take most (concat all.0)) empty ∙ all.2 most within

pub some_first : (pieces : List (List ℕ)) (doubted : Option (List ℕ)) (image none bytes : List ℕ) (most : ℕ)
    → IsKept pieces doubted image → none ≡ [] → most ≤ length (concat pieces)
    → ((all : List (List ℕ)) → HasPieces image all → (count : ℕ) × (count ≤ most)
    × (bytes ≡ none ++ take count (concat all))) → (count : ℕ) × (bytes ≡ take count (concat pieces))
some_first pieces doubted image none bytes most kept empty within read =
    let all = kept_all pieces doubted image kept in
    let some = read all.0 all.1 in (
      some.0,
      some.2 ∙ ap (λ (l : List ℕ). l ++ take some.0 (concat all.0)) empty
          ∙ all.2 some.0 (omega (arith, some.1, within)),
    )
