-- The pieces of images.
use Rattle.std.proofs.Common.{◌≡◌, inl, inr, ℕ, ◌<◌, ◌^◌, List, [], ◌∷◌, ◌++◌, length, get_or, take, drop, refl, sym}
use Rattle.std.proofs.Common.{◌∙◌, ap, subst, arith, append_assoc}
use Rattle.std.proofs.lemmas.List.{take_at, drop_at}
use Rattle.std.proofs.lemmas.Nat.{from_be_bytes-to_be_bytes_8}
use Rattle.std.proofs.lemmas.Bool.{cases_eq}
use Rattle.std.specs.Prelude.{Some}
use Rattle.std.specs.Int.{w64, to_be_bytes, from_be_bytes}
use Rattle.journal_disk.specs.Records.{framed, IsRecord, NoRecord, HasPieces, records, AllFit, OneListOfPieces}
use Rattle.journal_disk.specs.Records.{ClosedGateEnds}
use Rattle.journal_disk.specs.Log.{IsClosedBehind, IsGated, IsWhole, IsKept}

-- two records at one place are one
module _ (image piece rest other behind : List ℕ) (first : IsRecord image piece rest)
    (second : IsRecord image other behind) where
  same_bytes : to_be_bytes w64 (length piece) ++ (piece ++ rest) ≡ to_be_bytes w64 (length other) ++ (other ++ behind)
  same_bytes = ap (λ (l : List ℕ). drop 1 l) (sym first.split ∙ second.split)

  same_length : length piece ≡ length other
  same_length = let fronts = sym (take_at (to_be_bytes w64 (length piece)) (piece ++ rest) 8 refl)
      ∙ ap (λ (l : List ℕ). take 8 l) same_bytes
      ∙ take_at (to_be_bytes w64 (length other)) (other ++ behind) 8 refl in
      sym (from_be_bytes-to_be_bytes_8 (length piece) first.fits) ∙ ap (λ (l : List ℕ). from_be_bytes w64 l) fronts
      ∙ from_be_bytes-to_be_bytes_8 (length other) second.fits

  same_behind : piece ++ rest ≡ other ++ behind
  same_behind = sym (drop_at (to_be_bytes w64 (length piece)) (piece ++ rest) 8 refl)
      ∙ ap (λ (l : List ℕ). drop 8 l) same_bytes ∙ drop_at (to_be_bytes w64 (length other)) (other ++ behind) 8 refl

  pub same_piece : piece ≡ other
  same_piece = sym (take_at piece rest (length piece) refl) ∙ ap (λ (l : List ℕ). take (length piece) l) same_behind
      ∙ take_at other behind (length piece) (sym same_length)

  pub same_rest : rest ≡ behind
  same_rest = sym (drop_at piece rest (length piece) refl) ∙ ap (λ (l : List ℕ). drop (length piece) l) same_behind
      ∙ drop_at other behind (length piece) (sym same_length)

pub one_list : OneListOfPieces
one_list image [] [] has also = refl
one_list image [] (other ∷ others) has also = absurd (has other also.0 also.1)
one_list image (piece ∷ pieces) [] has also = absurd (also piece has.0 has.1)
one_list image (piece ∷ pieces) (other ∷ others) has also =
    let rest_is = same_rest image piece has.0 other also.0 has.1 also.1 in
    let pieces_are : pieces ≡ others = one_list also.0 pieces others (subst
    (λ (l : List ℕ). HasPieces l pieces) rest_is has.2) also.2 in
    ap (λ (p : List ℕ). p ∷ pieces) (same_piece image piece has.0 other also.0 has.1 also.1)
    ∙ ap (λ (ps : List (List ℕ)). other ∷ ps) pieces_are

-- where the gate isn't open, no record stands
pub shut_no_record : (gate : ℕ) (rest : List ℕ) → (gate ≡ 1 → ⊥) → NoRecord (gate ∷ rest)
shut_no_record gate rest shut piece behind stands = shut (ap (λ (l : List ℕ). get_or l 0 0) stands.split)

some_behind : (pieces : List (List ℕ)) (gate : ℕ) (rest : List ℕ) → 0 < length (records pieces (gate ∷ rest))
some_behind [] gate rest = omega arith
some_behind (piece ∷ pieces) gate rest = omega arith

pub closed_gate_ends : ClosedGateEnds
closed_gate_ends [] gate rest fit shut = shut_no_record gate rest shut
closed_gate_ends (piece ∷ pieces) gate rest fit shut = (
  records pieces (gate ∷ rest),
  record { split = refl; fits = fit.0; followed = some_behind pieces gate rest },
  closed_gate_ends pieces gate rest fit.1 shut,
)

-- the bytes behind the records are appended
pub records-append : (pieces : List (List ℕ)) (rest : List ℕ) → records pieces [] ++ rest ≡ records pieces rest
records-append [] rest = refl
records-append (piece ∷ pieces) rest =
    ap (λ (l : List ℕ). 1 ∷ l) (append_assoc (to_be_bytes w64 (length piece)) (piece ++ records pieces []) rest
    ∙ ap (λ (l : List ℕ). to_be_bytes w64 (length piece) ++ l)
    (append_assoc piece (records pieces []) rest ∙ ap (λ (l : List ℕ). piece ++ l) (records-append pieces rest)))

-- the last record
pub records-push : (pieces : List (List ℕ)) (piece rest : List ℕ)
    → records (pieces ++ piece ∷ []) rest ≡ records pieces (framed 1 piece rest)
records-push [] piece rest = refl
records-push (first ∷ pieces) piece rest = ap (λ (l : List ℕ). framed 1 first l) (records-push pieces piece rest)

pub fit-push : (pieces : List (List ℕ)) (piece : List ℕ) → AllFit pieces → length piece < 2 ^ 64
    → AllFit (pieces ++ piece ∷ [])
fit-push [] piece fit fits = (fits, tt)
fit-push (first ∷ pieces) piece fit fits = (fit.0, fit-push pieces piece fit.1 fits)

pub closed_pieces : (pieces : List (List ℕ)) (image : List ℕ) → AllFit pieces → IsClosedBehind (records pieces []) image
    → HasPieces image pieces
closed_pieces pieces image fit closed =
    subst (λ (l : List ℕ). HasPieces l pieces) (sym (closed.split ∙ records-append pieces (closed.gate ∷ closed.rest)))
    (closed_gate_ends pieces closed.gate closed.rest fit closed.shut)

-- an open gate before a whole piece makes it the last record
pub open_whole : (pieces : List (List ℕ)) (piece behind : List ℕ) (whole : IsWhole piece behind) → records pieces []
    ++ 1 ∷ behind ≡ records (pieces ++ piece ∷ []) [] ++ 0 ∷ whole.rest
open_whole pieces piece behind whole =
    records-append pieces (1 ∷ behind) ∙ ap (λ (l : List ℕ). records pieces l) (sym whole.split)
    ∙ sym (records-push pieces piece (0 ∷ whole.rest))
    ∙ sym (records-append (pieces ++ piece ∷ []) (0 ∷ whole.rest))

-- a gate before a whole piece is open or it isn't
pub gated_pieces : (pieces : List (List ℕ)) (piece behind image : List ℕ) → AllFit pieces → IsWhole piece behind
    → IsGated (records pieces []) behind image → IsKept pieces (Some piece) image
gated_pieces pieces piece behind image fit whole gated = elim (cases_eq gated.gate 1) [
  | inl is_open ↦
      let opened : image ≡ records pieces [] ++ 1 ∷ behind =
      gated.split ∙ ap (λ (n : ℕ). records pieces [] ++ n ∷ behind) is_open in
      inr (closed_pieces (pieces ++ piece ∷ []) image (fit-push pieces piece fit whole.fits)
      (record {
        gate = 0;
        rest = whole.rest;
        split = opened ∙ open_whole pieces piece behind whole;
        shut = λ h. absurd (omega arith);
      }))
  | inr shut ↦ inl (closed_pieces pieces image fit
      (record { gate = gated.gate; rest = behind; split = gated.split; shut = shut }))
]
