-- The end of the records, as opening leaves it.
use Rattle.std.proofs.Common.{◌≡◌, inl, inr, ℕ, ◌<◌, false, List, [], ◌∷◌, ◌++◌, length, get_or, drop, refl, sym, ◌∙◌}
use Rattle.std.proofs.Common.{ap, subst, arith, length-append}
use Rattle.std.proofs.lemmas.Bool.{cases_eq}
use Rattle.std.specs.Prelude.{None}
use Rattle.std.specs.Int.{w64, to_be_bytes}
use Rattle.journal_disk.specs.Disk.{Only}
use Rattle.journal_disk.specs.Records.{IsRecord, NoRecord, HasPieces, records, IsFront}
use Rattle.journal_disk.specs.Log.{Each, Keeps, IsGated, IsShort}
use Rattle.journal_disk.proofs.Pieces.{closed_pieces, records-append}
use Rattle.journal_disk.proofs.Scanning.{at_front, records_pieces}

first_of_rest : (rest : List ℕ) → 0 < length rest → rest ≡ get_or rest 0 0 ∷ drop 1 rest
first_of_rest [] some = absurd (omega arith)
first_of_rest (first ∷ rest) some = refl

-- a record has ten bytes at least
long_record : (image piece rest : List ℕ) → IsRecord image piece rest → 9 < length image
long_record image piece rest found =
    let eight : length (to_be_bytes w64 (length piece)) ≡ 8 = refl in
    omega (
      arith,
      ap length found.split,
      eight,
      length-append (to_be_bytes w64 (length piece)) (piece ++ rest),
      length-append piece rest,
      found.followed,
    )

pub short_none : (image : List ℕ) → IsShort image → NoRecord image
short_none image short piece rest found = absurd (omega (arith, short, long_record image piece rest found))

-- where the image was empty, one byte at most changes nothing
pub short_pieces : (seen image : List ℕ) (pieces : List (List ℕ)) → length seen ≡ 0 → HasPieces seen pieces
    → IsShort image → HasPieces image pieces
short_pieces seen image [] empty has short = short_none image short
short_pieces seen image (piece ∷ pieces) empty has short =
    absurd (omega (arith, empty, long_record seen piece has.0 has.1))

module _ (seen : List ℕ) (place held : ℕ) (front : IsFront seen place held) (none : NoRecord (drop place seen)) where
  no_rest : NoRecord front.rest
  no_rest = subst NoRecord (at_front seen place held front) none

  pub found : HasPieces seen front.pieces
  found = subst (λ (l : List ℕ). HasPieces l front.pieces) (sym front.split)
      (records_pieces front.pieces front.rest front.fit no_rest front.followed)

  gate_is : get_or (drop place seen) 0 0 ≡ get_or front.rest 0 0
  gate_is = ap (λ (l : List ℕ). get_or l 0 0) (at_front seen place held front)

  rest_is : front.rest ≡ get_or front.rest 0 0 ∷ drop 1 front.rest
  rest_is = first_of_rest front.rest front.followed

  seen_is : seen ≡ records front.pieces [] ++ get_or front.rest 0 0 ∷ drop 1 front.rest
  seen_is = front.split ∙ sym (records-append front.pieces front.rest)
      ∙ ap (λ (l : List ℕ). records front.pieces [] ++ l) rest_is

  -- a gate that isn't open closes them
  pub shut_end : (images : List ℕ → Type 0) → Only seen images → (get_or (drop place seen) 0 0 ≡ 1 → ⊥)
      → Keeps images place held false front.pieces None
  shut_end images only shut = record {
    fit = front.fit;
    place = front.at;
    bytes = front.bytes;
    ends = (
      refl,
      λ image left. record {
        gate = get_or front.rest 0 0;
        rest = drop 1 front.rest;
        split = only image left
            ∙ seen_is;
        shut = λ is_open. shut (gate_is ∙ is_open);
      },
    );
  }

  pub end_gated : (images : List ℕ → Type 0) → Only seen images
      → Each images (IsGated (records front.pieces []) (drop 1 front.rest))
  end_gated images only image left = record { gate = get_or front.rest 0 0; split = only image left ∙ seen_is }

  -- whatever the open gate at the end is torn to, the pieces are the same
  pub torn_end : get_or (drop place seen) 0 0 ≡ 1 → (image : List ℕ)
      → IsGated (records front.pieces []) (drop 1 front.rest) image → HasPieces image front.pieces
  torn_end is_open image gated = elim (cases_eq gated.gate 1) [
    | inl still ↦
        let same : image ≡ seen = gated.split ∙ ap (λ (gate : ℕ). records front.pieces []
        ++ gate ∷ drop 1 front.rest) (still ∙ sym is_open ∙ gate_is) ∙ sym seen_is in
        subst (λ (l : List ℕ). HasPieces l front.pieces) (sym same) found
    | inr shut ↦ closed_pieces front.pieces image front.fit
        (record { gate = gated.gate; rest = drop 1 front.rest; split = gated.split; shut = shut })
  ]

  pub closed_end : (images : List ℕ → Type 0) → Only (records front.pieces [] ++ 0 ∷ drop 1 front.rest) images
      → Keeps images place held false front.pieces None
  closed_end images only = record {
    fit = front.fit;
    place = front.at;
    bytes = front.bytes;
    ends = (
      refl,
      λ image left. record {
        gate = 0;
        rest = drop 1 front.rest;
        split = only image left;
        shut = λ h. absurd (omega arith);
      },
    );
  }

-- an empty log
pub first_gate : (images : List ℕ → Type 0) → Only (0 ∷ []) images → Keeps images 0 0 false [] None
first_gate images only = record {
  fit = tt;
  place = refl;
  bytes = refl;
  ends = (
    refl,
    λ image left. record {
      gate = 0;
      rest = [];
      split = only image left;
      shut = λ h. absurd (omega arith);
    },
  );
}
