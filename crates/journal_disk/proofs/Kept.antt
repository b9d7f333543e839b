-- What a log keeps, through its calls.
use Rattle.std.proofs.Common.{◌≡◌, inl, ℕ, ◌+◌, Bool, true, false, List, [], ◌∷◌, ◌++◌, length, refl, sym, ◌∙◌, ap}
use Rattle.std.proofs.Common.{arith, length-append}
use Rattle.std.specs.Prelude.{Option, Some, None, Result, Ok, Err, OnErr}
use Rattle.std.proofs.lemmas.Bool.{false≢true}
use Rattle.std.specs.List.{concat}
use Rattle.journal_disk.specs.Disk.{Only, Stays}
use Rattle.journal_disk.specs.Records.{framed, records, AllFit}
use Rattle.journal_disk.specs.Log.{Each, Keeps, IsClosedBehind, IsGated, IsWhole, IsKept}
use Rattle.journal_disk.proofs.Moments.{weaker}
use Rattle.journal_disk.proofs.Pieces.{closed_pieces, gated_pieces, open_whole, records-append, records-push, fit-push}

-- what holds, holds where a call failed
pub on_err_of : {T E P : Type 0} (r : Result T E) → P → OnErr r P
on_err_of (Ok _) p = tt
on_err_of (Err _) p = p

pub kept_images : (images : List ℕ → Type 0) (end size : ℕ) (in_doubt : Bool) (pieces : List (List ℕ))
    (doubted : Option (List ℕ)) → Keeps images end size in_doubt pieces doubted → Each images (IsKept pieces doubted)
kept_images images end size in_doubt pieces None keeps image left =
    inl (closed_pieces pieces image keeps.fit (keeps.ends.1 image left))
kept_images images end size in_doubt pieces (Some piece) keeps image left =
    gated_pieces pieces piece keeps.ends.1.0 image keeps.fit keeps.ends.1.1 (keeps.ends.1.2 image left)

pub length-push : (pieces : List (List ℕ)) (piece : List ℕ)
    → length (records (pieces ++ piece ∷ []) []) ≡ length (records pieces []) + (9 + length piece)
length-push pieces piece =
    let split : records (pieces ++ piece ∷ []) [] ≡ records pieces []
    ++ framed 1 piece [] = records-push pieces piece [] ∙ sym (records-append pieces (framed 1 piece [])) in
    let behind : length (framed 1 piece []) ≡ 9 + length piece = omega (arith, length-append piece []) in
    omega (arith, ap length split, behind, length-append (records pieces []) (framed 1 piece []))

pub concat-push : (pieces : List (List ℕ)) (piece : List ℕ)
    → length (concat (pieces ++ piece ∷ [])) ≡ length (concat pieces) + length piece
concat-push [] piece = omega (arith, length-append piece [])
concat-push (first ∷ pieces) piece = omega (
  arith,
  concat-push pieces piece,
  length-append first (concat (pieces ++ piece ∷ [])),
  length-append first (concat pieces),
)

-- a settled image with an open gate before a whole piece keeps it
pub acknowledged : (old new : List ℕ → Type 0) (end size : ℕ) (in_doubt : Bool) (pieces : List (List ℕ))
    (piece behind : List ℕ) → Keeps old end size in_doubt pieces None → IsWhole piece behind
    → Only (records pieces []
    ++ 1 ∷ behind) new → Keeps new (end + (9 + length piece)) (size + length piece) false
    (pieces ++ piece ∷ []) None
acknowledged old new end size in_doubt pieces piece behind keeps whole only = record {
  fit = fit-push pieces piece keeps.fit whole.fits;
  place = omega (arith, keeps.place, length-push pieces piece);
  bytes = omega (arith, keeps.bytes, concat-push pieces piece);
  ends = (
    refl,
    λ image left. record {
      gate = 0;
      rest = whole.rest;
      split = only image left
          ∙ open_whole pieces piece behind whole;
      shut = λ h. absurd (omega arith);
    },
  );
}

module _ {D : Type 0} (moment : D → ℕ) (left_since : D → ℕ → List ℕ → Type 0) (may_leave : D → List ℕ → Type 0)
    (old new : D) (end size : ℕ) (pieces : List (List ℕ)) where
  -- what a run leaves that writes gates alone, or nothing but what stands behind a closed gate
  abbrev GatesAlone : Type 0
  GatesAlone = (front behind : List ℕ) → length front ≡ end → Each (may_leave old) (IsGated front behind)
      → Stays moment left_since may_leave old new (IsGated front behind)

  pub gate_stays : (in_doubt : Bool) (doubted : Option (List ℕ)) → in_doubt ≡ true
      → Keeps (may_leave old) end size in_doubt pieces doubted → GatesAlone
      → Stays moment left_since may_leave old new (IsKept pieces doubted)
      × Keeps (may_leave new) end size in_doubt pieces doubted
  gate_stays in_doubt None is_true keeps alone = absurd (false≢true (sym keeps.ends.0 ∙ is_true))
  gate_stays in_doubt (Some piece) is_true keeps alone =
      let stays = alone (records pieces []) keeps.ends.1.0 (sym keeps.place) keeps.ends.1.2 in (
        weaker moment left_since may_leave old new (IsGated (records pieces []) keeps.ends.1.0)
            (IsKept pieces (Some piece)) stays
            (λ image gated. gated_pieces pieces piece keeps.ends.1.0 image keeps.fit keeps.ends.1.1 gated),
        record {
          fit = keeps.fit;
          place = keeps.place;
          bytes = keeps.bytes;
          ends = (is_true, (keeps.ends.1.0, keeps.ends.1.1, stays.now));
        },
      )

  -- a gate that was written shut is closed
  pub gate_shut : (in_doubt : Bool) (doubted : Option (List ℕ)) → in_doubt ≡ true
      → Keeps (may_leave old) end size in_doubt pieces doubted
      → ((front behind : List ℕ) → length front ≡ end → Each (may_leave old) (IsGated front behind)
      → Only (front ++ 0 ∷ behind) (may_leave new)) → Keeps (may_leave new) end size false pieces None
  gate_shut in_doubt None is_true keeps only = absurd (false≢true (sym keeps.ends.0 ∙ is_true))
  gate_shut in_doubt (Some piece) is_true keeps only = record {
    fit = keeps.fit;
    place = keeps.place;
    bytes = keeps.bytes;
    ends = (
      refl,
      λ image left. record {
        gate = 0;
        rest = keeps.ends.1.0;
        split = only (records pieces []) keeps.ends.1.0 (sym keeps.place) keeps.ends.1.2 image left;
        shut = λ h. absurd (omega arith);
      },
    );
  }

  pub closed_stays : (doubted : Option (List ℕ)) → AllFit pieces
      → Stays moment left_since may_leave old new (IsClosedBehind (records pieces []))
      → Stays moment left_since may_leave old new (IsKept pieces doubted)
  closed_stays doubted fit stays = weaker moment left_since may_leave old new (IsClosedBehind
      (records pieces [])) (IsKept pieces doubted) stays (λ image closed. inl (closed_pieces pieces image fit closed))

  pub gated_stays : (piece behind : List ℕ) → AllFit pieces → IsWhole piece behind
      → Stays moment left_since may_leave old new (IsGated (records pieces []) behind)
      → Stays moment left_since may_leave old new (IsKept pieces (Some piece))
  gated_stays piece behind fit whole stays =
      weaker moment left_since may_leave old new (IsGated (records pieces []) behind) (IsKept pieces (Some piece)) stays
      (λ image gated. gated_pieces pieces piece behind image fit whole gated)
