-- What a write leaves of images that end with a gate.
use Rattle.std.proofs.Common.{◌≡◌, ℕ, ◌+◌, ◌<◌, ◌≤◌, List, [], ◌∷◌, ◌++◌, length, get_or, take, drop, sym, ◌∙◌, ap}
use Rattle.std.proofs.Common.{arith, append_assoc, length-append, take-append-drop}
use Rattle.std.proofs.lemmas.List.{take_at, drop_at, drop_more}
use Rattle.journal_disk.specs.Disk.{Holds, Torn, Follows}
use Rattle.journal_disk.specs.Log.{Each, IsClosedBehind, IsGated}

-- the gate joins what stands before it
pub joined : (front : List ℕ) (gate : ℕ) (rest : List ℕ) → front ++ gate ∷ rest ≡ (front ++ gate ∷ []) ++ rest
joined front gate rest = sym (append_assoc front (gate ∷ []) rest)

length-joined : (front : List ℕ) (gate : ℕ) → length (front ++ gate ∷ []) ≡ length front + 1
length-joined front gate = omega (arith, length-append front (gate ∷ []))

length-gated : (front : List ℕ) (gate : ℕ) (rest : List ℕ)
    → length (front ++ gate ∷ rest) ≡ length front + 1 + length rest
length-gated front gate rest = omega (arith, length-append front (gate ∷ rest))

-- a write behind a closed gate leaves it closed
closed_torn : (front : List ℕ) (at count : ℕ) (old new : List ℕ) → length front < at → IsClosedBehind front old
    → Torn at count old new → IsClosedBehind front new
closed_torn front at count old new behind closed torn =
    let k = length front + 1 in
    let k_in : k ≤ length old = omega (arith, ap length closed.split, length-gated front closed.gate closed.rest) in
    let kept : take k new ≡ front ++ closed.gate ∷ [] =
    torn.before k (omega arith) k_in ∙ ap (λ (l : List ℕ). take k l) (closed.split
    ∙ joined front closed.gate closed.rest) ∙ take_at (front
    ++ closed.gate ∷ []) closed.rest k (length-joined front closed.gate) in
    record {
      gate = closed.gate;
      rest = drop k new;
      split = sym (take-append-drop k new) ∙ ap (λ (l : List ℕ). l ++ drop k new) kept
          ∙ append_assoc front (closed.gate ∷ []) (drop k new);
      shut = closed.shut;
    }

pub each_closed : (front : List ℕ) (at count : ℕ) (old new : List ℕ → Type 0) → length front < at
    → Each old (IsClosedBehind front) → Follows (Torn at count) old new → Each new (IsClosedBehind front)
each_closed front at count old new behind all follows image left =
    let from = follows image left in
    closed_torn front at count from.0 image behind (all from.0 from.1) from.2

module _ (front behind : List ℕ) (at : ℕ) (is_at : length front ≡ at) where
  before_gate : (gate : ℕ) → take at (front ++ gate ∷ behind) ≡ front
  before_gate gate = take_at front (gate ∷ behind) at is_at

  behind_gate : (gate : ℕ) → drop (at + 1) (front ++ gate ∷ behind) ≡ behind
  behind_gate gate =
      let size : length (front ++ gate ∷ []) ≡ at + 1 = omega (arith, length-joined front gate, is_at) in
      ap (λ (l : List ℕ). drop (at + 1) l) (joined front gate behind)
      ∙ drop_at (front ++ gate ∷ []) behind (at + 1) size

  -- a torn write of the gate leaves some gate
  gated_torn : (old new : List ℕ) → IsGated front behind old → Torn at 1 old new → IsGated front behind new
  gated_torn old new gated torn =
      let size : length old ≡ at + 1 + length behind =
      omega (arith, ap length gated.split, length-gated front gated.gate behind, is_at) in
      let kept : take at new ≡ front = torn.before at (omega arith) (omega (arith, size)) ∙ ap (λ
      (l : List ℕ). take at l) gated.split ∙ before_gate gated.gate in
      let after : drop (at + 1) new ≡ behind = torn.after ∙ ap (λ (l : List ℕ). drop (at + 1) l) gated.split
      ∙ behind_gate gated.gate in
      let rest : drop at new ≡ get_or new at 0 ∷ behind =
      drop_more new at 0 (omega (arith, size, torn.no_shorter)) ∙ ap (λ (l : List ℕ). get_or new at 0 ∷ l) after in
      record {
        gate = get_or new at 0;
        split = sym (take-append-drop at new) ∙ ap (λ (l : List ℕ). l ++ drop at new) kept
            ∙ ap (λ (l : List ℕ). front ++ l) rest;
      }

  pub each_gated : (old new : List ℕ → Type 0) → Each old (IsGated front behind) → Follows (Torn at 1) old new
      → Each new (IsGated front behind)
  each_gated old new all follows image left =
      let from = follows image left in
      gated_torn from.0 image (all from.0 from.1) from.2

  pub gate_written : (gate : ℕ) (old new : List ℕ) → IsGated front behind old → Holds old at (gate ∷ []) new
      → new ≡ front ++ gate ∷ behind
  gate_written gate old new gated holds =
      holds
      ∙ ap (λ (l : List ℕ). l ++ (gate ∷ []) ++ drop (at + 1) old)
      (ap (λ (l : List ℕ). take at l) gated.split ∙ before_gate gated.gate)
      ∙ ap (λ (l : List ℕ). front ++ (gate ∷ []) ++ l)
      (ap (λ (l : List ℕ). drop (at + 1) l) gated.split ∙ behind_gate gated.gate)
      ∙ append_assoc front (gate ∷ []) behind

-- these bytes, and then anything
pub record BeginsWith (front image : List ℕ) : Type 0 where
  pub rest : List ℕ
  pub split : image ≡ front ++ rest

-- a write right behind a front makes it longer
pub written_on : (front : List ℕ) (at : ℕ) (bytes old new : List ℕ) → length front ≡ at → BeginsWith front old
    → Holds old at bytes new → BeginsWith (front ++ bytes) new
written_on front at bytes old new is_at begins holds = record {
  rest = drop (at + length bytes) old;
  split = holds ∙ ap (λ (l : List ℕ). l ++ bytes ++ drop (at + length bytes) old)
      (ap (λ (l : List ℕ). take at l) begins.split ∙ take_at front begins.rest at is_at);
}

pub begins_closed : (front : List ℕ) (image : List ℕ) (closed : IsClosedBehind front image)
    → BeginsWith (front ++ closed.gate ∷ []) image
begins_closed front image closed = record {
  rest = closed.rest;
  split = closed.split
      ∙ joined front closed.gate closed.rest;
}
