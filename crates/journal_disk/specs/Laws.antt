-- Laws of a disk in memory: what it reads is one of its images, and this moment is one since an earlier one.
use Rattle.std.specs.Prelude.{◌≡◌, ℕ, ◌+◌, ◌-◌, ◌≤◌, true, false, List, [], ◌∷◌, ◌++◌, length, take, drop, refl}
use mathlib.Core.Logic.{inl, inr}
use Rattle.std.proofs.Common.{sym, ◌∙◌, ap, subst, arith, length-append, length-take, length-drop, take-append-drop}
use Rattle.std.proofs.lemmas.List.{append-nil, take-append-le, take_all, drop_at, drop-drop, drop_all, length-take-le}
use Rattle.std.proofs.lemmas.Bool.{cases_lt}
use Rattle.journal_disk.specs.Disk.{Torn, most_bytes}
use Rattle.journal_disk.specs.Recorded.{DiskState, empty, over, state_after_call, state_after, IsTornBy, MayLeave}
use Rattle.journal_disk.specs.Recorded.{LeftSince}
use Rattle.journal_disk.specs.declared.calls.Call.{Call}
use Rattle.journal_disk.specs.declared.calls.Call.TheVariants.{Size, Read, Write, Sync}

-- what wasn't touched is torn to itself
pub torn_same : (at count : ℕ) (old : List ℕ) → Torn at count old old
torn_same at count old = record {
  before = λ front le within. refl;
  after = refl;
  no_shorter = omega arith;
  no_longer = omega arith;
}

take-shorter : (n m : ℕ) (l : List ℕ) → n ≤ m → n ≤ length l → take n (take m l) ≡ take n l
take-shorter n m l le within = sym (take-append-le n (take m l) (drop m l)
    (omega (arith, length-take m l, le, within))) ∙ ap (λ (k : List ℕ). take n k) (take-append-drop m l)

-- a part in the range is torn
pub torn_part : (at count last : ℕ) (old part : List ℕ) → at ≤ length old → last ≡ at + length part → last ≤ at + count
    → Torn at count old (take at old ++ part ++ drop last old)
torn_part at count last old part within last_is le =
    let front_size : length (take at old) ≡ at = length-take-le at old within in
    let front : length (take at old ++ part) ≡ last = omega
    (arith, length-append (take at old) part, front_size, last_is) in
    let size : length (take at old ++ part ++ drop last old) ≡ last + (length old - last) = omega
    (arith, length-append (take at old ++ part) (drop last old), length-drop last old, front) in
    let more = (at + count) - last in
    let all : last + more ≡ at + count = omega (arith, le) in
    let rest : drop last (take at old ++ part ++ drop last old) ≡ drop last old =
    drop_at (take at old ++ part) (drop last old) last front in
    record {
      before = λ n n_le n_in. take-append-le n (take at old ++ part) (drop last old)
          (omega (arith, n_le, front, last_is)) ∙ take-append-le n (take at old) part (omega (arith, n_le, front_size))
          ∙ take-shorter n at old n_le n_in;
      after = ap (λ (n : ℕ). drop n (take at old ++ part ++ drop last old)) (sym all)
          ∙ sym (drop-drop more last (take at old ++ part ++ drop last old)) ∙ ap (λ (l : List ℕ). drop more l) rest
          ∙ drop-drop more last old ∙ ap (λ (n : ℕ). drop n old) all;
      no_shorter = omega (arith, size);
      no_longer = omega (arith, size, le);
    }

-- bytes over others, also where there is a gap before them
pub torn_over : (at count : ℕ) (bytes old : List ℕ) → length bytes ≤ count → Torn at count old (over at bytes old)
torn_over at count bytes old le = elim (cases_lt (length old) at) [
  | inl past ↦
      let whole : over at bytes old ≡ old ++ bytes =
      ap (λ (l : List ℕ). l ++ bytes ++ drop (at + length bytes) old) (take_all at old (omega (arith, past)))
      ∙ ap (λ (l : List ℕ). old ++ bytes ++ l) (drop_all (at + length bytes) old (omega (arith, past)))
      ∙ append-nil (old ++ bytes) in
      let size : length (over at bytes old) ≡ length old + length bytes = omega
      (arith, ap length whole, length-append old bytes) in
      record {
        before = λ n n_le n_in. ap (λ (l : List ℕ). take n l) whole ∙ take-append-le n old bytes n_in;
        after = drop_all (at + count) (over at bytes old) (omega (arith, size, past, le))
            ∙ sym (drop_all (at + count) old (omega (arith, past)));
        no_shorter = omega (arith, size);
        no_longer = omega (arith, size, past, le);
      }
  | inr within ↦ torn_part at count (at + length bytes) old bytes within refl (omega (arith, le))
]

-- what reads give is one of the images
abbrev pub IsOneOf : DiskState → List ℕ → Type 0
IsOneOf held image = IsTornBy held.settled held.unsettled image

seen_after : (written : List ℕ) (held : DiskState) (call : Call) → IsOneOf held held.seen
    → IsOneOf (state_after_call written held call) (state_after_call written held call).seen
seen_after written held (Size failed) one = one
seen_after written held (Read failed) one = one
seen_after written held (Write at from count true) one = (held.seen, one, torn_same at count held.seen)
seen_after written held (Write at from count false) one = (
  held.seen,
  one,
  torn_over at count (take count (drop from written)) held.seen
      (omega (arith, length-take count (drop from written))),
)
seen_after written held (Sync true) one = one
seen_after written held (Sync false) one = refl

pub seen_torn : (written : List ℕ) (held : DiskState) (calls : List Call) → IsOneOf held held.seen
    → IsOneOf (state_after written held calls) (state_after written held calls).seen
seen_torn written held [] one = one
seen_torn written held (call ∷ calls) one =
    seen_torn written (state_after_call written held call) calls (seen_after written held call one)

pub seen_left : (written : List ℕ) (calls : List Call) (bytes : List ℕ) → bytes ≡ (state_after written empty calls).seen
    → length bytes ≤ most_bytes → MayLeave written calls bytes
seen_left written calls bytes told small = record {
  torn = subst
      (λ (l : List ℕ). IsOneOf (state_after written empty calls) l) (sym told) (seen_torn written empty calls refl);
  small = small;
}

pub now_left : (written : List ℕ) (calls : List Call) (t : ℕ) (image : List ℕ) → t ≤ length calls
    → MayLeave written calls image → LeftSince written calls t image
now_left written calls t image le left = record {
  count = length calls;
  later = le;
  made = omega arith;
  left = subst (λ (l : List Call). MayLeave written l image) (sym (take_all (length calls) calls (omega arith))) left;
}

pub left_now : (written : List ℕ) (calls : List Call) (image : List ℕ) → LeftSince written calls (length calls) image
    → MayLeave written calls image
left_now written calls image since = subst (λ
    (l : List Call). MayLeave written l image) (take_all since.count calls since.later) since.left
