-- What the calls of a disk do to its image, and what a crash may leave of it.
use Rattle.std.specs.Prelude.{◌≡◌, ◌⊎◌, ℕ, ◌+◌, ◌^◌, ◌≤◌, max, List, ◌++◌, length, take, drop, Result, OnErr, IfErr}
use Rattle.cell_value.specs.FaultCount.{Rose}

-- the most bytes that an image has
abbrev pub most_bytes : ℕ
most_bytes = 2 ^ 62

-- new is old with these bytes from this place on
abbrev pub Holds : List ℕ → ℕ → List ℕ → List ℕ → Type 0
Holds old at bytes new = new ≡ take at old ++ bytes ++ drop (at + length bytes) old

-- A write of so many bytes that a crash cuts short: any bytes in the range and past the old end, the same elsewhere,
-- and any size from the old one to the new one.
pub record Torn (at count : ℕ) (old new : List ℕ) : Type 0 where
  pub before : (front : ℕ) → front ≤ at → front ≤ length old → take front new ≡ take front old
  pub after : drop (at + count) new ≡ drop (at + count) old
  pub no_shorter : length old ≤ length new
  pub no_longer : length new ≤ max (length old) (at + count)

-- each new image is an old one after a step
abbrev pub Follows : (List ℕ → List ℕ → Type 0) → (List ℕ → Type 0) → (List ℕ → Type 0) → Type 0
Follows step old new = (image : List ℕ) → new image → (earlier : List ℕ) × old earlier × step earlier image

-- this image and no other
abbrev pub Only : List ℕ → (List ℕ → Type 0) → Type 0
Only bytes images = (image : List ℕ) → images image → image ≡ bytes

-- Time goes on: a crash since a moment might have left what it might have left before, or what it may leave now.
pub record Elapses (before now : ℕ) (past since : ℕ → List ℕ → Type 0) (may_leave : List ℕ → Type 0) : Type 0 where
  pub later : before ≤ now
  pub nothing_else : (t : ℕ) (image : List ℕ) → t ≤ before → since t image → past t image ⊎ may_leave image
  pub keeps : (t : ℕ) (image : List ℕ) → t ≤ before → past t image → since t image

-- A crash at any moment since old leaves an image that has P.
pub record LeavesOnly {D : Type 0} (moment : D → ℕ) (left_since : D → ℕ → List ℕ → Type 0) (old new : D)
    (P : List ℕ → Type 0) : Type 0 where
  pub later : moment old ≤ moment new
  pub each : (image : List ℕ) → left_since new (moment old) image → P image
  -- for a run that began earlier
  pub before : (t : ℕ) (image : List ℕ) → t ≤ moment old → left_since new t image → left_since old t image ⊎ P image

-- the count of faults never falls, and rose where the call failed
pub record RisesAtErr {T E : Type 0} (before now : ℕ) (result : Result T E) : Type 0 where
  pub later : before ≤ now
  pub failed : OnErr result (Rose before now)

-- the count of faults never falls, and rose where the call failed by this fault
pub record RisesAtFault {T E : Type 0} (fault : E) (before now : ℕ) (result : Result T E) : Type 0 where
  pub later : before ≤ now
  pub failed : IfErr result (λ given. given ≡ fault → Rose before now)

-- A crash at any moment since old leaves an image that has P, and so does a crash at the new moment.
pub record Stays {D : Type 0} (moment : D → ℕ) (left_since : D → ℕ → List ℕ → Type 0) (may_leave : D → List ℕ → Type 0)
    (old new : D) (P : List ℕ → Type 0) : Type 0 where
  pub moments : LeavesOnly moment left_since old new P
  pub now : (image : List ℕ) → may_leave new image → P image

-- A run that only read: the bytes are the same, and a crash at any moment of it leaves an image that it might have left
-- before.
pub record OnlyRead {D : Type 0} (seen : D → List ℕ) (may_leave : D → List ℕ → Type 0) (moment : D → ℕ)
    (left_since : D → ℕ → List ℕ → Type 0) (old new : D) : Type 0 where
  pub same : seen new ≡ seen old
  pub no_more : (image : List ℕ) → may_leave new image → may_leave old image
  pub later : moment old ≤ moment new
  pub nothing_else : (t : ℕ) (image : List ℕ) → t ≤ moment old → left_since new t image
      → left_since old t image ⊎ may_leave old image
