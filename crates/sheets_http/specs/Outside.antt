-- What the devices outside the program are to a contract: what they hold, where they tell it, and
-- how often they have failed.
use Rattle.std.specs.Prelude.{◌≡◌, ℕ, ◌<◌, Bool, true, List, [], ◌++◌, length, take, Option, None, Result, Ok, Err, IfSome}
use Rattle.std.specs.Option.{option_map}
use Rattle.std.specs.Borrow.{GName}
use Rattle.cell_value.specs.declared.failure.Failed.{Failed}
use Rattle.sheets_http.specs.declared.outside.SinkFault.{SinkFault}
use Rattle.sheets_http.specs.declared.outside.SinkFault.TheVariants as fault

-- one side of a device that is read and written, which a call on the other side leaves as it is: its
-- bytes where it tells them, its count of faults, how often a write found no memory, whether it is
-- steady, and the references that the device is made of
pub record Side : Type 0 where
  pub bytes : Option (List ℕ)
  pub faults : ℕ
  pub shortages : ℕ
  pub steady : Bool
  pub references : List GName

-- what a device with one side has beside it
abbrev pub no_side : Side
no_side = record { bytes = None; faults = 0; shortages = 0; steady = true; references = [] }

-- what is left to be read begins with the bytes that a read gave, and loses them; a read that
-- failed takes nothing
abbrev pub Gives : Option (List ℕ) → Option (List ℕ) → List ℕ → Result ℕ Failed → Type 0
Gives left left_after buffer (Ok count) = left ≡ option_map (λ rest. take count buffer ++ rest) left_after
Gives left left_after buffer (Err failed) = left ≡ left_after

-- a read into a buffer with room that gives nothing was made at the end
abbrev pub EndsThere : Option (List ℕ) → List ℕ → Result ℕ Failed → Type 0
EndsThere left buffer result = result ≡ Ok 0 → 0 < length buffer → IfSome left (λ rest. rest ≡ [])

-- what was written grows by the first bytes of the piece: by as many as were answered, by none
-- where memory ran out, and by some where the device failed
abbrev pub Takes : Option (List ℕ) → Option (List ℕ) → List ℕ → Result ℕ SinkFault → Type 0
Takes written written_after piece (Ok count) =
    written_after ≡ option_map (λ bytes. bytes ++ take count piece) written
Takes written written_after piece (Err fault.NoMemory) = written_after ≡ written
Takes written written_after piece (Err fault.Failed) =
    (count : ℕ) × (written_after ≡ option_map (λ bytes. bytes ++ take count piece) written)

-- what was written grows by all of the bytes
abbrev pub TakesAll : Option (List ℕ) → Option (List ℕ) → List ℕ → Type 0
TakesAll written written_after bytes = written_after ≡ option_map (λ before. before ++ bytes) written

-- what was written grows by the first bytes, by some or none of them
abbrev pub TakesSome : Option (List ℕ) → Option (List ℕ) → List ℕ → Type 0
TakesSome written written_after bytes =
    (count : ℕ) × (written_after ≡ option_map (λ before. before ++ take count bytes) written)
