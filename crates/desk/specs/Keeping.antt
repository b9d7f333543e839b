-- What the keeper of a journal does, where it tells its bytes.
use Rattle.std.specs.Prelude.{◌≡◌, ◌⊎◌, ℕ, ◌==◌, Bool, ◌&&◌, List, ◌++◌, length, take, Option, None, Some, Result, Ok, Err}
use Rattle.std.specs.Option.{option_map}
use Rattle.std.specs.List.{find}
use Rattle.cell_value.specs.Calls.{one_more}
use Rattle.cell_value.specs.FaultCount.{Rose}
use Rattle.desk.specs.declared.keeper.PutFault.{PutFault}
use Rattle.desk.specs.declared.keeper.PutFault.TheVariants as fault

-- the first bytes, and this piece behind them
abbrev pub with_piece : ℕ → List ℕ → List ℕ → List ℕ
with_piece at piece bytes = take at bytes ++ piece

-- the same, or the first bytes and a beginning of the piece
abbrev pub IsTornPut : Option (List ℕ) → Option (List ℕ) → ℕ → List ℕ → Type 0
IsTornPut kept kept_after at piece =
    (kept_after ≡ kept) ⊎ ((count : ℕ) × (kept_after ≡ option_map (with_piece at (take count piece)) kept))

-- What a put leaves of the kept bytes: the first ones and the piece behind them; the same, where memory ran out; the
-- same, or the first ones and a beginning of the piece, where the keeper failed.
abbrev pub Puts : {A : Type 0} → Option (List ℕ) → Option (List ℕ) → ℕ → List ℕ → Result A PutFault → Type 0
Puts kept kept_after at piece (Ok done) = kept_after ≡ option_map (with_piece at piece) kept
Puts kept kept_after at piece (Err fault.NoMemory) = kept_after ≡ kept
Puts kept kept_after at piece (Err fault.Failed) = IsTornPut kept kept_after at piece

-- ---- in memory

-- The bytes that a keeper in memory has, how many puts were made, which of them fail, counted from 1, with how many
-- bytes of the piece they leave behind the first ones, or nothing that they change, how often it has failed, and how
-- often a put found no memory. A load fails where 0 is among the numbers.
pub record KeptBytes : Type 0 where
  pub bytes : List ℕ
  pub puts : ℕ
  pub failing : List (ℕ × Option ℕ)
  pub faults : ℕ
  pub shortages : ℕ

-- what the call of this number leaves, if it fails: the first pair with that number says it
abbrev pub outage : List (ℕ × Option ℕ) → ℕ → Option (Option ℕ)
outage failing number =
    option_map (λ pair. pair.1) (find (λ pair. pair.0 == number) failing)

-- the next put fails, and leaves this
abbrev pub next_outage : KeptBytes → Option (Option ℕ)
next_outage keeper = outage keeper.failing (one_more keeper.puts)

-- the bytes that a put leaves which fails as a pair says: the same where the pair has no number, else the first ones
-- and so many of the piece
abbrev pub torn_as : Option ℕ → ℕ → List ℕ → List ℕ → List ℕ
torn_as None at piece bytes = bytes
torn_as (Some count) at piece bytes = with_piece at (take count piece) bytes

-- it leaves these, or found no memory and leaves all as they were
abbrev pub LeavesTold : Option ℕ → KeptBytes → ℕ → List ℕ → KeptBytes → Type 0
LeavesTold left keeper at piece after =
    (after.bytes ≡ torn_as left at piece keeper.bytes)
    ⊎ ((after.bytes ≡ keeper.bytes) × Rose keeper.shortages after.shortages)

-- no call fails, and none has failed
abbrev pub never_fails : KeptBytes → Bool
never_fails keeper = (length keeper.failing == 0) && (keeper.faults == 0)
