-- Runs of bytes: all that stand there of one class.
use Rattle.std.specs.Prelude.{◌≡◌, ℕ, Bool, false, List, [], ◌∷◌, IsTrue}
use Rattle.std.specs.List.{list_all}

-- the first byte is of the class
abbrev pub begins : (ℕ → Bool) → List ℕ → Bool
begins class [] = false
begins class (byte ∷ rest) = class byte

-- each byte of the run is of the class, and none follows that is
pub record IsRun (class : ℕ → Bool) (run rest : List ℕ) : Type 0 where
  pub all : IsTrue (list_all class run)
  pub ends : begins class rest ≡ false
