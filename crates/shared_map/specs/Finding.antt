-- What is found at the keys of a map, and how a write changes it.
use Rattle.std.specs.Prelude.{ℕ, ◌≡◌, ◌≢◌, Option}

-- at the key stands the slot, and at each other key what stood there
pub record Updates {T : Type 0} (old new : ℕ → Option T) (key : ℕ) (slot : Option T) : Type 0 where
  pub changed : new key ≡ slot
  pub others : (other : ℕ) → other ≢ key → new other ≡ old other

-- at each key stands what stood there
pub record FindsSame {T : Type 0} (old new : ℕ → Option T) : Type 0 where
  pub same : (key : ℕ) → new key ≡ old key
