-- What a log keeps on its disk.
use Rattle.std.specs.Prelude.{◌≡◌, ◌⊎◌, ◌<◌, ◌≤◌, ◌^◌, ℕ, Bool, true, false, List, [], ◌∷◌, ◌++◌, length, Option}
use Rattle.std.specs.Prelude.{Some, None}
use Rattle.std.specs.List.{concat}
use Rattle.journal_disk.specs.Records.{HasPieces, framed, records, AllFit}

-- each image has P
abbrev pub Each : (List ℕ → Type 0) → (List ℕ → Type 0) → Type 0
Each images P = (image : List ℕ) → images image → P image

-- these bytes, a gate that isn't open, and anything behind it
pub record IsClosedBehind (front image : List ℕ) : Type 0 where
  pub gate : ℕ
  pub rest : List ℕ
  pub split : image ≡ front ++ gate ∷ rest
  pub shut : gate ≡ 1 → ⊥

-- these bytes, a gate, open or not, and these bytes behind it
pub record IsGated (front behind image : List ℕ) : Type 0 where
  pub gate : ℕ
  pub split : image ≡ front ++ gate ∷ behind

-- Behind the gate stands a whole piece, with its length before it and a closed gate behind it.
pub record IsWhole (piece behind : List ℕ) : Type 0 where
  pub rest : List ℕ
  pub split : framed 1 piece (0 ∷ rest) ≡ 1 ∷ behind
  pub fits : length piece < 2 ^ 64

-- The images behind a log's records: a closed gate, or a gate in doubt before one whole piece.
abbrev pub Ends : (List ℕ → Type 0) → List ℕ → Bool → Option (List ℕ) → Type 0
Ends images front in_doubt None = (in_doubt ≡ false) × Each images (IsClosedBehind front)
Ends images front in_doubt (Some piece) = (in_doubt ≡ true) × ((behind : List ℕ) × IsWhole piece behind
    × Each images (IsGated front behind))

-- A log keeps these pieces, and nothing or one piece whose gate is open to doubt.
pub record Keeps (images : List ℕ → Type 0) (end size : ℕ) (in_doubt : Bool) (pieces : List (List ℕ))
    (doubted : Option (List ℕ)) : Type 0 where
  pub fit : AllFit pieces
  pub place : end ≡ length (records pieces [])
  pub bytes : size ≡ length (concat pieces)
  pub ends : Ends images (records pieces []) in_doubt doubted

-- the image's pieces are these, with the doubted one behind them
abbrev pub HasDoubted : List (List ℕ) → Option (List ℕ) → List ℕ → Type 0
HasDoubted pieces None image = ⊥
HasDoubted pieces (Some piece) image = HasPieces image (pieces ++ piece ∷ [])

-- The image's pieces are these, then nothing or the doubted one.
abbrev pub IsKept : List (List ℕ) → Option (List ℕ) → List ℕ → Type 0
IsKept pieces doubted image = HasPieces image pieces ⊎ HasDoubted pieces doubted image

-- The image's pieces are these, then nothing, or the doubted one, or the one that is being put.
abbrev pub IsKeptOrPut : List (List ℕ) → Option (List ℕ) → List ℕ → List ℕ → Type 0
IsKeptOrPut pieces doubted piece image = IsKept pieces doubted image ⊎ HasPieces image (pieces ++ piece ∷ [])

-- the image has one byte at most
abbrev pub IsShort : List ℕ → Type 0
IsShort image = length image ≤ 1

-- the image's pieces are these
abbrev pub HasThese : List (List ℕ) → List ℕ → Type 0
HasThese pieces image = HasPieces image pieces

-- The image's pieces are these, or it is one of those that a crash might have left before.
abbrev pub MayHaveThese : (List ℕ → Type 0) → List (List ℕ) → List ℕ → Type 0
MayHaveThese before pieces image = before image ⊎ HasPieces image pieces
