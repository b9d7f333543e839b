-- Records of an image, and the pieces that they hold.
use Rattle.std.specs.Prelude.{◌≡◌, ◌<◌, ◌^◌, ℕ, List, [], ◌∷◌, ◌++◌, length}
use Rattle.std.specs.List.{concat}
use Rattle.std.specs.Int.{w64, to_be_bytes}

-- a gate, the length of a piece in eight bytes, most significant first, the piece, and then these bytes
abbrev pub framed : ℕ → List ℕ → List ℕ → List ℕ
framed gate piece rest = gate ∷ (to_be_bytes w64 (length piece) ++ (piece ++ rest))

-- At the front of an image stands a record: an open gate (1), a length, a piece, and at least one byte behind them.
pub record IsRecord (image piece rest : List ℕ) : Type 0 where
  pub split : image ≡ framed 1 piece rest
  pub fits : length piece < 2 ^ 64
  pub followed : 0 < length rest

-- no record stands there
abbrev pub NoRecord : List ℕ → Type 0
NoRecord image = (piece rest : List ℕ) → IsRecord image piece rest → ⊥

-- The pieces of an image: those of the records from its first byte on, one behind another, until none stands.
abbrev pub HasPieces : List ℕ → List (List ℕ) → Type 0
HasPieces image [] = NoRecord image
HasPieces image (piece ∷ pieces) = (rest : List ℕ) × IsRecord image piece rest × HasPieces rest pieces

-- records of these pieces, and then these bytes
abbrev pub records : List (List ℕ) → List ℕ → List ℕ
records [] rest = rest
records (piece ∷ pieces) rest = framed 1 piece (records pieces rest)

-- their lengths can be written in eight bytes
abbrev pub AllFit : List (List ℕ) → Type 0
AllFit [] = Unit {0}
AllFit (piece ∷ pieces) = (length piece < 2 ^ 64) × AllFit pieces

-- an image has one list of pieces
abbrev pub OneListOfPieces : Type 0
OneListOfPieces = (image : List ℕ) (pieces others : List (List ℕ)) → HasPieces image pieces → HasPieces image others
    → pieces ≡ others

-- Where the byte at the end of the records isn't 1, the bytes behind it don't change the pieces.
abbrev pub ClosedGateEnds : Type 0
ClosedGateEnds = (pieces : List (List ℕ)) (gate : ℕ) (rest : List ℕ) → AllFit pieces → (gate ≡ 1 → ⊥)
    → HasPieces (records pieces (gate ∷ rest)) pieces

-- Up to a place the image is records that hold so many bytes, and something stands there.
pub record IsFront (image : List ℕ) (place held : ℕ) : Type 0 where
  pub pieces : List (List ℕ)
  pub rest : List ℕ
  pub split : image ≡ records pieces rest
  pub followed : 0 < length rest
  pub fit : AllFit pieces
  pub at : place ≡ length (records pieces [])
  pub bytes : held ≡ length (concat pieces)
