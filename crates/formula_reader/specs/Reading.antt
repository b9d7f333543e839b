-- What a reader of the front of a text answers: the value that stands there and the rest behind it, or
-- None. A grammar tells which lexemes have which values before which rests.
use Rattle.std.specs.Prelude.{◌≡◌, ℕ, List, ◌++◌, Option, Some, IfSome}
use Rattle.std.specs.Option.{option_map}
use denote.Ref.{Bor}

-- the value stands at the front of the text, before the rest
pub record Stands {X : Type 0} (grammar : List ℕ → X → List ℕ → Type 0)
    (text : List ℕ) (value : X) (rest : List ℕ) : Type 0 where
  pub lexeme : List ℕ
  pub spelled : text ≡ lexeme ++ rest
  pub is : grammar lexeme value rest

-- what is read stands there, and all that stands there is read: so one value does, before one rest
pub record Reads {X : Type 0} (grammar : List ℕ → X → List ℕ → Type 0)
    (text : List ℕ) (answer : Option (X × List ℕ)) : Type 0 where
  pub found : IfSome answer (λ read. Stands grammar text read.0 read.1)
  pub only : (value : X) (rest : List ℕ) → Stands grammar text value rest → answer ≡ Some (value, rest)

-- an answer with the bytes of the lent rest
abbrev pub seen : {X : Type 0} → Option (X × Bor (List ℕ)) → Option (X × List ℕ)
seen answer = option_map (λ read. (read.0, read.1.now)) answer
