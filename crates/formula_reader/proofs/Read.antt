-- What a reader's answer says of whatever else stands at the front of the text.
use Rattle.std.proofs.Common.{◌≡◌, ℕ, List, [], ◌∷◌, false, refl, sym, ap}
use Rattle.std.specs.Prelude.{◌≢◌, ◌==◌, Some, None}
use Rattle.std.proofs.lemmas.Bool.{ne_eqb}
use Rattle.a1_notation.specs.Run.{begins}
use Rattle.formula_reader.specs.Reading.{Stands, Reads}

pub same_pair : {X Y : Type 0} (p q : X × Y) → Some p ≡ Some q → (p.0 ≡ q.0) × (p.1 ≡ q.1)
same_pair {X} {Y} p q e =
    let same : p ≡ q = cc in
    (ap (λ (p : X × Y). p.0) same, ap (λ (p : X × Y). p.1) same)

-- it is what was read
pub one_read : {X : Type 0} {grammar : List ℕ → X → List ℕ → Type 0} {text : List ℕ} {v v' : X} {r r' : List ℕ}
    → Reads grammar text (Some (v, r)) → Stands grammar text v' r' → (v ≡ v') × (r ≡ r')
one_read {X} {grammar} {text} {v} {v'} {r} {r'} reads stands = same_pair (v, r) (v', r') (reads.only v' r' stands)

-- nothing else stands there where nothing was read
pub none_read : {X : Type 0} {grammar : List ℕ → X → List ℕ → Type 0} {text : List ℕ} {v : X} {r : List ℕ}
    → Reads grammar text None → Stands grammar text v r → ⊥
none_read {X} {grammar} {text} {v} {r} reads stands =
    let none = reads.only v r stands in cc

-- a text that isn't a byte and a rest doesn't begin with it
pub not_first : (byte : ℕ) (text : List ℕ) → ((rest : List ℕ) → text ≢ byte ∷ rest)
    → false ≡ begins (λ b. b == byte) text
not_first byte [] none = refl
not_first byte (x ∷ xs) none = sym (ne_eqb x byte (λ e. none xs (rw e refl)))
