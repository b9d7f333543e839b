-- A list whose values are read one after the other.
use Rattle.std.proofs.Common.{◌≡◌, List, [], ◌∷◌, ◌++◌, Option, None, Some, refl, ap, append-nil, append_assoc}
use Rattle.std.specs.Prelude.{Ok, Err}
use Rattle.json_shapes.specs.declared.fault.ShapeFault.{ShapeFault}
use Rattle.json_shapes.specs.declared.fault.ShapeFault.TheVariants.{BadShape, Unsupported, BadNumber, TextLong}
use Rattle.json_shapes.specs.Reading.{Reading, first_of, with_fault, both, made}
use Rattle.json_shapes.specs.Shapes.{one_more}

-- what was read so far, and the rest
abbrev pub joined : {A : Type 0} → List A → Option ShapeFault → Reading (List A) → Reading (List A)
joined done None (Ok rest) = Ok (done ++ rest)
joined done None (Err fault) = Err fault
joined done (Some fault) (Ok rest) = Err fault
joined done (Some fault) (Err other) = Err (first_of fault other)

first_of-assoc : (a b c : ShapeFault) → first_of (first_of a b) c ≡ first_of a (first_of b c)
first_of-assoc BadShape b c = refl
first_of-assoc Unsupported BadShape c = refl
first_of-assoc Unsupported Unsupported BadShape = refl
first_of-assoc Unsupported Unsupported Unsupported = refl
first_of-assoc Unsupported Unsupported BadNumber = refl
first_of-assoc Unsupported Unsupported TextLong = refl
first_of-assoc Unsupported BadNumber BadShape = refl
first_of-assoc Unsupported BadNumber Unsupported = refl
first_of-assoc Unsupported BadNumber BadNumber = refl
first_of-assoc Unsupported BadNumber TextLong = refl
first_of-assoc Unsupported TextLong c = refl
first_of-assoc BadNumber BadShape c = refl
first_of-assoc BadNumber Unsupported BadShape = refl
first_of-assoc BadNumber Unsupported Unsupported = refl
first_of-assoc BadNumber Unsupported BadNumber = refl
first_of-assoc BadNumber Unsupported TextLong = refl
first_of-assoc BadNumber BadNumber BadShape = refl
first_of-assoc BadNumber BadNumber Unsupported = refl
first_of-assoc BadNumber BadNumber BadNumber = refl
first_of-assoc BadNumber BadNumber TextLong = refl
first_of-assoc BadNumber TextLong c = refl
first_of-assoc TextLong b c = refl

pub joined-none : {A : Type 0} → (rest : Reading (List A)) → joined [] None rest ≡ rest
joined-none (Ok rest) = refl
joined-none (Err fault) = refl

pub joined-item : {A : Type 0} → (done : List A) (fault : Option ShapeFault) (item : A) (rest : Reading (List A))
    → joined (done ++ item ∷ []) fault rest ≡ joined done fault (made one_more (both (Ok item) rest))
joined-item done None item (Ok rest) = ap Ok (append_assoc done (item ∷ []) rest)
joined-item done None item (Err other) = refl
joined-item done (Some fault) item (Ok rest) = refl
joined-item done (Some fault) item (Err other) = refl

pub joined-fault : {A : Type 0} → (done : List A) (fault : Option ShapeFault) (other : ShapeFault)
    (rest : Reading (List A))
    → joined done (Some (with_fault fault other)) rest
    ≡ joined done fault (made one_more (both {A = A} (Err other) rest))
joined-fault done None other (Ok rest) = refl
joined-fault done None other (Err more) = refl
joined-fault done (Some fault) other (Ok rest) = refl
joined-fault done (Some fault) other (Err more) = ap Err (first_of-assoc fault other more)

pub joined-all : {A : Type 0} → (done : List A) → joined done None (Ok []) ≡ Ok done
joined-all done = ap Ok (append-nil done)
