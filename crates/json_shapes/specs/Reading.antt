-- What is read of a JSON value: what it says, or the first fault by the order of the rules. Each part of
-- a value is judged, whatever the others are.
use Rattle.std.specs.Prelude.{Option, None, Some, Result, Ok, Err}
use Rattle.serde_json.specs.Data.{Data}
use Rattle.json_shapes.specs.declared.fault.ShapeFault.{ShapeFault}
use Rattle.json_shapes.specs.declared.fault.ShapeFault.TheVariants.{BadShape, Unsupported, BadNumber, TextLong}

abbrev pub Reading : Type 0 → Type 0
Reading A = Result A ShapeFault

-- a form that a value may have, and what a value of that form says
abbrev pub Shape : Type 0 → Type 0
Shape A = Data → Reading A

-- the rules in their order: BadShape, Unsupported, BadNumber, TextLong
abbrev pub first_of : ShapeFault → ShapeFault → ShapeFault
first_of BadShape other = BadShape
first_of Unsupported BadShape = BadShape
first_of Unsupported Unsupported = Unsupported
first_of Unsupported BadNumber = Unsupported
first_of Unsupported TextLong = Unsupported
first_of BadNumber BadShape = BadShape
first_of BadNumber Unsupported = Unsupported
first_of BadNumber BadNumber = BadNumber
first_of BadNumber TextLong = BadNumber
first_of TextLong other = other

-- the faults so far, and one more
abbrev pub with_fault : Option ShapeFault → ShapeFault → ShapeFault
with_fault None other = other
with_fault (Some fault) other = first_of fault other

-- two parts
abbrev pub both : {A B : Type 0} → Reading A → Reading B → Reading (A × B)
both (Ok a) (Ok b) = Ok (a, b)
both (Ok a) (Err fault) = Err fault
both (Err fault) (Ok b) = Err fault
both (Err fault) (Err other) = Err (first_of fault other)

-- what is made of what was read
abbrev pub made : {A B : Type 0} → (A → B) → Reading A → Reading B
made make (Ok a) = Ok (make a)
made make (Err fault) = Err fault

-- what is there, or else the value has a wrong form
abbrev pub or_bad_shape : {A : Type 0} → Option A → Reading A
or_bad_shape None = Err BadShape
or_bad_shape (Some a) = Ok a
