-- The message of a refusal by a rule on shapes (`message` of Google's API errors), which is this project's profile.
use Rattle.std.specs.Prelude.{ℕ, List, codes}
use Rattle.json_shapes.specs.declared.fault.ShapeFault.{ShapeFault}
use Rattle.json_shapes.specs.declared.fault.ShapeFault.TheVariants as shape

abbrev pub shape_fault_text : ShapeFault → List ℕ
shape_fault_text shape.BadShape = codes "BadShape"
shape_fault_text shape.Unsupported = codes "Unsupported"
shape_fault_text shape.BadNumber = codes "BadNumber"
shape_fault_text shape.TextLong = codes "TextLong"
