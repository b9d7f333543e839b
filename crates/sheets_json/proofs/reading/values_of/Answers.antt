use Rattle.std.proofs.Common.{◌≡◌, subst}
use Rattle.std.specs.Prelude.{◌⊎◌, Err}
use Rattle.cell_value.specs.declared.entered.Mode.{Mode}
use Rattle.sheets_json.specs.declared.call.CallFault.TheVariants.{NoMemory}
use Rattle.json_shapes.specs.Members.{object_of}
use Rattle.sheets_json.specs.ValueRanges.{value_range}
use Rattle.sheets_json.specs.Bodies.{body_as}
use Rattle.sheets_json.proofs.reading.values_of.Goals as goal

pub returns : goal.returns
returns c =
    subst (λ (mode : Mode). (c.read_body.result ≡ body_as (object_of (value_range mode)) c.args.body.now)
    ⊎ (c.read_body.result ≡ Err NoMemory)) c.mode_of-mode.ensures c.read_body.ensures
