use Rattle.std.proofs.Common.{◌≡◌, subst}
use Rattle.std.specs.Prelude.{IfOk, flat_map}
use Rattle.cell_calc.specs.Outcome.{text_within, value_by}
use Rattle.cell_calc.proofs.functions.gathering.joined_value.Goals as goal

pub returns : goal.returns
returns c = λ given stand.
    subst (λ x. IfOk c.joined_of.result
    (λ value. value ≡ value_by (λ texts. text_within (flat_map (λ text. text) texts)) x))
    (c.in_ok-gathered.ensures given stand) c.joined_of.ensures
