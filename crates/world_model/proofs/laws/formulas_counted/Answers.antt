use Rattle.world_model.proofs.Formulas as formulas
use Rattle.world_model.proofs.laws.formulas_counted.Goals as goal

pub returns : goal.returns
returns c = record {
  written = formulas.formulas_written;
  none = formulas.no_formulas;
  within = formulas.formulas_within;
  all_within = formulas.formulas_within_all;
}
