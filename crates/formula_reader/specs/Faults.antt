-- What is printed of a fault.
use Rattle.std.specs.Prelude.{ℕ, List, codes}
use Rattle.formula_reader.specs.declared.fault.FormulaFault.{FormulaFault}
use Rattle.formula_reader.specs.declared.fault.FormulaFault.TheVariants.{Tokens, References, Depth, NoMemory}

abbrev pub fault_text : FormulaFault → List ℕ
fault_text Tokens = codes "more than 512 tokens"
fault_text References = codes "more than 64 references and words"
fault_text Depth = codes "more than 32 brackets open at once"
fault_text NoMemory = codes "no memory"
