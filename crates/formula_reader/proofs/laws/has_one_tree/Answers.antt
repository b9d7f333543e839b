use Rattle.formula_reader.proofs.OneTree as once
use Rattle.formula_reader.proofs.laws.has_one_tree.Goals as goal

pub returns-clause-symbols : goal.returns-clause-symbols
returns-clause-symbols c = once.has_one_symbols c.a1_laws.ensures.quotes_end

pub returns-clause-tree : goal.returns-clause-tree
returns-clause-tree c = once.has_one_tree c.a1_laws.ensures.quotes_end
