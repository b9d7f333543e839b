use Rattle.std.proofs.Common.{arith, ◌≡◌}
use Rattle.std.proofs.lemmas.Grind.{common_steps}
use Rattle.formula_reader.specs.Printed.{printed}
use Rattle.formula_reader.proofs.Bytes.{printed_spells}
use Rattle.formula_reader.proofs.ReadAgain.{read_again}
use Rattle.formula_reader.proofs.printing.print_formula.Goals as goal

pub returns-clause-bytes : goal.returns-clause-bytes
returns-clause-bytes g c =
    let is : c.of.result ≡ printed (g.S.SheetNames.sheets c.args.names.now) c.args.formula.now.pieces =
    grind (arith, common_steps) in
    rw is
    (printed_spells c.a1_laws.ensures (g.S.SheetNames.sheets c.args.names.now) c.args.formula.now.pieces c.requires)

pub returns-clause-again : goal.returns-clause-again
returns-clause-again g c =
    let is : c.of.result ≡ printed (g.S.SheetNames.sheets c.args.names.now) c.args.formula.now.pieces =
    grind (arith, common_steps) in
    λ here readable. rw is (read_again c.a1_laws.ensures
    (g.S.SheetNames.sheets c.args.names.now) here c.args.formula.now c.requires readable)
