use Rattle.std.proofs.Common.{arith}
use Rattle.desk.proofs.Splits.{number_parts}
use Rattle.desk.proofs.reading.split_number.Goals as goal

pub returns : goal.returns
returns c =
    let known = c.in_ok-number.ensures.cases in
    number_parts c.args.bytes.now c.in_ok-number.number.now c.in_ok-number.rest.now c.from_be_bytes.result
    (omega (arith, known.2)) (λ i. let small = c.type_inv.bytes i in omega (arith, small)) known.0 known.1
    c.from_be_bytes.ensures c.from_be_bytes.type_inv
