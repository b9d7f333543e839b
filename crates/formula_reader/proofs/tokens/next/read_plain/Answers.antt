use Rattle.formula_reader.specs.Reading.{seen}
use Rattle.formula_reader.proofs.FirstBytes.{plain_reference, plain_number, plain_sign}
use Rattle.formula_reader.proofs.tokens.next.read_plain.Goals as goal

pub returns-in-Some : goal.returns-in-Some
returns-in-Some c =
    plain_reference c.args.text.now c.requires.word c.requires.title c.requires.text _ _ c.in-Some.ensures

pub returns-in-Some-read_number : goal.returns-in-Some-read_number
returns-in-Some-read_number c =
    plain_number c.args.text.now c.requires.word c.requires.title c.requires.text c.in-None.ensures _ _
    c.in-Some-read_number.ensures

pub returns-in-None-read_number : goal.returns-in-None-read_number
returns-in-None-read_number c =
    plain_sign c.args.text.now c.requires.word c.requires.title c.requires.text c.in-None.ensures
    c.in-None-read_number.ensures
    (seen c.read_sign.result) c.read_sign.ensures
