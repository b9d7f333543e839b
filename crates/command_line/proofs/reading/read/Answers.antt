use Rattle.std.proofs.Common.{◌≡◌, ◌∙◌, [], ap, map, string_bytes, subst}
use Rattle.clap.specs.Words.{App, HasMatchesOf, fault_of, is_simple_and_free}
use Rattle.command_line.proofs.Tops.{is_simple_sheets, simple}
use Rattle.command_line.proofs.reading.read.Goals as goal

pub returns-in-Ok : goal.returns-in-Ok
returns-in-Ok c =
    let words = map string_bytes c.args.words.now in
    let told = c.in_ok-program.ensures in
    let matches = subst (λ (app : App). HasMatchesOf app words c.in-Ok.matches) told c.in-Ok.ensures.matches in (
      subst (λ (app : App). fault_of app words ≡ []) told (c.in-Ok.ensures.kinds (ap is_simple_and_free told ∙ simple)),
      (matches is_simple_sheets).1,
    )
