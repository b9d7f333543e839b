use Rattle.std.proofs.Common.{◌∙◌, string_bytes}
use Rattle.sheet_engine.proofs.Quoting.{in_quotes}
use Rattle.sheet_engine.proofs.dump.quoted.Goals as goal

pub returns : goal.returns
returns c =
    let (count, replaces) = c.in_ok-doubled.ensures.ok in
    in_quotes count c.args.title.now (string_bytes c.in_ok-doubled.doubled) c.of.result replaces
    (c.of.ensures ∙ c.in_ok-format.ensures.ok)
