use Rattle.std.proofs.lemmas.Result.{IfOk-weaker}
use Rattle.sheet_engine.specs.Dump.{AreLines, Dump, dump_calls}
use Rattle.sheet_engine.proofs.sheets.SheetsEngine.dump.Goals as goal

pub returns : goal.returns
returns c = λ entries stands.
    IfOk-weaker c.dump.result (AreLines c.args.world.now (dump_calls c.args.world.now)) (Dump entries)
    (λ text is. record { books = c.args.world.now; stands = stands; are_lines = is }) c.dump.ensures
