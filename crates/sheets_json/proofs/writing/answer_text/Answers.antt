use Rattle.sheets_json.proofs.WholeLemmas.{answer_whole}
use Rattle.sheets_json.proofs.writing.answer_text.Goals as goal

pub compact-requires : goal.compact-requires
compact-requires c = rw c.in_ok-json.ensures (answer_whole c.args.answer.now)
