use Rattle.sheets_json.proofs.WholeLemmas.{refusal_whole}
use Rattle.sheets_json.proofs.writing.refusal_text.Goals as goal

pub compact-requires : goal.compact-requires
compact-requires c = rw c.in_ok-json.ensures (refusal_whole c.args.status c.args.message.now)
