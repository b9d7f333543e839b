use Rattle.conversation.proofs.ConversationLemmas.{begins_talk}
use Rattle.conversation.proofs.laws.cut_off_laws.Goals as goal

pub returns : goal.returns
returns c = begins_talk c.conversation_laws.ensures.one_next
