use Rattle.conversation.specs.Responses.{no_memory_text}
use Rattle.conversation.proofs.closing.no_memory_reply.Goals as goal

pub returns : goal.returns
unfolding no_memory_text
returns c = c.no_memory_response.ensures
