use Rattle.replies.proofs.Laws.{said-line}
use Rattle.replies.proofs.answer_attributes.Goals as goal

pub returns-clause-nodes_after : goal.returns-clause-nodes_after
returns-clause-nodes_after c = said-line _ _ _ _ _ _ _ c.attributes-reply.ensures.answered c.put_reply.ensures.wrote
