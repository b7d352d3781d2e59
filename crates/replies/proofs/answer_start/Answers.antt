use Rattle.replies.proofs.Laws.{said-line}
use Rattle.replies.proofs.answer_start.Goals as goal

pub returns-clause-nodes_after : goal.returns-clause-nodes_after
returns-clause-nodes_after c = said-line _ _ _ _ _ _ _ c.start-reply.ensures.answered c.put_reply.ensures.wrote
