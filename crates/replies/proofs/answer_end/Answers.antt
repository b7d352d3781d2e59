use mathlib.Core.Path.{refl}
use Rattle.replies.specs.Replies.{popped_room}
use Rattle.replies.proofs.Laws.{said-pop}
use Rattle.replies.proofs.answer_end.Goals as goal

pub returns-clause-nodes_after : goal.returns-clause-nodes_after
unfolding popped_room
returns-clause-nodes_after c = said-pop _ _ _ _ _ _ _ _ _ _ _ _ refl c.end-answer.ensures c.put_popped.ensures.wrote
