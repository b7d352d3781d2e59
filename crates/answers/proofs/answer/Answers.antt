use Rattle.replies.specs.Replies.{saying}
use Rattle.answers.specs.Answers.{turn_by, turn_of}
use Rattle.answers.proofs.answer.Goals as goal

pub returns-in_err-read-clause-nodes_after : goal.returns-in_err-read-clause-nodes_after
unfolding turn_of turn_by saying
returns-in_err-read-clause-nodes_after c = rw (c.from_residual.ensures, ← c.outline_room-outlines.ensures, ← c.in_err-read.ensures.outlines_after)
